-- Wishes case by case, and by their rows.
use Prim.Native.Nat.{ℕ, ◌+◌, ◌≤◌}
use mathlib.Core.Path.{refl}
use lib.Dec.{eqb, lit≤}
use lib.IntN.{ℤ, pos}
use lib.ListN.{length}
use Rattle.std.specs.Prelude.{Some, None}
use Rattle.wire.specs.Choice.{pick}
use Rattle.layouts.specs.Layouts.{echo_bytes, size_of}
use Rattle.items.specs.Items.{echoes, Item, name, serial, interface, versions}
use Rattle.items.specs.Items.{status, state, channel_setup, frequency, gain, clock, rate, packet_size}
use Rattle.items.specs.Table.{offered}
use Rattle.wishes.specs.declared.StateFields.{StateFields}
use Rattle.wishes.specs.declared.Wish.{Wish}
use Rattle.wishes.specs.declared.Wish.TheVariants.{AskName, AskSerial, AskInterface, AskVersion, AskStatus, SetState, AskState}
use Rattle.wishes.specs.declared.Wish.TheVariants.{SetChannelSetup, AskChannelSetup, SetFrequency, AskFrequency, AskFrequencyRange}
use Rattle.wishes.specs.declared.Wish.TheVariants.{SetGain, AskGain, SetClock, AskClock}
use Rattle.wishes.specs.declared.Wish.TheVariants.{SetRate, AskRate, SetPacketSize, AskPacketSize}
use Rattle.wishes.specs.Wishes.{asking, WishValues, OneForEach, Among, width_in, layout_of}

-- what is shown of each case holds of every wish
pub by_wish : (P : Wish → Type 0) → P AskName → P AskSerial → P AskInterface → ((id : ℕ) → P (AskVersion id))
    → P AskStatus → ((f : StateFields) → P (SetState f)) → P AskState → ((n : ℕ) → P (SetChannelSetup n))
    → P AskChannelSetup → ((c hz : ℕ) → P (SetFrequency c hz)) → ((c : ℕ) → P (AskFrequency c))
    → ((c : ℕ) → P (AskFrequencyRange c)) → ((c : ℕ) (g : ℤ) → P (SetGain c g)) → ((c : ℕ) → P (AskGain c))
    → ((c hz : ℕ) → P (SetClock c hz)) → ((c : ℕ) → P (AskClock c)) → ((c hz : ℕ) → P (SetRate c hz))
    → ((c : ℕ) → P (AskRate c)) → ((n : ℕ) → P (SetPacketSize n)) → P AskPacketSize → (w : Wish) → P w
by_wish P h _ _ _ _ _ _ _ _ _ _ _ _ _ _ _ _ _ _ _ AskName = h
by_wish P _ h _ _ _ _ _ _ _ _ _ _ _ _ _ _ _ _ _ _ AskSerial = h
by_wish P _ _ h _ _ _ _ _ _ _ _ _ _ _ _ _ _ _ _ _ AskInterface = h
by_wish P _ _ _ h _ _ _ _ _ _ _ _ _ _ _ _ _ _ _ _ (AskVersion id) = h id
by_wish P _ _ _ _ h _ _ _ _ _ _ _ _ _ _ _ _ _ _ _ AskStatus = h
by_wish P _ _ _ _ _ h _ _ _ _ _ _ _ _ _ _ _ _ _ _ (SetState f) = h f
by_wish P _ _ _ _ _ _ h _ _ _ _ _ _ _ _ _ _ _ _ _ AskState = h
by_wish P _ _ _ _ _ _ _ h _ _ _ _ _ _ _ _ _ _ _ _ (SetChannelSetup n) = h n
by_wish P _ _ _ _ _ _ _ _ h _ _ _ _ _ _ _ _ _ _ _ AskChannelSetup = h
by_wish P _ _ _ _ _ _ _ _ _ h _ _ _ _ _ _ _ _ _ _ (SetFrequency c hz) = h c hz
by_wish P _ _ _ _ _ _ _ _ _ _ h _ _ _ _ _ _ _ _ _ (AskFrequency c) = h c
by_wish P _ _ _ _ _ _ _ _ _ _ _ h _ _ _ _ _ _ _ _ (AskFrequencyRange c) = h c
by_wish P _ _ _ _ _ _ _ _ _ _ _ _ h _ _ _ _ _ _ _ (SetGain c g) = h c g
by_wish P _ _ _ _ _ _ _ _ _ _ _ _ _ h _ _ _ _ _ _ (AskGain c) = h c
by_wish P _ _ _ _ _ _ _ _ _ _ _ _ _ _ h _ _ _ _ _ (SetClock c hz) = h c hz
by_wish P _ _ _ _ _ _ _ _ _ _ _ _ _ _ _ h _ _ _ _ (AskClock c) = h c
by_wish P _ _ _ _ _ _ _ _ _ _ _ _ _ _ _ _ h _ _ _ (SetRate c hz) = h c hz
by_wish P _ _ _ _ _ _ _ _ _ _ _ _ _ _ _ _ _ h _ _ (AskRate c) = h c
by_wish P _ _ _ _ _ _ _ _ _ _ _ _ _ _ _ _ _ _ h _ (SetPacketSize n) = h n
by_wish P _ _ _ _ _ _ _ _ _ _ _ _ _ _ _ _ _ _ _ h AskPacketSize = h

-- and what is shown of each kind and item, of every wish's row
pub of_row : (P : Item → ℕ → Type 0) → P name 1 → P serial 1 → P interface 1 → P versions 1 → P status 1 → P state 0
    → P state 1 → P channel_setup 0 → P channel_setup 1 → P frequency 0 → P frequency 1 → P frequency 2 → P gain 0
    → P gain 1 → P clock 0 → P clock 1 → P rate 0 → P rate 1 → P packet_size 0 → P packet_size 1
    → (w : Wish) → P (asking w).item (asking w).kind
of_row P a b c d e f g h i j k l m n o p q r s t =
    by_wish (λ w. P (asking w).item (asking w).kind) a b c (λ _. d) e (λ _. f) g (λ _. h) i (λ _ _. j) (λ _. k) (λ _. l)
    (λ _ _. m) (λ _. n) (λ _ _. o) (λ _. p) (λ _ _. q) (λ _. r) (λ _. s) t

-- no message is longer than ten bytes, whatever byte it echoes
pub short_message : (w : Wish) → size_of (layout_of w) ≤ 10
short_message w = all (asking w).echo
  where
    long : ℕ → Item → ℕ → ℕ
    long echo i k = 4 + length (echo_bytes (pick (eqb (echoes i.echoed) 1) (Some echo) None)) + width_in i (offered i k)

    all : (echo : ℕ) → long echo (asking w).item (asking w).kind ≤ 10
    all echo = search (of_row (λ i k. long echo i k ≤ 10), lit≤)

-- "One wish for each kind and item above."
pub one_for_each : OneForEach
one_for_each v = refl

-- none of these values is looked at
abbrev no_state : StateFields
no_state = record { run = 0; mode = 0 }

-- values of which every number is n
abbrev holding : ℕ → ℕ → StateFields → ℤ → WishValues
holding n channel state gain =
    record {
      id = n;
      state = state;
      setup = n;
      channel = channel;
      frequency = n;
      gain = gain;
      clock = n;
      rate = n;
      size = n;
    }

abbrev on_channel : ℕ → ℕ → WishValues
on_channel channel n = holding n channel no_state (pos 0)

abbrev any : WishValues
any = on_channel 0 0

pub every_wish : (w : Wish) → Among w
every_wish =
    by_wish Among
    (record { values = any; place = 0; is = refl })
    (record { values = any; place = 1; is = refl })
    (record { values = any; place = 2; is = refl })
    (λ id. record { values = on_channel 0 id; place = 3; is = refl })
    (record { values = any; place = 4; is = refl })
    (λ f. record { values = holding 0 0 f (pos 0); place = 5; is = refl })
    (record { values = any; place = 6; is = refl })
    (λ n. record { values = on_channel 0 n; place = 7; is = refl })
    (record { values = any; place = 8; is = refl })
    (λ c hz. record { values = on_channel c hz; place = 9; is = refl })
    (λ c. record { values = on_channel c 0; place = 10; is = refl })
    (λ c. record { values = on_channel c 0; place = 11; is = refl })
    (λ c g. record { values = holding 0 c no_state g; place = 12; is = refl })
    (λ c. record { values = on_channel c 0; place = 13; is = refl })
    (λ c hz. record { values = on_channel c hz; place = 14; is = refl })
    (λ c. record { values = on_channel c 0; place = 15; is = refl })
    (λ c hz. record { values = on_channel c hz; place = 16; is = refl })
    (λ c. record { values = on_channel c 0; place = 17; is = refl })
    (λ n. record { values = on_channel 0 n; place = 18; is = refl })
    (record { values = any; place = 19; is = refl })
