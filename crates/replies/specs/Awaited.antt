-- The replies that some valid box could give to a wish. "Replies have the item's set layout with the current value; the
-- channel byte or id is echoed."
use Rattle.std.specs.Prelude.{ℕ, Bool, true, false, List, [], ◌∷◌, ◌++◌, eqb, get_or}
use Rattle.wire.specs.Choice.{pick, one_of}
use Rattle.wire.specs.Number.{bytes, number, field}
use Rattle.wire.specs.Signed.{coded, signed}
use Rattle.wire.specs.Header.{type_range, type_reply, type_range_reply}
use Rattle.rates.specs.Rate.{rate_of, nearest_of}
use Rattle.rates.specs.Table.{rates}
use Rattle.tuning.specs.Bands.{bands, in_bands, range_bytes}
use Rattle.tuning.specs.Word.{is_clock}
use Rattle.layouts.specs.declared.Layout.{Layout}
use Rattle.layouts.specs.Layouts.{laid, value_place}
use Rattle.items.specs.Settings.{is_gain, is_size, is_setup, holds_serial}
use Rattle.items.specs.Items.{name_bytes, interface_number, version_table, status_byte, idle, run, state_bytes}
use Rattle.wishes.specs.declared.StateFields.{StateFields}
use Rattle.wishes.specs.declared.Wish.{Wish}
use Rattle.wishes.specs.declared.Wish.TheVariants.{AskName, AskSerial, AskInterface, AskVersion, AskStatus, SetState, AskState}
use Rattle.wishes.specs.declared.Wish.TheVariants.{SetChannelSetup, AskChannelSetup, SetFrequency, AskFrequency, AskFrequencyRange}
use Rattle.wishes.specs.declared.Wish.TheVariants.{SetGain, AskGain, SetClock, AskClock}
use Rattle.wishes.specs.declared.Wish.TheVariants.{SetRate, AskRate, SetPacketSize, AskPacketSize}
use Rattle.wishes.specs.Wishes.{asking, layout_of}
use Rattle.replies.specs.declared.Reply.{Reply}
use Rattle.replies.specs.declared.Reply.TheVariants.{Name, Serial, Interface, Version, Status, State}
use Rattle.replies.specs.declared.Reply.TheVariants.{ChannelSetup, Frequency, FrequencyRange, Gain, Clock, Rate, PacketSize}

-- What a wish waits for: a value, as a number in so many bytes; which values a valid box could give; and what each says.
pub record Awaited : Type 0 where
  pub width : ℕ
  pub could : ℕ → Bool
  pub says : ℕ → Reply

abbrev pub value : ℕ → (ℕ → Bool) → (ℕ → Reply) → Awaited
value width could says = record { width = width; could = could; says = says }

-- 0005 status: 0B idle, 0C running
abbrev pub is_status : ℕ → Bool
is_status n = one_of n (status_byte false ∷ status_byte true ∷ [])

-- 0018 state: "Replies hold 80, run byte, mode, 00."
abbrev pub state_shown : ℕ → ℕ → ℕ
state_shown run mode = number (state_bytes run mode)

abbrev pub says_state : ℕ → Reply
says_state n = State (record { run = get_or (bytes 4 n) 1 0; mode = get_or (bytes 4 n) 2 0 })

-- idle keeps the mode, which may be either
abbrev pub idle_shown : List ℕ
idle_shown = state_shown idle 0x80 ∷ state_shown idle 0x00 ∷ []

abbrev pub run_shown : List ℕ
run_shown = state_shown run 0x80 ∷ state_shown run 0x00 ∷ []

abbrev pub is_state : ℕ → Bool
is_state n = one_of n (idle_shown ++ run_shown)

-- a set to idle is answered with the mode that was kept, a set to run with the mode that was set
abbrev pub state_could : StateFields → ℕ → Bool
state_could f n = pick (eqb f.run idle) (one_of n idle_shown) (eqb n (state_shown run f.mode))

-- 0004 versions: the two bytes of an id
abbrev pub version_number : ℕ → ℕ
version_number id = number (get_or version_table id [])

-- 00B8 rate: one of the 616 achieved rates
abbrev pub is_rate : ℕ → Bool
is_rate hz = one_of hz rates

-- The table of replies. A set is answered with the value set, a request with any value that the item may have; a rate with
-- the achieved rate of its D.
abbrev pub awaited : Wish → Awaited
awaited AskName = value 7 (λ n. eqb n (number name_bytes)) (λ n. Name)
awaited AskSerial = value 9 holds_serial Serial
awaited AskInterface = value 2 (λ n. eqb n interface_number) Interface
awaited (AskVersion id) = value 2 (λ n. eqb n (version_number id)) (Version id)
awaited AskStatus = value 1 is_status (λ n. Status (eqb n (status_byte true)))
awaited (SetState f) = value 4 (state_could f) says_state
awaited AskState = value 4 is_state says_state
awaited (SetChannelSetup m) = value 1 (λ n. eqb n m) ChannelSetup
awaited AskChannelSetup = value 1 is_setup ChannelSetup
awaited (SetFrequency channel hz) = value 5 (λ n. eqb n hz) Frequency
awaited (AskFrequency channel) = value 5 in_bands Frequency
awaited (AskFrequencyRange channel) = value 31 (λ n. eqb n (number (0x02 ∷ range_bytes bands))) (λ n. FrequencyRange)
awaited (SetGain channel g) = value 1 (λ n. eqb n (coded 8 g)) (λ n. Gain (signed 8 n))
awaited (AskGain channel) = value 1 is_gain (λ n. Gain (signed 8 n))
awaited (SetClock channel hz) = value 4 (λ n. eqb n hz) Clock
awaited (AskClock channel) = value 4 is_clock Clock
awaited (SetRate channel hz) = value 4 (λ n. eqb n (rate_of (nearest_of hz))) Rate
awaited (AskRate channel) = value 4 is_rate Rate
awaited (SetPacketSize n) = value 1 (λ m. eqb m n) PacketSize
awaited AskPacketSize = value 1 is_size PacketSize

-- "From the box: 0 reply, 2 range reply"
abbrev pub reply_type : ℕ → ℕ
reply_type kind = pick (eqb kind type_range) type_range_reply type_reply

-- the wish is the one for the range
abbrev pub asks_range : Wish → Bool
asks_range w = eqb (asking w).kind type_range

-- how the reply to a wish is laid out that gives a value
abbrev pub reply_layout : Wish → ℕ → Layout
reply_layout w n =
    record {
      kind = reply_type (asking w).kind;
      item = (asking w).item.code;
      echo = (layout_of w).echo;
      width = (awaited w).width;
      value = n;
    }

unfoldable pub reply_bytes : Wish → ℕ → List ℕ
reply_bytes w n = laid (reply_layout w n)

-- where the value stands in it
abbrev pub value_at : Wish → ℕ
value_at w = value_place (reply_layout w 0)

-- the number that stands in its place
abbrev pub number_in : Wish → List ℕ → ℕ
number_in w bs = field (value_at w) (awaited w).width bs
