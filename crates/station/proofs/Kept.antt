-- No message takes a setting out of its range, and a message that is not an accepted set leaves every setting.
-- Assumes nothing.
use Prim.Native.Nat.{ℕ, ◌<◌}
use mathlib.Core.Path.{◌≡◌, refl}
use mathlib.Core.Bool.{Bool, true, false, ◌&&◌}
use mathlib.Core.List.{List}
use native.Mathlib.Omega.{arith}
use lib.Dec.{eqb, leb}
use lib.ListN.{length, get_or}
use borrow.Author.Tests.{ne_eqb, eq-eqb, eqb-true}
use Rattle.wire.specs.Choice.{pick}
use Rattle.wire.specs.Number.{field}
use Rattle.wire.proofs.Checks.{given_below}
use Rattle.wire.proofs.Laws.{and_left, and_right, and_both, and_not_left}
use Rattle.rates.specs.Rate.{is_d}
use Rattle.rates.proofs.Rates.{nearest_d}
use Rattle.tuning.specs.Bands.{in_bands}
use Rattle.tuning.specs.Word.{is_clock, word_of}
use Rattle.tuning.proofs.Words.{kept_is}
use Rattle.packets.specs.Numbers.{most}
use Rattle.items.specs.declared.Channel.{Channel}
use Rattle.items.specs.declared.Settings.{Settings}
use Rattle.items.specs.Settings.{channel_in_range, in_range, is_mode, is_gain, is_size, is_setup, all_serial, is_serial}
use Rattle.items.specs.Settings.{with_tuning, with_others, covers, on_channels, tuned_to, gained_to}
use Rattle.items.specs.Items.{Item, items, state, channel_setup, frequency, gain, clock, rate, packet_size}
use Rattle.items.specs.Items.{may_state, run_byte, mode_byte, idle, run}
use Rattle.wire.specs.Header.{type_set}
use Rattle.items.specs.Answer.{Message, item_in, checks, code_of, settings_after, row, parameters}
use Rattle.items.proofs.Rows.{all_have, ◌then◌, found}
use Rattle.items.proofs.Judging.{has_value, after_ways}
use Rattle.items.proofs.States.{state_ways}

-- a channel within its ranges in a box with this clock, one by one
pub record Channels (clock : ℕ) (c : Channel) : Type 0 where
  pub frequency : in_bands c.frequency ≡ true
  pub word : c.word ≡ word_of c.frequency clock
  pub gain : is_gain c.gain ≡ true

channel_ranges : (clock : ℕ) (c : Channel) → channel_in_range clock c ≡ true → Channels clock c
channel_ranges clock c h =
    let band = in_bands c.frequency in
    let agrees = eqb c.word (word_of c.frequency clock) in
    let both = and_left (band && agrees) (is_gain c.gain) h in
    record {
      frequency = and_left band agrees both;
      word = eqb-true c.word (word_of c.frequency clock) (and_right band agrees both);
      gain = and_right (band && agrees) (is_gain c.gain) h;
    }

channel_in_range_lem : (clock : ℕ) (c : Channel) → Channels clock c → channel_in_range clock c ≡ true
channel_in_range_lem clock c r = rw (r.frequency, eq-eqb c.word (word_of c.frequency clock) r.word, r.gain)

-- every setting lies within its range, one by one
pub record Ranges (s : Settings) : Type 0 where
  pub clock : is_clock s.clock ≡ true
  pub first : Channels s.clock s.first
  pub second : Channels s.clock s.second
  pub count : leb s.count most ≡ true
  pub divisor : is_d s.divisor ≡ true
  pub size : is_size s.size ≡ true
  pub setup : is_setup s.setup ≡ true
  pub mode : is_mode s.mode ≡ true
  pub serial : is_serial s.serial ≡ true

-- nine tests that all hold, one by one
nine : (a b c d e f g h i : Bool) → (a && b && c && d && e && f && g && h && i) ≡ true
    → (a ≡ true) × (b ≡ true) × (c ≡ true) × (d ≡ true) × (e ≡ true) × (f ≡ true) × (g ≡ true) × (h ≡ true) × (i ≡ true)
nine a b c d e f g h i t =
    let t7 = and_left (a && b && c && d && e && f && g && h) i t in
    let t6 = and_left (a && b && c && d && e && f && g) h t7 in
    let t5 = and_left (a && b && c && d && e && f) g t6 in
    let t4 = and_left (a && b && c && d && e) f t5 in
    let t3 = and_left (a && b && c && d) e t4 in
    let t2 = and_left (a && b && c) d t3 in
    let t1 = and_left (a && b) c t2 in (
      and_left a b t1,
      and_right a b t1,
      and_right (a && b) c t2,
      and_right (a && b && c) d t3,
      and_right (a && b && c && d) e t4,
      and_right (a && b && c && d && e) f t5,
      and_right (a && b && c && d && e && f) g t6,
      and_right (a && b && c && d && e && f && g) h t7,
      and_right (a && b && c && d && e && f && g && h) i t,
    )

-- clock, both channels, and all others, in the order of the fields above
nine_in : {s : Settings} → is_clock s.clock ≡ true → Channels s.clock s.first → Channels s.clock s.second
    → leb s.count most ≡ true → is_d s.divisor ≡ true → is_size s.size ≡ true → is_setup s.setup ≡ true
    → is_mode s.mode ≡ true → is_serial s.serial ≡ true → Ranges s
nine_in c h k n d z u m l =
    record { clock = c; first = h; second = k; count = n; divisor = d; size = z; setup = u; mode = m; serial = l }

-- the settings with other channels or another clock, and with other values of the rest
tuned_in : {s : Settings} {first second : Channel} {clock : ℕ} → Ranges s → is_clock clock ≡ true → Channels clock first
    → Channels clock second → Ranges (with_tuning first second clock s)
tuned_in r c h k = nine_in c h k r.count r.divisor r.size r.setup r.mode r.serial

pub others_in : {s : Settings} {count divisor size setup mode : ℕ} {running : Bool} → Ranges s → leb count most ≡ true → is_d divisor ≡ true
    → is_size size ≡ true → is_setup setup ≡ true → is_mode mode ≡ true → Ranges (with_others count divisor size setup running mode s)
others_in r n d z u m = nine_in r.clock r.first r.second n d z u m r.serial

pub ranges : (s : Settings) → in_range s ≡ true → Ranges s
unfolding in_range
ranges s h =
    let t =
    nine (is_clock s.clock) (channel_in_range s.clock s.first) (channel_in_range s.clock s.second) (leb s.count most)
    (is_d s.divisor) (is_size s.size) (is_setup s.setup) (is_mode s.mode) (is_serial s.serial) h in
    nine_in t.0 (channel_ranges s.clock s.first t.1) (channel_ranges s.clock s.second t.2) t.3 t.4 t.5
    t.6 t.7 t.8

pub in_range_lem : (s : Settings) → Ranges s → in_range s ≡ true
unfolding in_range
in_range_lem s r =
    rw (
      r.clock,
      channel_in_range_lem s.clock s.first r.first,
      channel_in_range_lem s.clock s.second r.second,
      r.count,
      r.divisor,
      r.size,
      r.setup,
      r.mode,
      r.serial,
    )

-- a serial of a valid box has eight bytes
pub serial_long : (s : Settings) → in_range s ≡ true → length s.serial ≡ 8
serial_long s h = eqb-true (length s.serial) 8 (and_left (eqb (length s.serial) 8) (all_serial s.serial) (ranges s h).serial)

-- a state that may be set, and is not idle, has a mode
has_mode : (p : List ℕ) → eqb (run_byte p) idle ≡ false → may_state p ≡ true → is_mode (mode_byte p) ≡ true
has_mode p i h = and_right (eqb (run_byte p) run && eqb (get_or p 0 0) 0x80) (is_mode (mode_byte p)) (rw i at h)

-- ---- an item keeps every setting in its range

abbrev Keeps : Item → Type 0
Keeps i = (s : Settings) (p : List ℕ) → Ranges s → i.rule.settable p ≡ true → Ranges (i.rule.stored s p)

state_keeps : Keeps state
state_keeps s p r h =
    state_ways Ranges (run_byte p) (mode_byte p) s
    (λ i. others_in r r.count r.divisor r.size r.setup r.mode)
    (λ i w. r)
    (λ i w. others_in r refl r.divisor r.size r.setup (has_mode p i h))

setup_keeps : Keeps channel_setup
setup_keeps s p r h = others_in r r.count r.divisor r.size h r.mode

-- a channel tuned to a frequency of the bands, at a clock that may be set, has their word
tuned_keeps : (hz clock old : ℕ) (c : Channel) → Channels old c → in_bands hz ≡ true → is_clock clock ≡ true
    → Channels clock (tuned_to hz clock c)
tuned_keeps hz clock old c r band set =
    record { frequency = band; word = kept_is hz clock (and_both (in_bands hz) (is_clock clock) band set); gain = r.gain }

-- what keeps either channel within its ranges keeps both, whichever a set covers
channels_keep : (s : Settings) (byte : ℕ) (change : Channel → Channel) → Ranges s
    → ((c : Channel) → Channels s.clock c → Channels s.clock (change c)) → Ranges (on_channels byte change s)
channels_keep s byte change r keeps =
    tuned_in r r.clock (kept (covers s.setup byte 0x00) s.first r.first)
    (kept (covers s.setup byte 0x02) s.second r.second)
  where
    kept : (covered : Bool) (c : Channel) → Channels s.clock c → Channels s.clock (pick covered (change c) c)
    kept true c h = keeps c h
    kept false c h = h

frequency_keeps : Keeps frequency
frequency_keeps s p r h =
    channels_keep s (get_or p 0 0) (tuned_to (field 1 5 p) s.clock) r
    (λ c k. tuned_keeps (field 1 5 p) s.clock s.clock c k h r.clock)

gain_keeps : Keeps gain
gain_keeps s p r h =
    channels_keep s (get_or p 0 0) (gained_to (get_or p 1 0)) r
    (λ c k. record { frequency = k.frequency; word = k.word; gain = h })

clock_keeps : Keeps clock
clock_keeps s p r h = tuned_in r h (at s.first r.first) (at s.second r.second)
  where
    at : (c : Channel) → Channels s.clock c → Channels (field 1 4 p) (tuned_to c.frequency (field 1 4 p) c)
    at c k = tuned_keeps c.frequency (field 1 4 p) s.clock c k k.frequency h

size_keeps : Keeps packet_size
size_keeps s p r h = others_in r r.count r.divisor h r.setup r.mode

rate_keeps : Keeps rate
rate_keeps s p r h = others_in r r.count (nearest_d (field 1 4 p) h) r.size r.setup r.mode

stays : (s : Settings) (p : List ℕ) → Ranges s → true ≡ true → Ranges s
stays s p r t = r

items_keep : all_have Keeps items
items_keep =
    stays
    then stays
    then stays
    then stays
    then stays
    then state_keeps
    then setup_keeps
    then frequency_keeps
    then gain_keeps
    then clock_keeps
    then rate_keeps
    then size_keeps
    then tt

-- ---- what a message does to the settings

-- a message's own code is under 20
pub code_below : (s : Settings) (m : Message) → code_of s m < 20
unfolding code_of
code_below s m = given_below 20 (checks s m) 1 refl (omega arith)

-- a message that is no accepted set leaves every setting
pub left_alone : (s : Settings) (m : Message) → (eqb (code_of s m) 1 && eqb m.type type_set) ≡ false → settings_after s m ≡ s
unfolding settings_after
left_alone s m h = rw h

pub accepted_set : (s : Settings) (m : Message) → (eqb (code_of s m) 1 && eqb m.type type_set) ≡ true
    → settings_after s m ≡ (row m).rule.stored s (parameters m)
unfolding settings_after
accepted_set s m h = rw h

-- "A message the box will not obey .. touches no setting."
pub refused_leaves : (s : Settings) (m : Message) → (code_of s m ≡ 1 → ⊥) → settings_after s m ≡ s
refused_leaves s m h = left_alone s m (and_not_left (eqb (code_of s m) 1) (eqb m.type type_set) (ne_eqb (code_of s m) 1 h))

-- "No setting of a box started fresh ever leaves its range": no message takes one out of it
pub message_keeps : (s : Settings) (m : Message) → in_range s ≡ true → in_range (settings_after s m) ≡ true
message_keeps s m h =
    after_ways (λ t. in_range t ≡ true) s m
    (λ e kind. in_range_lem _ (found Keeps stays items_keep (item_in m) s (parameters m) (ranges s h) (rw kind at (has_value s m e)))) h
