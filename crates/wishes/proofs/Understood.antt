-- What the harvester asks is what the box understands: the message of an allowed wish is refused only where its channel is not open in
-- the box (15), or the box is running and its row is locked (17), and a box that takes it has the settings that the wish means.
use Prim.Native.Nat.{ℕ}
use mathlib.Core.Path.{◌≡◌, refl, sym, ap, ◌∙◌}
use mathlib.Core.Bool.{Bool, true, false, not, ◌&&◌, ◌||◌}
use mathlib.Core.List.{List, [], ◌∷◌, ◌++◌}
use mathlib.Core.Logic.{◌↔◌}
use native.Mathlib.Nat.{mod-eq_of_lt}
use native.Mathlib.Omega.{arith}
use lib.Dec.{eqb, ltb}
use borrow.Author.Tests.{eqb-false, not-true, not-false}
use lib.ListN.{replicate}
use Rattle.wire.specs.Choice.{pick, check, first_of}
use Rattle.wire.specs.Lists.{all_bytes}
use Rattle.wire.specs.Number.{number, bytes}
use Rattle.wire.proofs.Laws.{by_test}
use Rattle.wire.proofs.Lists.{byte_at}
use Rattle.wire.proofs.Signed.{coded_below}
use Rattle.wire.specs.Header.{type_set}
use Rattle.wire.proofs.Numbers.{bytes_number, number_bytes}
use Rattle.rates.specs.Rate.{may_ask, nearest_of}
use Rattle.tuning.specs.Bands.{in_bands}
use Rattle.tuning.specs.Word.{is_clock, word_of}
use Rattle.layouts.specs.Layouts.{parameters_of}
use Rattle.items.specs.declared.Settings.{Settings}
use Rattle.items.specs.Settings.{is_gain, is_mode, is_size, is_setup, dual, in_range, fresh_of, on_channels, tuned_to, gained_to}
use Rattle.items.specs.Settings.{with_clock, with_divisor, with_size, with_setup}
use Rattle.items.specs.Items.{idle, run, may_state, row_of, listed_item}
use Rattle.items.specs.Answer.{code_of, settings_after, value_allowed, refused_running, row, parameters}
use Rattle.wishes.specs.declared.StateFields.{StateFields}
use Rattle.wishes.specs.declared.Wish.{Wish}
use Rattle.wishes.specs.declared.Wish.TheVariants.{AskName, AskSerial, AskInterface, AskVersion, AskStatus, SetState, AskState}
use Rattle.wishes.specs.declared.Wish.TheVariants.{SetChannelSetup, AskChannelSetup, SetFrequency, AskFrequency, AskFrequencyRange}
use Rattle.wishes.specs.declared.Wish.TheVariants.{SetGain, AskGain, SetClock, AskClock}
use Rattle.wishes.specs.declared.Wish.TheVariants.{SetRate, AskRate, SetPacketSize, AskPacketSize}
use Rattle.wishes.specs.Wishes.{asking, layout_of, Fits, open_at, open_wish, allowed_wish, granted, closed_now, not_now, refused_now}
use Rattle.wishes.specs.Wishes.{message_of, as_message}
use Rattle.wishes.specs.Writing.{wish_code}
use Rattle.wishes.proofs.Rows.{by_wish, of_row}
use Rattle.wishes.proofs.Open.{open_dual, open_here, closed_everywhere}
use Rattle.wishes.proofs.Answers.{code_closed, code_not_allowed}
use Rattle.wishes.proofs.Allowed.{state_has, gain_bits, value_fits}

-- the value that the box reads in a wish's message is allowed
abbrev value_taken : Wish → Bool
value_taken w = value_allowed (asking w).item (asking w).kind (parameters (as_message w))

-- the row of the table that says so of the wish's message
abbrev locked : Wish → Settings → Bool
locked w s = refused_running (asking w).item (asking w).kind s (parameters_of (layout_of w))

-- Header, item, kind and length speak against no wish: what is left are the channel, the value, and that the box is running.
abbrev Checked : Wish → Type 0
Checked w =
    (s : Settings)
    → code_of s (as_message w) ≡ first_of (check 15 (closed_now w s) ∷ check 16 (not (value_taken w)) ∷ check 17 (locked w s) ∷ []) 1

checked : (w : Wish) → Checked w
unfolding code_of row_of listed_item message_of
checked w = search (by_wish Checked)

-- a state's bytes come back
abbrev run_sent : ℕ → ℕ → List ℕ
run_sent r m = 0x80 ∷ r ∷ m ∷ 0x00 ∷ []

run_same : (r m : ℕ) → all_bytes (run_sent r m)
    → may_state (bytes 4 (number (run_sent r m)) ++ replicate 56 0) ≡ eqb r idle || (eqb r run && is_mode m)
run_same r m fits =
    ap (λ (l : List ℕ). may_state (l ++ replicate 56 0)) (bytes_number (run_sent r m) (byte_at (run_sent r m) fits))
    ∙ tests (eqb r idle) (eqb r run) (is_mode m)
  where
    tests : (a b c : Bool) → a || (b && true && c) ≡ a || (b && c)
    tests a true c = refl
    tests a false c = refl

state_same : (f : StateFields) → Fits (SetState f) → value_taken (SetState f) ≡ allowed_wish (SetState f)
unfolding message_of
state_same f fits = go (eqb f.run idle) refl
  where
    go : (t : Bool) → eqb f.run idle ≡ t → value_taken (SetState f) ≡ allowed_wish (SetState f)
    go true q = rw q refl
    go false q = rw q (rw q at (run_same f.run f.mode (rw q at fits).1))

-- a value that fits its field is allowed by the box exactly where the writer allows it
value_same : (w : Wish) → Fits w → value_taken w ≡ allowed_wish w
unfolding message_of
value_same AskName fits = refl
value_same AskSerial fits = refl
value_same AskInterface fits = refl
value_same (AskVersion id) fits = refl
value_same AskStatus fits = refl
value_same (SetState f) fits = state_same f fits
value_same AskState fits = refl
value_same (SetChannelSetup n) fits = ap is_setup (mod-eq_of_lt fits)
value_same AskChannelSetup fits = refl
value_same (SetFrequency c hz) fits = ap in_bands (number_bytes 5 hz fits)
value_same (AskFrequency c) fits = refl
value_same (AskFrequencyRange c) fits = refl
value_same (SetGain c g) fits = ap is_gain (mod-eq_of_lt (coded_below 8 g (omega arith) fits.1)) ∙ gain_bits c g fits.1
value_same (AskGain c) fits = refl
value_same (SetClock c hz) fits = ap is_clock (number_bytes 4 hz fits)
value_same (AskClock c) fits = refl
value_same (SetRate c hz) fits = ap may_ask (number_bytes 4 hz fits)
value_same (AskRate c) fits = refl
value_same (SetPacketSize n) fits = ap is_size (mod-eq_of_lt fits)
value_same AskPacketSize fits = refl

-- a box that may not be locked, and one that is
unlocked : (running : Bool) → running && false ≡ false
unlocked true = refl
unlocked false = refl

always_locked : (running : Bool) → running && true ≡ running
always_locked true = refl
always_locked false = refl

-- of an allowed wish it says what `not_now` does
locked_now : (w : Wish) (s : Settings) → allowed_wish w ≡ true → locked w s ≡ not_now w s
locked_now AskName s e = refl
locked_now AskSerial s e = refl
locked_now AskInterface s e = refl
locked_now (AskVersion id) s e = refl
locked_now AskStatus s e = refl
locked_now (SetState f) s e = state_has (λ f. locked (SetState f) s ≡ not_now (SetState f) s) (λ m. refl) refl refl f e
locked_now AskState s e = refl
locked_now (SetChannelSetup n) s e = always_locked s.running
locked_now AskChannelSetup s e = refl
locked_now (SetFrequency c hz) s e = unlocked s.running
locked_now (AskFrequency c) s e = refl
locked_now (AskFrequencyRange c) s e = refl
locked_now (SetGain c g) s e = unlocked s.running
locked_now (AskGain c) s e = refl
locked_now (SetClock c hz) s e = unlocked s.running
locked_now (AskClock c) s e = refl
locked_now (SetRate c hz) s e = always_locked s.running
locked_now (AskRate c) s e = refl
locked_now (SetPacketSize n) s e = always_locked s.running
locked_now AskPacketSize s e = refl

-- The code of an allowed wish: 15 exactly where the wish's channel is closed in this box, else 17 exactly where the box is running and
-- the wish's row is locked, else 1.
pub code_of_wish : (w : Wish) (s : Settings) → allowed_wish w ≡ true
    → code_of s (as_message w) ≡ pick (closed_now w s) 15 (pick (not_now w s) 17 1)
code_of_wish w s e = checked w s ∙ rw (value_same w (value_fits w e), e, locked_now w s e) refl

-- where 16 is checked first, it is given by that check alone
first_alike : (a t u : Bool) (m n : ℕ) → (m ≡ 16 → ⊥) → pick (not a) 16 (pick t m 1) ≡ 16 → pick (not a) 16 (pick u n 1) ≡ 16
first_alike false t u m n other e = refl
first_alike true true u m n other e = absurd (other e)
first_alike true false u m n other e = absurd (eqb-false 1 16 refl e)

-- "The writer refuses with 16 values the box would refuse so": where the value fits its field, the writer says 16 exactly
-- where a box would in which the wish's channel is open, whatever its other settings.
pub refused_alike : (w : Wish) (s : Settings) (room : ℕ) → Fits w → closed_now w s ≡ false
    → (wish_code w room ≡ 16) ↔ (code_of s (as_message w) ≡ 16)
unfolding wish_code
refused_alike w s room fits here = (
  λ (e : wish_code w room ≡ 16). box ∙ first_alike (allowed_wish w) (ltb room 16) (locked w s) 20 17 (eqb-false 20 16 refl) (sym writer ∙ e),
  λ (e : code_of s (as_message w) ≡ 16). writer
      ∙ first_alike (allowed_wish w) (locked w s) (ltb room 16) 17 20 (eqb-false 17 16 refl) (sym box ∙ e),
)
  where
    box : code_of s (as_message w) ≡ first_of (check 16 (not (allowed_wish w)) ∷ check 17 (locked w s) ∷ []) 1
    box = checked w s ∙ rw (here, value_same w fits) refl

    writer : wish_code w room ≡ first_of (check 16 (not (allowed_wish w)) ∷ check 20 (ltb room 16) ∷ []) 1
    writer = rw (open_here w s.setup (not-false (open_at w s.setup) here)) refl

-- What does not fit, the writer refuses too: a frequency of more than 40 bits lies in no band. A box would see the lowest 40
-- bits alone.
pub unfit_refused : (w : Wish) (room : ℕ) → (Fits w → ⊥) → wish_code w room ≡ pick (open_wish w) 16 15
unfit_refused w room unfit = by_test (open_wish w) some none
  where
    go : (t : Bool) → allowed_wish w ≡ t → t ≡ false
    go true e = absurd (unfit (value_fits w e))
    go false e = refl

    some : open_wish w ≡ true → wish_code w room ≡ pick (open_wish w) 16 15
    some o = code_not_allowed w room o (go (allowed_wish w) refl) ∙ rw o refl

    none : open_wish w ≡ false → wish_code w room ≡ pick (open_wish w) 16 15
    none o = code_closed w room o ∙ rw o refl

-- ---- 15

-- a valid box with two channels
abbrev pub two_channels : Settings
two_channels = with_setup dual (fresh_of (replicate 8 0x30))

pub two_valid : in_range two_channels ≡ true
unfolding in_range word_of
two_valid = refl

-- where 15 is checked first, it is given by that check alone
fifteen : (a b c : Bool) (m n k : ℕ) → (m ≡ 15 → ⊥) → (n ≡ 15 → ⊥) → (k ≡ 15 → ⊥)
    → pick a 15 (pick b m (pick c n k)) ≡ 15 → a ≡ true
fifteen true b c m n k p q r e = refl
fifteen false true c m n k p q r e = absurd (p e)
fifteen false false true m n k p q r e = absurd (q e)
fifteen false false false m n k p q r e = absurd (r e)

-- "a channel byte (15, nothing written, if no box allows it; before 16)": the writer says 15 exactly where each valid box would, whatever
-- the value.
pub wish_fifteen_exactly : (w : Wish) (room : ℕ)
    → (wish_code w room ≡ 15) ↔ ((s : Settings) → in_range s ≡ true → code_of s (as_message w) ≡ 15)
unfolding wish_code
wish_fifteen_exactly w room = (
  λ (e : wish_code w room ≡ 15) (s : Settings) (valid : in_range s ≡ true). checked w s ∙ rw (closed_everywhere w s (closed e)) refl,
  λ (all : (s : Settings) → in_range s ≡ true → code_of s (as_message w) ≡ 15). code_closed w room (none (all two_channels two_valid)),
)
  where
    closed : wish_code w room ≡ 15 → open_wish w ≡ false
    closed e =
        not-true (open_wish w)
        (fifteen (not (open_wish w)) (not (allowed_wish w)) (ltb room 16) 16 20 1 (eqb-false 16 15 refl) (eqb-false 20 15 refl)
        (eqb-false 1 15 refl) e)

    none : code_of two_channels (as_message w) ≡ 15 → open_wish w ≡ false
    none e =
        open_dual w
        ∙ not-true (open_at w dual)
        (fifteen (closed_now w two_channels) (not (value_taken w)) (locked w two_channels) 16 17 1 (eqb-false 16 15 refl)
        (eqb-false 17 15 refl) (eqb-false 1 15 refl) (sym (checked w two_channels) ∙ e))

-- the box finds the wish's row
pub row_of_wish : (w : Wish) → row (as_message w) ≡ (asking w).item
unfolding row_of message_of
row_of_wish w = search (of_row (λ i k. row_of (number (bytes 2 i.code)) ≡ i))

-- the settings that a taken message leaves
abbrev taken : Wish → Settings → Settings
taken w s = pick (eqb (asking w).kind type_set) ((asking w).item.rule.stored s (parameters (as_message w))) s

-- they are those that the wish means
taken_granted : (w : Wish) (s : Settings) → allowed_wish w ≡ true → taken w s ≡ granted w s
unfolding message_of
taken_granted AskName s e = refl
taken_granted AskSerial s e = refl
taken_granted AskInterface s e = refl
taken_granted (AskVersion id) s e = refl
taken_granted AskStatus s e = refl
taken_granted (SetState f) s e = state_has (λ f. taken (SetState f) s ≡ granted (SetState f) s) (λ m. refl) refl refl f e
taken_granted AskState s e = refl
taken_granted (SetChannelSetup n) s e = ap (λ (n : ℕ). with_setup n s) (mod-eq_of_lt (value_fits (SetChannelSetup n) e))
taken_granted AskChannelSetup s e = refl
taken_granted (SetFrequency c hz) s e =
    ap (λ (n : ℕ). on_channels c (tuned_to n s.clock) s) (number_bytes 5 hz (value_fits (SetFrequency c hz) e))
taken_granted (AskFrequency c) s e = refl
taken_granted (AskFrequencyRange c) s e = refl
taken_granted (SetGain c g) s e =
    ap (λ (n : ℕ). on_channels c (gained_to n) s) (mod-eq_of_lt (coded_below 8 g (omega arith) (value_fits (SetGain c g) e).1))
taken_granted (AskGain c) s e = refl
taken_granted (SetClock c hz) s e = ap (λ (n : ℕ). with_clock n s) (number_bytes 4 hz (value_fits (SetClock c hz) e))
taken_granted (AskClock c) s e = refl
taken_granted (SetRate c hz) s e = ap (λ (n : ℕ). with_divisor (nearest_of n) s) (number_bytes 4 hz (value_fits (SetRate c hz) e))
taken_granted (AskRate c) s e = refl
taken_granted (SetPacketSize n) s e = ap (λ (n : ℕ). with_size n s) (mod-eq_of_lt (value_fits (SetPacketSize n) e))
taken_granted AskPacketSize s e = refl

-- What an allowed wish leaves of the settings
pub settings_of_wish : (w : Wish) (s : Settings) → allowed_wish w ≡ true
    → settings_after s (as_message w) ≡ pick (refused_now w s) s (granted w s)
unfolding settings_after
settings_of_wish w s e = rw (code_of_wish w s e, row_of_wish w) (by (closed_now w s) (not_now w s))
  where
    stored : Settings
    stored = (asking w).item.rule.stored s (parameters (as_message w))

    by : (t u : Bool) → pick (eqb (pick t 15 (pick u 17 1)) 1 && eqb (asking w).kind type_set) stored s ≡ pick (t || u) s (granted w s)
    by true u = refl
    by false true = refl
    by false false = taken_granted w s e
