-- A valid box keeps its tuning word, the question answers it; and the answer says all.
-- Assumes nothing.
use Prim.Native.Nat.{ℕ}
use mathlib.Core.Path.{◌≡◌, refl, ap}
use mathlib.Core.Bool.{Bool, true, false}
use mathlib.Core.List.{List, [], ◌∷◌}
use lib.Dec.{eqb}
use lib.ListN.{get_or}
use Rattle.wire.specs.Choice.{pick}
use Rattle.wire.specs.Told.{Told, tells}
use Rattle.wire.proofs.Firm.{OneEach, two_results_coincide}
use Rattle.wire.proofs.Refusals.{told_one as told_one_each}
use Rattle.wire.specs.declared.refusal.Refusal.{Refusal}
use Rattle.std.specs.Prelude.{Result}
use Rattle.tuning.specs.Word.{word_of}
use Rattle.station.specs.declared.Station.{Station}
use Rattle.items.specs.Settings.{channel_at}
use Rattle.station.specs.Station.{valid, tuning_says, word_code, word_in, tuning_told}
use Rattle.station.proofs.Kept.{Ranges, ranges}
use Rattle.station.proofs.Valid.{valid_settings}

-- either channel's word of a valid box is the one that it keeps
pub word_kept_lem : (s : Station) (channel : ℕ) → valid s ≡ true → (channel_at channel s.settings).word ≡ word_in s channel
word_kept_lem s channel v = by (eqb channel 0x02)
  where
    r : Ranges s.settings
    r = ranges s.settings (valid_settings s.settings s.store v)

    by : (second : Bool)
        → (let c = pick second s.settings.second s.settings.first in
        c.word ≡ word_of c.frequency s.settings.clock)
    by true = r.second.word
    by false = r.first.word

-- the question for the word answers what is kept
pub told_as_kept : (s : Station) (channel : ℕ)
    → tuning_told s channel
    ≡ tells (word_code s channel) (pick (eqb (word_code s channel) 1) ((channel_at channel s.settings).word ∷ []) [])
unfolding tuning_told word_code
told_as_kept s channel = go (valid s) refl
  where
    go : (b : Bool) → valid s ≡ b
        → tuning_told s channel
        ≡ tells (word_code s channel) (pick (eqb (word_code s channel) 1) ((channel_at channel s.settings).word ∷ []) [])
    go true v = rw (word_kept_lem s channel v) refl
    go false v = rw v refl

-- two answers that tell the same are the same
pub told_one : OneEach tuning_says
told_one = told_one_each (λ w. w ∷ []) word_alone
  where
    word_alone : OneEach (λ (w : ℕ). w ∷ [])
    word_alone v w e = ap (λ (l : List ℕ). get_or l 0 0) e

-- so two words that the promise allows coincide
pub word_one : (s : Station) (channel : ℕ) {r t : Result ℕ Refusal}
    → tuning_says r ≡ tuning_told s channel → tuning_says t ≡ tuning_told s channel → r ≡ t
word_one s channel = two_results_coincide tuning_says told_one (tuning_told s channel)
