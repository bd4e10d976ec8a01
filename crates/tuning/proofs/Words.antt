-- The tuning word is the nearest whole number to n x 2^32 / clock, halves up; and what is answered in each case.
use Rattle.std.proofs.Common.{◌≡◌, ℕ, ◌-◌, ◌*◌, ◌^◌, ◌<◌, ◌≤◌, Bool, true, false, leb, [], ◌∷◌, Result, Ok, Err, refl, arith}
use Rattle.std.specs.Result.{result_unwrap_or}
use borrow.Author.Tests.{lt-leb}
use Rattle.wire.specs.Choice.{within}
use Rattle.wire.specs.Halves.{NearestUp}
use Rattle.wire.proofs.Halves.{half_up}
use Rattle.wire.proofs.Laws.{never, by_or, by_test, and_not_right, within_low}
use Rattle.tuning.specs.Bands.{in_bands}
use Rattle.tuning.specs.Word.{offset_of, word_of, is_clock, has_word, word_kept, word_says, word_told}
use Rattle.wire.specs.declared.refusal.Refusal.{Refusal}
use Rattle.wire.specs.declared.refusal.Refusal.TheVariants.{ValueNotAllowed}
use Rattle.wire.proofs.Firm.{OneEach, two_results_coincide}
use Rattle.wire.proofs.Refusals as Refusals

abbrev pub in_first : ℕ → Bool
in_first hz = within 100000 34000000 hz

abbrev pub in_second : ℕ → Bool
in_second hz = within 140000000 150000000 hz

-- ---- the offset

module _ (hz : ℕ) where
  -- up to the end of the first band it is the frequency
  pub offset_first : in_bands hz ≡ true → hz ≤ 34000000 → hz ≡ offset_of hz
  offset_first b low = by_or (in_first hz) _ (λ one. rw one refl) (by_or (in_second hz) false far never) b
    where
      far : in_second hz ≡ true → hz ≡ offset_of hz
      far two = absurd (omega (arith, within_low 140000000 150000000 hz two))

  -- above it what it lacks to the oscillator's
  pub offset_second : 34000000 < hz → in_second hz ≡ true → 160000000 - hz ≡ offset_of hz
  offset_second high two =
      let not_first : in_first hz ≡ false = and_not_right (leb 100000 hz) (leb hz 34000000) (lt-leb hz 34000000 high) in
      rw (not_first, two) refl

-- ---- what is answered, case by case

module _ (hz clock : ℕ) where
  -- no frequency of a band, or no clock: 16
  pub no_word : has_word hz clock ≡ false → word_says (Err ValueNotAllowed) ≡ word_told hz clock
  no_word h = rw h

  -- a frequency of a band and a clock that may be set have a word
  pub word_is : has_word hz clock ≡ true → word_says (Ok (word_of hz clock)) ≡ word_told hz clock
  word_is h = rw h

  -- the one that is kept
  pub kept_is : has_word hz clock ≡ true → word_kept hz clock ≡ word_of hz clock
  kept_is h = rw h

-- ---- the answer says all

one_word : OneEach (λ (w : ℕ). w ∷ [])
one_word v w e = cc

-- two answers that tell the same are the same
pub told_one : (v w : Result ℕ Refusal) → word_says v ≡ word_says w → v ≡ w
told_one = Refusals.told_one (λ (w : ℕ). w ∷ []) one_word

-- so the promise of the word allows one answer
pub word_one : (hz clock : ℕ) {v w : Result ℕ Refusal} → word_says v ≡ word_told hz clock → word_says w ≡ word_told hz clock → v ≡ w
word_one hz clock p q = two_results_coincide word_says told_one (word_told hz clock) p q

-- and that has the word that is kept
pub kept_by : (hz clock : ℕ) (r : Result ℕ Refusal) → word_says r ≡ word_told hz clock → result_unwrap_or r 0 ≡ word_kept hz clock
kept_by hz clock r told = by_test (has_word hz clock) some none
  where
    some : has_word hz clock ≡ true → result_unwrap_or r 0 ≡ word_kept hz clock
    some h =
        let is : r ≡ Ok (word_of hz clock) = word_one hz clock told (word_is hz clock h) in
        rw (is, h)

    none : has_word hz clock ≡ false → result_unwrap_or r 0 ≡ word_kept hz clock
    none h =
        let is : r ≡ Err ValueNotAllowed = word_one hz clock told (no_word hz clock h) in
        rw (is, h)

-- ---- the nearest whole number, halves up

-- the word of 01
pub word_nearest : (hz clock : ℕ) → is_clock clock ≡ true → NearestUp (offset_of hz * 2 ^ 32) clock (word_of hz clock)
unfolding word_of
word_nearest hz clock c = half_up (offset_of hz * 2 ^ 32) clock (omega (arith, within_low 79992000 80008000 clock c))
