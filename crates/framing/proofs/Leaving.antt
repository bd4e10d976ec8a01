-- "Its unfinished message must also be one that some bytes could have left": the test is that sentence.
-- Assumes nothing.
use Prim.Native.Nat.{ℕ, zero, suc, ◌+◌, ◌-◌, ◌≤◌, ◌<◌}
use mathlib.Core.Path.{◌≡◌, refl, sym, ap, ◌∙◌}
use mathlib.Core.Bool.{true, false, ◌&&◌, not, and-true, and-false}
use mathlib.Core.List.{List, [], ◌∷◌, ◌++◌}
use native.Mathlib.Decide.{dec_lt}
use native.Mathlib.Nat.{le_refl, zero-add}
use native.Mathlib.Numerals.{add-one}
use native.Mathlib.Omega.{arith}
use borrow.Author.Tests.{eqb-true, eq-eqb, ne_eqb, not-true}
use lib.Dec.{eqb}
use lib.ListN.{length, take, drop, replicate, length-set, length-append, length-take, length-replicate}
use lib.Seq.{sets, sets-eq, drop-set-lt, length-take-le}
use Rattle.wire.specs.Lists.{all_bytes}
use Rattle.wire.proofs.Laws.{and_left, and_right}
use Rattle.wire.proofs.Lists.{bytes_append, bytes_take, bytes_zero}
use Rattle.wire.proofs.Stores.{sets_append, sets_out}
use Rattle.framing.specs.declared.Store.{Store}
use Rattle.framing.specs.Framing.{announced_by, announced, between, pushed, pushed_all, finished, unfinished_all, Left, zeros}
use Rattle.framing.specs.Framing.{could_be_left}
use Rattle.framing.proofs.Headers.{headless, short_of, open_total, header_settled}
use Rattle.framing.proofs.Runs.{after, pushed_all_lem}

-- ---- the test, by whether there are 64 places, and by whether the message is finished

pub left_short : (s : Store) → (length s.held ≡ 64 → ⊥) → could_be_left s ≡ false
unfolding could_be_left
left_short s other = rw (ne_eqb (length s.held) 64 other) refl

pub left_finished : (s : Store) → finished s ≡ true → could_be_left s ≡ false
unfolding could_be_left
left_finished s f = rw (f, and-false) refl

pub left_unfinished : (s : Store) → length s.held ≡ 64 → finished s ≡ false → could_be_left s ≡ zeros (drop s.taken s.held)
unfolding could_be_left
left_unfinished s long f = rw (eq-eqb (length s.held) 64 long, f, and-true) refl

pub left_open : (s : Store) → could_be_left s ≡ true → finished s ≡ false
unfolding could_be_left
left_open s h = not-true (finished s) (and_right (eqb (length s.held) 64 && zeros (drop s.taken s.held)) (not (finished s)) h)

-- there are 64 places, and the unused ones are zero
left_places : (s : Store) → could_be_left s ≡ true → (eqb (length s.held) 64 && zeros (drop s.taken s.held)) ≡ true
unfolding could_be_left
left_places s h = and_left (eqb (length s.held) 64 && zeros (drop s.taken s.held)) (not (finished s)) h

pub left_long : (s : Store) → could_be_left s ≡ true → length s.held ≡ 64
left_long s h = eqb-true (length s.held) 64 (and_left (eqb (length s.held) 64) (zeros (drop s.taken s.held)) (left_places s h))

pub left_zeros : (s : Store) → could_be_left s ≡ true → zeros (drop s.taken s.held) ≡ true
left_zeros s h = and_right (eqb (length s.held) 64) (zeros (drop s.taken s.held)) (left_places s h)

-- ---- some bytes leave it, so the test holds

pub between_left : could_be_left between ≡ true
unfolding could_be_left
between_left = refl

zeros_further : (n : ℕ) (l : List ℕ) → zeros (drop n l) ≡ true → zeros (drop (suc n) l) ≡ true
zeros_further zero [] h = refl
zeros_further zero (b ∷ bs) h = and_right (eqb b 0) (zeros bs) h
zeros_further (suc n) [] h = refl
zeros_further (suc n) (b ∷ bs) h = zeros_further n bs h

-- one byte more leaves the unused places zero
pub pushed_unused : (s : Store) (b : ℕ) → zeros (drop s.taken s.held) ≡ true
    → zeros (drop (pushed s b).taken (pushed s b).held) ≡ true
pushed_unused s b h =
    rw (add-one, drop-set-lt (suc s.taken) s.held s.taken b (le_refl (suc s.taken))) (zeros_further s.taken s.held h)

pub pushed_left : (s : Store) (b : ℕ) → could_be_left s ≡ true → finished (pushed s b) ≡ false → could_be_left (pushed s b) ≡ true
pushed_left s b h f =
    left_unfinished (pushed s b) (length-set s.held s.taken b ∙ left_long s h) f ∙ pushed_unused s b (left_zeros s h)

all_left : (s : Store) (bs : List ℕ) → could_be_left s ≡ true → unfinished_all s bs → could_be_left (pushed_all s bs) ≡ true
all_left s [] h u = h
all_left s (b ∷ bs) h u = all_left (pushed s b) bs (pushed_left s b h u.0) u.1

pub left_tested : (s : Store) → Left s → could_be_left s ≡ true
left_tested s l = rw (← l.leaves) (all_left between l.message between_left l.unfinished)

-- ---- the test holds, so some bytes leave it: those held, and zeros for those past the 64th

-- a list of zeros is as many zeros
zeros_replicate : (l : List ℕ) → zeros l ≡ true → replicate (length l) 0 ≡ l
zeros_replicate [] h = refl
zeros_replicate (b ∷ l) h =
    rw (eqb-true b 0 (and_left (eqb b 0) (zeros l) h)) (ap (λ (r : List ℕ). 0 ∷ r) (zeros_replicate l (and_right (eqb b 0) (zeros l) h)))

-- "all is zero between messages"
pub left_empty : (s : Store) → could_be_left s ≡ true → s.taken ≡ 0 → s.held ≡ between.held
left_empty s h none =
    sym (zeros_replicate s.held (rw none at (left_zeros s h))) ∙ rw (left_long s h) refl

-- what is taken, and then the unused places
refilled : (n : ℕ) (l : List ℕ) → zeros (drop n l) ≡ true → take n l ++ drop (length (take n l)) (replicate (length l) 0) ≡ l
refilled zero l h = zeros_replicate l h
refilled (suc n) [] h = refl
refilled (suc n) (b ∷ l) h = ap (λ (r : List ℕ). b ∷ r) (refilled n l h)

module _ (l z : List ℕ) (n : ℕ) (empty : z ≡ replicate (length l) 0) (unused : zeros (drop n l) ≡ true) where
  first_stored : sets z 0 (take n l) ≡ l
  first_stored =
      let most : 0 + length (take n l) ≤ length z = rw empty (simp (length-take, length-replicate) (omega arith)) in
      sets-eq (take n l) z 0 most ∙ rw (zero-add, empty) (refilled n l unused)

  -- the zeros past the end are not stored
  all_stored : sets z 0 (take n l ++ replicate (n - length l) 0) ≡ l
  all_stored =
      sym (sets_append z 0 (take n l) (replicate (n - length l) 0))
      ∙ rw (first_stored, zero-add)
      (elim (dec_lt (length l) n) [
        | yes w ↦ sets_out l (length (take n l)) (replicate (n - length l) 0) (simp length-take (omega arith))
        | no w ↦ let none : n - length l ≡ 0 = omega arith in rw none refl
      ])

unfinished_all_lem : (s : Store) (bs : List ℕ) → ((j : ℕ) → j < length bs → finished (pushed_all s (take (suc j) bs)) ≡ false)
    → unfinished_all s bs
unfinished_all_lem s [] u = tt
unfinished_all_lem s (b ∷ bs) u = (u 0 (omega arith), unfinished_all_lem (pushed s b) bs (λ j h. u (suc j) (omega arith)))

-- the bytes that left a store
abbrev left_by : Store → List ℕ
left_by s = take s.taken s.held ++ replicate (s.taken - length s.held) 0

left_length : (s : Store) → length (left_by s) ≡ s.taken
left_length s = simp (length-append, length-take, length-replicate) (omega arith)

module _ (s : Store) (test : could_be_left s ≡ true) where
  left_held : after between (left_by s) ≡ s
  left_held =
      rw (all_stored s.held between.held s.taken (rw (left_long s test) refl) (left_zeros s test), left_length s, zero-add) refl

  left_prefix : (j : ℕ) → j < length (left_by s) → finished (after between (take (suc j) (left_by s))) ≡ false
  left_prefix j l =
      elim (dec_lt j 1) [
        | yes w ↦ headless (after between (take (suc j) (left_by s))) (omega (arith, part))
        | no w ↦ short_of (after between (take (suc j) (left_by s)))
            (omega (arith, part, left_length s, settled (omega arith), more (omega arith)))
      ]
    where
      part : length (take (suc j) (left_by s)) ≡ suc j
      part = length-take-le (suc j) (left_by s) (omega arith)

      more : 1 ≤ j → s.taken < announced s.held
      more h = open_total s (omega (arith, left_length s)) (left_open s test)

      settled : 1 ≤ j → announced (after between (take (suc j) (left_by s))).held ≡ announced s.held
      settled h =
          ap announced_by (header_settled between (left_by s) (suc j) (omega (arith, part)))
          ∙ ap (λ (t : Store). announced t.held) left_held

pub tested_left : (s : Store) → could_be_left s ≡ true → all_bytes s.held → Left s
tested_left s test bytes =
    record {
      message = left_by s;
      are_bytes =
          bytes_append (take s.taken s.held) _ (bytes_take s.taken s.held bytes) (bytes_zero (s.taken - length s.held));
      unfinished = unfinished_all_lem between (left_by s) (λ j l. rw pushed_all_lem (left_prefix s test j l));
      leaves = pushed_all_lem between (left_by s) ∙ left_held s test;
    }
