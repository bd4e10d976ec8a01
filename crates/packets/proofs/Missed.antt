-- How much was lost. A total that steps give is told by a test; and what is heard and what is missed are all positions.
use Prim.Native.Nat.{ℕ, zero, suc, ◌+◌, ◌*◌, ◌-◌, ◌≤◌, ◌<◌}
use mathlib.Core.Path.{◌≡◌, refl, subst}
use mathlib.Core.Bool.{Bool, true, ◌&&◌}
use mathlib.Core.List.{List, [], ◌∷◌}
use native.Mathlib.Omega.{arith}
use native.Mathlib.Decide.{dec_lt}
use lib.Dec.{leb}
use lib.ListN.{length}
use borrow.Author.Tests.{le-leb, leb-true}
use Rattle.wire.proofs.Laws.{and_left, and_right, and_both}
use Rattle.packets.specs.Numbers.{number_at, step_of, last}
use Rattle.packets.specs.Missed.{is_step, are_steps, leads_to, steps_by, missed_in, missed_over, StepsGive, steps_give}
use Rattle.packets.proofs.Numbers.{number_le, step_above, step_not_above}

-- from one number to another above 0 there is a step
pub is_step_lem : (s t : ℕ) → s ≤ 65_535 → 0 < t → t ≤ 65_535 → is_step (step_of s t)
is_step_lem s t low some small =
    elim (dec_lt s t) [
      | yes l ↦ (omega (arith, step_above s t l), omega (arith, step_above s t l))
      | no l ↦ (omega (arith, step_not_above s t (omega arith)), omega (arith, step_not_above s t (omega arith)))
    ]

-- also from a position's
pub step_from : (p t : ℕ) → 0 < t → t ≤ 65_535 → is_step (step_of (number_at p) t)
step_from p t some small = is_step_lem (number_at p) t (number_le p) some small

-- "heard plus missed equals positions covered": each step is to one packet that was heard
steps_add_up : (steps : List ℕ) → are_steps steps → length steps + missed_over steps ≡ leads_to steps
steps_add_up [] a = refl
steps_add_up (step ∷ steps) a = omega (arith, a.0.0, steps_add_up steps a.1)

steps_count : (step : ℕ → ℕ → ℕ) (t : ℕ) (ts : List ℕ) → length (steps_by step (t ∷ ts)) ≡ length ts
steps_count step t [] = refl
steps_count step t (s ∷ ts) = omega (arith, steps_count step s ts)

-- of the packets themselves, the first of them at position 0
pub heard_add_up : (step : ℕ → ℕ → ℕ) (t : ℕ) (ts : List ℕ) → are_steps (steps_by step (t ∷ ts))
    → length (t ∷ ts) + missed_over (steps_by step (t ∷ ts)) ≡ leads_to (steps_by step (t ∷ ts)) + 1
heard_add_up step t ts a = omega (arith, steps_add_up (steps_by step (t ∷ ts)) a, steps_count step t ts)

steps_reach : (steps : List ℕ) → are_steps steps → leads_to steps ≤ 65_535 * length steps
steps_reach [] a = omega arith
steps_reach (step ∷ steps) a = omega (arith, a.0.1, steps_reach steps a.1)

-- the test, as two inequalities
pub steps_give_by : (position total : ℕ) → total ≤ position → position ≤ 65_535 * (position - total) → steps_give position total ≡ true
unfolding steps_give
steps_give_by position total a b =
    and_both (leb total position) (leb position (65_535 * (position - total))) (le-leb _ _ a) (le-leb _ _ b)

pub steps_give_within : (position total : ℕ) → steps_give position total ≡ true
    → (total ≤ position) × (position ≤ 65_535 * (position - total))
unfolding steps_give
steps_give_within position total e =
    let a = leb total position in
    let b = leb position (65_535 * (position - total)) in
    (leb-true total position (and_left a b e), leb-true position (65_535 * (position - total)) (and_right a b e))

-- by what its tests come to, with 01's on the position in front
pub steps_give_by_tests : (position total : ℕ) {a b c : Bool} → leb position last ≡ a → leb total position ≡ b
    → leb position (65_535 * (position - total)) ≡ c
    → (leb position last && steps_give position total) ≡ (a && (b && c))
unfolding steps_give
steps_give_by_tests position total p q r = rw (p, q, r)

-- what steps give passes the test
pub steps_tested : (position total : ℕ) → StepsGive position total → steps_give position total ≡ true
steps_tested position total g =
    let count = steps_add_up g.steps g.allowed in
    let far = steps_reach g.steps g.allowed in
    let leads = g.leads in
    let misses = g.misses in
    let steps : position - total ≡ length g.steps = omega arith in
    steps_give_by position total (omega arith) (rw steps (omega arith))

-- so many steps pass over up to 65,534 packets each: the first over what the others leave
some_steps : (n missed : ℕ) → missed ≤ 65_534 * n → StepsGive (n + missed) missed
some_steps zero missed few = record { steps = []; allowed = tt; leads = omega arith; misses = omega arith }
some_steps (suc n) missed few =
    let over : ℕ = missed - 65_534 * n in
    let rest = some_steps n (missed - over) (omega arith) in
    let leads = rest.leads in
    let misses = rest.misses in
    record {
      steps = suc over ∷ rest.steps;
      allowed = ((omega arith, omega arith), rest.allowed);
      leads = omega arith;
      misses = omega arith;
    }

-- what passes the test some steps give
pub tested_steps : (position total : ℕ) → steps_give position total ≡ true → StepsGive position total
tested_steps position total e =
    let w = steps_give_within position total e in
    let low = w.0 in
    let high = w.1 in
    let whole : position - total + total ≡ position = omega arith in
    subst (λ (p : ℕ). StepsGive p total) whole (some_steps (position - total) total (omega arith))

-- no step, at the start
pub start_given : steps_give 0 0 ≡ true
start_given = steps_give_by 0 0 (omega arith) (omega arith)

-- one step more
pub step_more : (position total step : ℕ) → steps_give position total ≡ true → is_step step
    → steps_give (position + step) (total + missed_in step) ≡ true
step_more position total step e s =
    let w = steps_give_within position total e in
    let low = w.0 in
    let high = w.1 in
    let least = s.0 in
    let most = s.1 in
    let heard : position + step - (total + missed_in step) ≡ position - total + 1 = omega arith in
    steps_give_by (position + step) (total + missed_in step) (omega arith) (rw heard (omega arith))
