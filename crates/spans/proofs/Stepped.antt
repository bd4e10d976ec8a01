-- The positions that a capture has had accepted: from one to the next is a step, and so what is heard and what is missed are all
-- positions up to the last.
use Prim.Native.Nat.{ℕ, ◌+◌, ◌-◌, ◌≤◌, ◌<◌}
use mathlib.Core.Path.{◌≡◌, refl}
use mathlib.Core.Bool.{Bool, true, false, ◌&&◌, not}
use mathlib.Core.List.{List, [], ◌∷◌}
use native.Mathlib.Omega.{arith}
use borrow.Author.Tests.{eqb-false}
use lib.Dec.{eqb}
use lib.ListN.{length}
use Rattle.wire.specs.Choice.{pick}
use Rattle.wire.proofs.Laws.{true_not_false}
use Rattle.packets.specs.Numbers.{number_at, step_of}
use Rattle.packets.specs.Missed.{are_steps, leads_to, steps_give}
use Rattle.packets.proofs.Missed.{step_from, heard_add_up, steps_tested}
use Rattle.reader.specs.Reading.{position_after}
use Rattle.heads.specs.declared.Head.{Head}
use Rattle.spans.specs.Report.{steps_over, missed_among, reader_after}

-- steps lead from the first, at position 0, to the last
abbrev pub Stepped : List ℕ → Type 0
Stepped [] = Unit {0}
Stepped (last ∷ before) = are_steps (steps_over (last ∷ before)) × (leads_to (steps_over (last ∷ before)) ≡ last)

-- "heard plus missed equals positions covered"
pub stepped_adds_up : (last : ℕ) (before : List ℕ) → Stepped (last ∷ before)
    → length (last ∷ before) + missed_among (last ∷ before) ≡ last + 1
stepped_adds_up last before t = omega (arith, t.1, heard_add_up (λ p q. q - p) last before t.0)

-- a reader that has heard them is not broken
pub stepped_given : (last : ℕ) (before : List ℕ) → Stepped (last ∷ before) → steps_give last (missed_among (last ∷ before)) ≡ true
stepped_given last before t =
    steps_tested last (missed_among (last ∷ before))
    (record { steps = steps_over (last ∷ before); allowed = t.0; leads = t.1; misses = refl })

-- one packet more
stepped_next : (number last : ℕ) (before : List ℕ) → Stepped (last ∷ before) → 0 < number → number ≤ 65_535
    → Stepped ((last + step_of (number_at last) number) ∷ last ∷ before)
stepped_next number last before t some small =
    let step = step_from last number some small in
    (((omega (arith, step.0), omega (arith, step.1)), t.0), omega (arith, t.1))

pub stepped_after : (h : Head) (accepted : List ℕ) (number : ℕ) → Stepped accepted → number ≤ 65_535
    → (not (eqb number 0) && not (reader_after h accepted).heard) ≡ false
    → Stepped (position_after (reader_after h accepted) number ∷ pick (eqb number 0) [] accepted)
stepped_after h accepted number t small opened = by (eqb number 0) accepted refl t opened
  where
    by : (zeroth : Bool) (accepted : List ℕ) → eqb number 0 ≡ zeroth → Stepped accepted
        → (not (eqb number 0) && not (reader_after h accepted).heard) ≡ false
        → Stepped (position_after (reader_after h accepted) number ∷ pick (eqb number 0) [] accepted)
    by true accepted e t opened = rw e (tt, refl)
    by false [] e t opened = absurd (true_not_false (rw e at opened))
    by false (last ∷ before) e t opened = rw e (stepped_next number last before t (omega (arith, eqb-false number 0 e)) small)
