-- How much was lost: by each step the position grows by it and the total by one less; so heard and missed are all positions.
use Prim.Native.Nat.{ℕ, ◌+◌, ◌<◌}
use mathlib.Core.Path.{◌≡◌, refl, sym, ap, ◌∙◌}
use mathlib.Core.Bool.{Bool, true, false, ◌&&◌}
use mathlib.Core.List.{List, [], ◌∷◌}
use native.Mathlib.Omega.{arith}
use borrow.Author.Tests.{eqb-true, eqb-false, le-leb, not-false}
use lib.Dec.{eqb, leb}
use lib.ListN.{length}
use Rattle.wire.proofs.Laws.{true_not_false, and_both}
use Rattle.wire.proofs.Checks.{absent}
use Rattle.packets.specs.Forms.{whole_of}
use Rattle.packets.specs.Numbers.{number_at, step_of, number_in, last}
use Rattle.packets.specs.Missed.{are_steps, leads_to, missed_over, steps_give}
use Rattle.packets.proofs.Numbers.{number_step}
use Rattle.packets.proofs.Missed.{step_from, heard_add_up, steps_tested, tested_steps}
use Rattle.reader.specs.declared.Reader.{Reader}
use Rattle.reader.specs.Reading.{silent, sound, step_to, reading_checks, reading_code, heard_with, reading_of, after_slices}
use Rattle.reader.specs.Lost.{with_slice, numbers_after, numbers_heard, steps_between}
use Rattle.reader.specs.Lost.{TotalIsOfTheSteps, HeardAndMissed, BrokenByItsTotal, SoundHasSteps, SoundBySteps}
use Rattle.reader.proofs.Reading.{heard_sound, heard_within, broken}

-- what a reader holds of a capture, by the numbers of its packets
abbrev Holds : Reader → List ℕ → Type 0
Holds r [] = (r.heard ≡ false) × (r.position ≡ 0) × (r.total ≡ 0)
Holds r (t ∷ ts) =
    (r.heard ≡ true)
    × (number_at r.position ≡ t)
    × are_steps (steps_between (t ∷ ts))
    × (leads_to (steps_between (t ∷ ts)) ≡ r.position)
    × (missed_over (steps_between (t ∷ ts)) ≡ r.total)

-- a later packet of the open capture
holds_next : (r : Reader) (packet : List ℕ) (numbers : List ℕ) → Holds r numbers → r.heard ≡ true → 0 < number_in packet
    → eqb (number_in packet) 0 ≡ false
    → Holds (heard_with r (number_in packet) (whole_of packet)).reader (number_in packet ∷ numbers)
holds_next r packet [] h begun some e = absurd (true_not_false (sym begun ∙ h.0))
holds_next r packet (t ∷ ts) h begun some e =
    let n = number_in packet in
    let step = step_from r.position n some (omega arith) in
    let same : step_of t n ≡ step_to r n = ap (λ (s : ℕ). step_of s n) (sym h.1) in
    rw e (
      refl,
      number_step r.position n some (omega arith),
      ((omega (arith, step.0, same), omega (arith, step.1, same)), h.2),
      omega (arith, h.3, same),
      omega (arith, h.4, same),
    )

-- any slice
holds_slice : (r : Reader) (slice numbers : List ℕ) → Holds r numbers → Holds (reading_of r slice).reader (with_slice r numbers slice)
unfolding reading_of reading_code
holds_slice r slice numbers h = by (eqb (reading_code r slice) 1) (eqb (number_in slice) 0) refl refl
  where
    by : (done zeroth : Bool) → eqb (reading_code r slice) 1 ≡ done → eqb (number_in slice) 0 ≡ zeroth
        → Holds (reading_of r slice).reader (with_slice r numbers slice)
    by false zeroth d e = rw d h
    by true true d e = rw (d, e) (refl, sym (eqb-true (number_in slice) 0 e), tt, refl, refl)
    by true false d e =
        let none = absent (reading_checks r slice) 1 refl (eqb-true (reading_code r slice) 1 d) in
        let begun : r.heard ≡ true = not-false r.heard (rw e at none.1.1.0) in
        rw (d, e) (rw e at (holds_next r slice numbers h begun (omega (arith, eqb-false (number_in slice) 0 e)) e))

holds_all : (r : Reader) (numbers : List ℕ) (slices : List (List ℕ)) → Holds r numbers
    → Holds (after_slices r slices) (numbers_after r numbers slices)
holds_all r numbers [] h = h
holds_all r numbers (slice ∷ slices) h =
    holds_all (reading_of r slice).reader (with_slice r numbers slice) slices (holds_slice r slice numbers h)

held : (n : ℕ) (slices : List (List ℕ)) → Holds (after_slices (silent n) slices) (numbers_heard n slices)
held n slices = holds_all (silent n) [] slices (refl, refl, refl)

-- ---- so

total_of_lem : (r : Reader) (numbers : List ℕ) → Holds r numbers
    → (r.total ≡ missed_over (steps_between numbers)) × (r.position ≡ leads_to (steps_between numbers))
total_of_lem r [] h = (h.2, h.1)
total_of_lem r (t ∷ ts) h = (sym h.4, sym h.3)

adds_up_lem : (r : Reader) (numbers : List ℕ) → Holds r numbers → r.heard ≡ true → length numbers + r.total ≡ r.position + 1
adds_up_lem r [] h begun = absurd (true_not_false (sym begun ∙ h.0))
adds_up_lem r (t ∷ ts) h begun = omega (arith, h.3, h.4, heard_add_up step_of t ts h.2)

pub total_is_of_the_steps : TotalIsOfTheSteps
total_is_of_the_steps n slices = total_of_lem (after_slices (silent n) slices) (numbers_heard n slices) (held n slices)

pub heard_and_missed : HeardAndMissed
heard_and_missed n slices begun = adds_up_lem (after_slices (silent n) slices) (numbers_heard n slices) (held n slices) begun

pub sound_has_steps : SoundHasSteps
sound_has_steps r fine begun = tested_steps r.position r.total (heard_within r fine begun).1

pub sound_by_steps : SoundBySteps
sound_by_steps r count begun near listed g =
    let fits = leb r.position last in
    let given = steps_give r.position r.total in
    let both : (fits && given) ≡ true =
    and_both fits given (le-leb r.position last near) (steps_tested r.position r.total g) in
    heard_sound r count begun both listed

pub broken_by_its_total : BrokenByItsTotal
broken_by_its_total r packet begun none = sym (broken r packet (by (sound r) refl))
  where
    by : (fine : Bool) → sound r ≡ fine → sound r ≡ false
    by true e = absurd (none (sound_has_steps r e begun))
    by false e = e
