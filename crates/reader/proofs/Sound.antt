-- A reader keeps sound: nothing that it is handed breaks it. What refuses returns the reader given; what is taken leaves the
-- form of a packet, which is listed, a position that is not past the last, and a total that steps to it give.
use Prim.Native.Nat.{ℕ, ◌+◌, ◌≤◌, ◌<◌}
use mathlib.Core.Path.{◌≡◌, refl, sym, ◌∙◌}
use mathlib.Core.Bool.{Bool, true, false, ◌&&◌, not}
use mathlib.Core.List.{List, [], ◌∷◌}
use native.Mathlib.Omega.{arith}
use borrow.Author.Tests.{eqb-true, eqb-false, le-leb, ltb-false, not-false}
use lib.Dec.{eqb, leb}
use Rattle.wire.proofs.Laws.{and_both, pick_keeps}
use Rattle.wire.proofs.Checks.{absent}
use Rattle.packets.specs.declared.Form.{Form}
use Rattle.packets.specs.Forms.{listed_form, whole_of, is_packet}
use Rattle.packets.specs.Channels.{is_count}
use Rattle.packets.specs.Numbers.{number_in, last}
use Rattle.packets.specs.Missed.{missed_in, steps_give}
use Rattle.packets.proofs.Missed.{step_from, start_given, step_more}
use Rattle.reader.specs.declared.Reader.{Reader}
use Rattle.reader.specs.Answers.{Heard}
use Rattle.reader.specs.Reading.{silent, sound, step_to, position_after, reading_checks, reading_code}
use Rattle.reader.specs.Reading.{heard_at, heard_with, reading_of, after_slices, KeepsItsCount, BrokenByItsCount}
use Rattle.reader.proofs.Reading.{sound_count, untold_broken, heard_within, broken}

pub silent_sound : (n : ℕ) → is_count n ≡ true → sound (silent n) ≡ true
silent_sound n count = rw count

-- a step more of the same capture: a total that steps give is one again
step_sound : (r : Reader) (number : ℕ) (f : Form) → sound r ≡ true → r.heard ≡ true → 0 < number → number ≤ 65_535
    → listed_form f ≡ true → r.position + step_to r number ≤ last
    → sound (heard_at r.channels (r.position + step_to r number) 0 (r.total + missed_in (step_to r number)) f).reader ≡ true
step_sound r number f fine begun some small listed near =
    let position = r.position + step_to r number in
    let total = r.total + missed_in (step_to r number) in
    let given = (heard_within r fine begun).1 in
    let step = step_more r.position r.total (step_to r number) given (step_from r.position number some small) in
    let held = and_both (leb position last) (steps_give position total) (le-leb position last near) step in
    and_both (is_count r.channels) (leb position last && steps_give position total && listed_form f) (sound_count r fine)
    (and_both (leb position last && steps_give position total) (listed_form f) held listed)

-- none of the five refusals: the position is not past the last, and the packet's form is listed
taken_sound : (r : Reader) (slice : List ℕ) → sound r ≡ true → reading_code r slice ≡ 1
    → sound (heard_with r (number_in slice) (whole_of slice)).reader ≡ true
unfolding reading_code
taken_sound r slice fine one =
    let none = absent (reading_checks r slice) 1 refl one in
    by (eqb (number_in slice) 0) refl (not-false (is_packet slice) none.1.0) none.1.1.0
    (ltb-false last (position_after r (number_in slice)) none.1.1.1.1.0)
  where
    by : (zeroth : Bool) → eqb (number_in slice) 0 ≡ zeroth → is_packet slice ≡ true
        → (not (eqb (number_in slice) 0) && not r.heard) ≡ false
        → position_after r (number_in slice) ≤ last
        → sound (heard_with r (number_in slice) (whole_of slice)).reader ≡ true
    by true e listed lone within = rw (e, start_given, sound_count r fine) listed
    by false e listed lone within =
        let begun : r.heard ≡ true = not-false r.heard (rw e at lone) in
        let some : 0 < number_in slice = omega (arith, eqb-false (number_in slice) 0 e) in
        rw e (step_sound r (number_in slice) (whole_of slice) fine begun some (omega arith) listed (rw e at within))

-- whatever the slice is
pub reading_keeps_sound : (r : Reader) (slice : List ℕ) → sound r ≡ true → sound (reading_of r slice).reader ≡ true
unfolding reading_of
reading_keeps_sound r slice fine =
    pick_keeps (λ (h : Heard). sound h.reader ≡ true) (eqb (reading_code r slice) 1) _ _
    (λ done. taken_sound r slice fine (eqb-true (reading_code r slice) 1 done))
    (λ refused. fine)

-- whatever the slices are
pub slices_keep_sound : (r : Reader) (slices : List (List ℕ)) → sound r ≡ true → sound (after_slices r slices) ≡ true
slices_keep_sound r [] fine = fine
slices_keep_sound r (slice ∷ slices) fine = slices_keep_sound (reading_of r slice).reader slices (reading_keeps_sound r slice fine)

-- ---- the count

reading_keeps_count : (r : Reader) (slice : List ℕ) → (reading_of r slice).reader.channels ≡ r.channels
unfolding reading_of
reading_keeps_count r slice =
    pick_keeps (λ (h : Heard). h.reader.channels ≡ r.channels) (eqb (reading_code r slice) 1) _ _ (λ done. refl) (λ refused. refl)

pub keeps_its_count : KeepsItsCount
keeps_its_count r [] = refl
keeps_its_count r (slice ∷ slices) = keeps_its_count (reading_of r slice).reader slices ∙ reading_keeps_count r slice

pub broken_by_its_count : BrokenByItsCount
broken_by_its_count r packet none = sym (broken r packet (untold_broken r none))
