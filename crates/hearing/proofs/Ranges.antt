-- A tally in range, and what is reached from it.
use Prim.Native.Nat.{ℕ, zero, suc, ◌+◌, ◌*◌, ◌-◌, ◌≤◌, ◌<◌}
use mathlib.Core.Path.{◌≡◌}
use mathlib.Core.Bool.{Bool, true, false, ◌&&◌}
use mathlib.Core.List.{List, [], ◌∷◌}
use native.Mathlib.Omega.{arith}
use lib.Dec.{eqb, leb}
use lib.ListN.{length}
use borrow.Author.Tests.{le-leb, leb-true, eq-eqb, ne_eqb, eqb-true}
use Rattle.wire.proofs.Laws.{and_left, and_right, and_both, pick_keeps}
use Rattle.packets.specs.declared.Form.{Form}
use Rattle.packets.specs.Forms.{listed_form}
use Rattle.packets.specs.Numbers.{last}
use Rattle.packets.specs.Missed.{missed_of, StepsGive, steps_give}
use Rattle.packets.proofs.Missed.{steps_give_by, steps_give_within, tested_steps}
use Rattle.hearing.specs.declared.Tally.{Tally}
use Rattle.hearing.specs.Hearing.{Reach}
use Rattle.hearing.specs.Hearing.{farthest, heard_by_steps, tally_in_range, taking_byte, settled, reaching, outcome, hearing_of}
use Rattle.hearing.specs.Inside.{Counted, Sane}
use Rattle.hearing.proofs.Heard.{sane_taking, sane_settled, sane_less}
use Rattle.hearing.proofs.Goings.{taken_some}

pub range_by : (t : Tally) {a b c d : Bool} → leb (t.begins + t.came) farthest ≡ a → leb t.heard t.begins ≡ b
    → leb t.captures t.begins ≡ c → (leb t.position last && heard_by_steps t.heard t.position) ≡ d
    → tally_in_range t ≡ a && b && c && d
range_by t p q r s = rw (p, q, r, s)

-- ---- packets heard that steps give, as two inequalities

-- the first packet is at position 0, and each other is one step
steps_between_lem : (n position : ℕ) → suc n ≤ position + 1 → position - missed_of (suc n) position ≡ n
steps_between_lem n position few = omega arith

given_steps : (heard position : ℕ) → heard_by_steps heard position ≡ true → (heard ≤ position + 1) × (position ≤ 65_535 * (heard - 1))
given_steps zero position e = (omega arith, omega (arith, eqb-true position 0 e))
given_steps (suc n) position e =
    let few = leb (suc n) (position + 1) in
    let given = steps_give position (missed_of (suc n) position) in
    let both : few && given ≡ true = rw (ne_eqb (suc n) 0 (λ z. omega arith)) at e in
    let least : suc n ≤ position + 1 = leb-true (suc n) (position + 1) (and_left few given both) in
    let far = (steps_give_within position (missed_of (suc n) position) (and_right few given both)).1 in
    let count = steps_between_lem n position least in
    (least, omega (arith, rw count at far))

steps_given : (heard position : ℕ) → heard ≤ position + 1 → position ≤ 65_535 * (heard - 1) → heard_by_steps heard position ≡ true
steps_given zero position least most = eq-eqb position 0 (omega arith)
steps_given (suc n) position least most =
    let missed : ℕ = missed_of (suc n) position in
    rw (ne_eqb (suc n) 0 (λ z. omega arith))
    (and_both (leb (suc n) (position + 1)) (steps_give position missed) (le-leb (suc n) (position + 1) least)
    (steps_give_by position missed (omega arith) (rw (steps_between_lem n position least) (omega arith))))

-- "whose total no steps give", of a tally
pub heard_has_steps : (heard position : ℕ) → heard_by_steps heard position ≡ true → 0 < heard
    → StepsGive position (missed_of heard position)
heard_has_steps heard position e some =
    let few = leb heard (position + 1) in
    let given = steps_give position (missed_of heard position) in
    let both : few && given ≡ true = rw (ne_eqb heard 0 (λ z. omega arith)) at e in
    tested_steps position (missed_of heard position) (and_right few given both)

-- ---- a tally in range

-- has counts, with a number of 16 bits
pub range_counted : (t : Tally) → tally_in_range t ≡ true → t.number ≤ 65_535 → Counted t
range_counted t e small =
    let a : Bool = leb (t.begins + t.came) farthest in
    let b : Bool = leb t.heard t.begins in
    let c : Bool = leb t.captures t.begins in
    let near : Bool = leb t.position last in
    let given : Bool = heard_by_steps t.heard t.position in
    let abc = and_left (a && b && c) (near && given) e in
    let ab = and_left (a && b) c abc in
    let d = and_right (a && b && c) (near && given) e in
    let steps = given_steps t.heard t.position (and_right near given d) in
    record {
      heard = leb-true _ _ (and_right a b ab);
      captures = leb-true _ _ (and_right (a && b) c abc);
      position = leb-true _ _ (and_left near given d);
      number = small;
      least = steps.0;
      most = steps.1;
    }

range_near : (t : Tally) → tally_in_range t ≡ true → t.begins + t.came ≤ farthest
range_near t e =
    let a : Bool = leb (t.begins + t.came) farthest in
    let b : Bool = leb t.heard t.begins in
    let c : Bool = leb t.captures t.begins in
    let d : Bool = leb t.position last && heard_by_steps t.heard t.position in
    leb-true (t.begins + t.came) farthest (and_left a b (and_left (a && b) c (and_left (a && b && c) d e)))

-- a tally with counts, near enough, is in range
pub counted_range : (t : Tally) → Counted t → t.begins + t.came ≤ farthest → tally_in_range t ≡ true
counted_range t c near =
    let given = steps_given t.heard t.position c.least c.most in
    range_by t (le-leb (t.begins + t.came) farthest near) (le-leb _ _ c.heard) (le-leb _ _ c.captures)
    (and_both (leb t.position last) (heard_by_steps t.heard t.position) (le-leb _ _ c.position) given)

-- one in range is sane while a piece is taken
pub range_sane : (t : Tally) (n : ℕ) → tally_in_range t ≡ true → t.number ≤ 65_535 → n < 0x8000_0000_0000_0000 → Sane n t
range_sane t n e small short = record { room = omega (arith, range_near t e); counted = range_counted t e small }

-- so is what is reached
pub reach_sane : (bs : List ℕ) (n rest : ℕ) (f : Form) (t : Tally) → Sane (rest + length bs) t → Sane rest (reaching n f t bs).tally
unfolding reaching
reach_sane [] n rest f t s = sane_less rest (omega arith) s
reach_sane (b ∷ bs) n rest f t s =
    let more : rest + length bs + 1 ≡ rest + length (b ∷ bs) = omega arith in
    let after : Sane (rest + length bs) (taking_byte t b) = sane_taking (rest + length bs) t b (rw more s) in
    let came = sane_settled (rest + length bs) (n + 1) f (taking_byte t b) after (taken_some t b) in
    pick_keeps (λ (r : Reach). Sane rest r.tally) (eqb (settled (n + 1) f (taking_byte t b)).code 0) _ _
    (λ e. reach_sane bs (n + 1) rest f (settled (n + 1) f (taking_byte t b)).tally came) (λ e. sane_less rest (omega arith) came)

-- ---- what hearing a piece answers

pub hearing_broken : (f : Form) (t : Tally) (piece : List ℕ) → tally_in_range t && listed_form f ≡ false
    → hearing_of f t piece ≡ outcome (record { at = 0; code = 21; tally = t })
unfolding hearing_of
hearing_broken f t piece e = rw e

pub hearing_is : (f : Form) (t : Tally) (piece : List ℕ) → tally_in_range t ≡ true → listed_form f ≡ true
    → hearing_of f t piece ≡ outcome (reaching 0 f t piece)
unfolding hearing_of
hearing_is f t piece p q = rw (and_both (tally_in_range t) (listed_form f) p q)
