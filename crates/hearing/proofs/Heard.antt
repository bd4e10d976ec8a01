-- What a byte of a packet comes to, from what the tests came to.
use Prim.Native.Nat.{ℕ, ◌+◌, ◌/◌, ◌%◌, ◌≤◌, ◌<◌}
use mathlib.Core.Path.{◌≡◌, refl, ap, ◌∙◌}
use mathlib.Core.Bool.{Bool, true, false, ◌&&◌, not}
use mathlib.Core.List.{List, [], ◌∷◌}
use native.Mathlib.Omega.{arith}
use lib.Dec.{eqb, ltb}
use lib.ListN.{get_or}
use borrow.Author.Tests.{ltb-false, eqb-true, eqb-false}
use Rattle.wire.proofs.Laws.{and_left, pick_keeps}
use Rattle.wire.proofs.Checks.{absent, given_below}
use Rattle.wire.specs.Choice.{pick, check, first_of}
use Rattle.packets.specs.declared.Form.{Form}
use Rattle.std.specs.Prelude.{Some, None}
use Rattle.packets.specs.Forms.{same_form, total_of, listed_form}
use Rattle.packets.proofs.Forms.{picked_some}
use Rattle.packets.specs.Numbers.{last}
use Rattle.packets.proofs.Missed.{step_from}
use Rattle.hearing.specs.declared.Tally.{Tally}
use Rattle.hearing.specs.Hearing.{Reach}
use Rattle.hearing.specs.Hearing.{low_high, field_with, form_coming, position_now, lacks_first, heard_checks, heard_code}
use Rattle.hearing.specs.Hearing.{taking_byte, accepting, closes, settled}
use Rattle.hearing.specs.Inside.{Counted, Sane, word_at, two_at}

abbrev pub code_by : Bool → Bool → Bool → Bool → Bool → Bool → ℕ
code_by few ok short same lone past =
    first_of
    (check 0 few ∷ check 30 (not ok) ∷ check 0 short ∷ check 32 (not same) ∷ check 31 lone ∷ check 33 past ∷ [])
    1

pub heard_by : (f : Form) (t : Tally) {few ok short same lone past : Bool}
    → ltb t.came 2 ≡ few → listed_form (form_coming t) ≡ ok → ltb t.came (total_of (form_coming t)) ≡ short
    → same_form (form_coming t) f ≡ same → lacks_first t ≡ lone → ltb last (position_now t) ≡ past
    → heard_code f t ≡ code_by few ok short same lone past
unfolding heard_code
heard_by f t a b c d e g = cc

abbrev pub reach_by : ℕ → ℕ → Bool → Tally → Reach
reach_by n code close t =
    pick (eqb code 0) (record { at = n; code = 0; tally = t })
    (pick (eqb code 1 && not close) (record { at = n; code = 0; tally = accepting t }) (record { at = n; code = code; tally = t }))

pub settled_by : (n : ℕ) (f : Form) (t : Tally) {code : ℕ} {close : Bool} → heard_code f t ≡ code → closes t ≡ close
    → settled n f t ≡ reach_by n code close t
unfolding settled
settled_by n f t p q = cc

-- a code is at most 33
pub heard_small : (f : Form) (t : Tally) → heard_code f t < 34
unfolding heard_code
heard_small f t = given_below 34 (heard_checks f t) 1 refl (omega arith)

-- what `total_of` answers for a listed form
pub total_is : (f g : Form) (n : ℕ) → Some n ≡ pick (listed_form g) (Some (total_of g)) None → g ≡ f → n ≡ total_of f
total_is f g n is same = (picked_some (listed_form g) (total_of g) n is).1 ∙ ap total_of same

-- ---- the four bytes at a place

module _ (piece : List ℕ) (at : ℕ) (small : (k : ℕ) → get_or piece k 0 < 256) where
  pub word_number : word_at piece at / 65536 ≡ two_at piece (at + 2)
  word_number =
      let next : at + 2 + 1 ≡ at + 3 = omega arith in
      rw next (omega (arith, small at, small (at + 1), small (at + 2), small (at + 3)))

-- the position of an accepted packet is one that there is
pub accepted_fits : (f : Form) (t : Tally) → heard_code f t ≡ 1 → position_now t ≤ last
unfolding heard_code
accepted_fits f t e = ltb-false _ _ (absent (heard_checks f t) 1 refl e).1.1.1.1.1.0

-- and its capture is open, or begins with it
pub accepted_open : (f : Form) (t : Tally) → heard_code f t ≡ 1 → lacks_first t ≡ false
unfolding heard_code
accepted_open f t e = (absent (heard_checks f t) 1 refl e).1.1.1.1.0

-- ---- counts, and sums that fit

-- an accepted packet leaves counts: it is one step more, or the start
pub counted_accepting : (t : Tally) → Counted t → 0 < t.came → lacks_first t ≡ false → position_now t ≤ last → Counted (accepting t)
unfolding accepting
counted_accepting t c some opened fits = by (eqb t.number 0) refl
  where
    by : (zeroth : Bool) → eqb t.number 0 ≡ zeroth → Counted (accepting t)
    by true e =
        rw e
        (record {
          heard = omega (arith, some);
          captures = omega (arith, c.captures, some);
          position = omega arith;
          number = omega arith;
          least = omega arith;
          most = omega arith;
        })
    by false e =
        let begun : eqb t.heard 0 ≡ false = rw e at opened in
        let some' : 0 < t.heard = omega (arith, eqb-false t.heard 0 begun) in
        let above : 0 < t.number = omega (arith, eqb-false t.number 0 e) in
        let step = step_from t.position t.number above c.number in
        rw e
        (record {
          heard = omega (arith, c.heard, some);
          captures = omega (arith, c.captures);
          position = rw e at fits;
          number = omega arith;
          least = omega (arith, c.least, step.0);
          most = omega (arith, c.most, step.1);
        })

sane_accepting : (rest : ℕ) (t : Tally) → Sane rest t → 0 < t.came → lacks_first t ≡ false → position_now t ≤ last
    → Sane rest (accepting t)
unfolding accepting
sane_accepting rest t s some opened fits =
    record { room = omega (arith, s.room); counted = counted_accepting t s.counted some opened fits }

-- so does each byte
field_small : (place came field b : ℕ) → field ≤ 65_535 → field_with place came field b ≤ 65_535
field_small place came field b small =
    let fits : ℕ → Type 0 = λ n. n ≤ 65_535 in
    pick_keeps fits (eqb came place) (b % 256) (pick (eqb came (place + 1)) (low_high field b) field) (λ e. omega arith)
    (λ e. pick_keeps fits (eqb came (place + 1)) (low_high field b) field (λ q. omega arith) (λ q. small))

pub sane_taking : (rest : ℕ) (t : Tally) (b : ℕ) → Sane (rest + 1) t → Sane rest (taking_byte t b)
unfolding taking_byte
sane_taking rest t b s =
    let c = s.counted in
    record {
      room = omega (arith, s.room);
      counted =
          record {
            heard = c.heard;
            captures = c.captures;
            position = c.position;
            number = field_small 2 t.came t.number b c.number;
            least = c.least;
            most = c.most;
          };
    }

pub sane_settled : (rest n : ℕ) (f : Form) (t : Tally) → Sane rest t → 0 < t.came → Sane rest (settled n f t).tally
unfolding settled
sane_settled rest n f t s some =
    pick_keeps (λ (r : Reach). Sane rest r.tally) (eqb (heard_code f t) 0) _ _ (λ e. s)
    (λ e.
    pick_keeps (λ (r : Reach). Sane rest r.tally) (eqb (heard_code f t) 1 && not (closes t)) _ _
    (λ q.
    let one = eqb-true _ _ (and_left (eqb (heard_code f t) 1) (not (closes t)) q) in
    sane_accepting rest t s some (accepted_open f t one) (accepted_fits f t one))
    (λ q. s))

pub sane_less : {rest : ℕ} (less : ℕ) {t : Tally} → less ≤ rest → Sane rest t → Sane less t
sane_less less h s = record { room = omega (arith, s.room); counted = s.counted }
