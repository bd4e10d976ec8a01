-- Spans that some bytes have left: they are valid, each call leaves another such span, and the lines of a call fit 256 bytes.
use Prim.Native.Nat.{ℕ, ◌+◌, ◌≤◌, ◌<◌}
use mathlib.Core.Path.{◌≡◌, refl, ap}
use mathlib.Core.Bool.{true, false, ◌&&◌, not}
use mathlib.Core.List.{List, [], ◌∷◌}
use native.Mathlib.Decide.{dec_lt}
use native.Mathlib.Omega.{arith}
use lib.Dec.{eqb}
use lib.ListN.{length}
use borrow.Author.Tests.{lt-ltb, eq-eqb}
use Rattle.wire.proofs.Laws.{pick_keeps, or_right, or_left, and_both}
use Rattle.packets.specs.declared.Form.{Form}
use Rattle.heads.specs.Head.{head_read_code}
use Rattle.heads.proofs.Rounds.{passed}
use Rattle.hearing.specs.declared.Tally.{Tally}
use Rattle.hearing.specs.Hearing.{Reach}
use Rattle.spans.specs.declared.Span.{Span}
use Rattle.hearing.specs.Hearing.{farthest, tally_in_range, taking_byte, accepting, heard_code, closes, settled, reaching}
use Rattle.hearing.specs.Inside.{Counted}
use Rattle.spans.specs.Eating.{tally_from, fresh_span, head_lacks, head_ok, valid_span, head_of}
use Rattle.hearing.proofs.Reaches.{settled_at}
use Rattle.hearing.proofs.Ranges.{counted_range}
use Rattle.spans.proofs.Eats.{valid_by}
use Rattle.spans.proofs.Filling.{wants_of, wants_least}
use Rattle.spans.proofs.Rooms.{Short}

-- ---- spans that bytes have left

-- A span that has not stopped, after so many bytes of input.
pub record Going (s : Span) (used : ℕ) : Type 0 where
  pub long : length s.head ≡ 26
  pub head : s.came < wants_of s → (s.came ≡ used) × (s.tally ≡ tally_from 0)
  pub packets : wants_of s ≤ s.came → (s.came ≡ wants_of s) × (head_read_code s.head ≡ 1) × (s.tally.begins + s.tally.came ≡ used)
  pub counted : Counted s.tally

pub fresh_counted : (begins : ℕ) → Counted (tally_from begins)
fresh_counted begins =
    record {
      heard = omega arith;
      captures = omega arith;
      position = omega arith;
      number = omega arith;
      least = omega arith;
      most = omega arith;
    }

pub fresh_going : Going fresh_span 0
fresh_going =
    record {
      long = refl;
      head = λ h. (refl, refl);
      packets = λ h. absurd (omega (arith, wants_least 0 fresh_span.head));
      counted = fresh_counted 0;
    }

module _ (s : Span) (used : ℕ) (g : Going s used) (near : used ≤ farthest) where
  near_end : s.tally.begins + s.tally.came ≤ farthest
  near_end = elim (dec_lt s.came (wants_of s)) [ yes h ↦ opened (g.head h).1 | no h ↦ omega (arith, (g.packets (omega arith)).2) ]
    where
      opened : s.tally ≡ tally_from 0 → s.tally.begins + s.tally.came ≤ farthest
      opened e = omega (arith, ap (λ (t : Tally). t.begins) e, ap (λ (t : Tally). t.came) e)

  going_range : tally_in_range s.tally ≡ true
  going_range = counted_range s.tally g.counted near_end

  going_head : head_ok s ≡ true
  going_head = elim (dec_lt s.came (wants_of s)) [ yes h ↦ or_left _ _ (lt-ltb _ _ h) | no h ↦ whole (g.packets (omega arith)) ]
    where
      whole : (s.came ≡ wants_of s) × (head_read_code s.head ≡ 1) × (s.tally.begins + s.tally.came ≡ used) → head_ok s ≡ true
      whole p = or_right (head_lacks s) _ (and_both _ _ (eq-eqb _ _ p.0) (eq-eqb _ _ p.1))

  pub going_valid : s.stopped ≡ false → valid_span s ≡ true
  going_valid e = valid_by s e going_range going_head

  -- its lines are short
  pub going_short : wants_of s ≤ s.came → Short (head_of s) s.tally
  going_short whole =
      record {
        ok = (passed s.head (g.packets whole).1).ok;
        position = g.counted.position;
        captures = omega (arith, g.counted.captures, near_end);
        heard = omega (arith, g.counted.heard, near_end);
        begins = omega (arith, near_end);
      }

pub stopped_valid : (s : Span) → s.stopped ≡ true → valid_span s ≡ true
stopped_valid s e = valid_by s e refl refl

-- ---- what is reached

-- the input bytes that a tally stands behind
abbrev pub passed_by : Tally → ℕ
passed_by t = t.begins + t.came

passed_taking : (t : Tally) (b : ℕ) → passed_by (taking_byte t b) ≡ passed_by t + 1
unfolding taking_byte
passed_taking t b = omega arith

pub passed_accepting : (t : Tally) → passed_by (accepting t) ≡ passed_by t
unfolding accepting
passed_accepting t = omega arith

passed_settled : (n : ℕ) (f : Form) (t : Tally) → passed_by (settled n f t).tally ≡ passed_by t
unfolding settled
passed_settled n f t =
    let stays : Reach → Type 0 = λ r. passed_by r.tally ≡ passed_by t in
    let quiet : Reach = record { at = n; code = 0; tally = accepting t } in
    let due : Reach = record { at = n; code = heard_code f t; tally = t } in
    pick_keeps stays (eqb (heard_code f t) 0) _ _ (λ e. refl)
    (λ e. pick_keeps stays (eqb (heard_code f t) 1 && not (closes t)) quiet due (λ d. passed_accepting t) (λ d. refl))

pub passed_reach : (bs : List ℕ) (n : ℕ) (f : Form) (t : Tally)
    → passed_by (reaching n f t bs).tally + n ≡ passed_by t + (reaching n f t bs).at
unfolding reaching
passed_reach [] n f t = refl
passed_reach (b ∷ bs) n f t =
    let next = passed_reach bs (n + 1) f (settled (n + 1) f (taking_byte t b)).tally in
    let one = passed_settled (n + 1) f (taking_byte t b) in
    pick_keeps (λ (r : Reach). passed_by r.tally + n ≡ passed_by t + r.at) (eqb (settled (n + 1) f (taking_byte t b)).code 0) _ _
    (λ e. omega (arith, next, one, passed_taking t b)) (λ e. omega (arith, one, passed_taking t b, settled_at (n + 1) f (taking_byte t b)))
