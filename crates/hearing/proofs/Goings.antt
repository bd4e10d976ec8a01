-- Each part of the way through a piece leads where all of it leads.
use Prim.Native.Nat.{ℕ, ◌+◌, ◌-◌, ◌≤◌, ◌<◌}
use mathlib.Core.Path.{◌≡◌, refl, sym, ap, subst, ◌∙◌}
use mathlib.Core.Bool.{Bool, true, false, ◌&&◌, not}
use mathlib.Core.List.{List, [], ◌∷◌, ◌++◌}
use native.Mathlib.Omega.{arith}
use lib.Dec.{eqb}
use lib.ListN.{length, get_or, take, drop, length-drop, take-append-drop, drop_of_length-le}
use lib.Seq.{drop-drop, length-take-le}
use borrow.Author.Tests.{ne_eqb, eqb-false}
use Rattle.packets.specs.declared.Form.{Form}
use Rattle.hearing.specs.declared.Tally.{Tally}
use Rattle.hearing.specs.Hearing.{Reach}
use Rattle.hearing.specs.Hearing.{taking_byte, heard_code, closes, settled, reaching}
use Rattle.hearing.specs.Inside.{goes_on, Counted, Sane, Goes, Samples, skipped}
use Rattle.hearing.proofs.Heard.{sane_taking, sane_settled}
use Rattle.hearing.proofs.Reaches.{settled_at, reach_byte, reach_skip}

-- samples that are skipped change no count
counted_skipped : (t : Tally) (k : ℕ) → Counted t → Counted (skipped t k)
counted_skipped t k c =
    record {
      heard = c.heard;
      captures = c.captures;
      position = c.position;
      number = c.number;
      least = c.least;
      most = c.most;
    }

pub goes_skip : (f : Form) (t : Tally) (piece : List ℕ) (at k : ℕ) → at + k ≤ length piece → Samples t k → Sane (length piece - at) t
    → Goes f t piece at (record { at = at + k; code = 0; tally = skipped t k })
unfolding goes_on
goes_skip f t piece at k room s sane =
    let xs : List ℕ = take k (drop at piece) in
    let counted : length xs ≡ k = length-take-le k (drop at piece) (simp length-drop (omega arith)) in
    let skips : reaching at f t (xs ++ drop k (drop at piece)) ≡ reaching (at + k) f (skipped t k) (drop k (drop at piece))
    = rw counted at (reach_skip xs (drop k (drop at piece)) at f t (rw counted s)) in
    record {
      same =
          sym (ap (reaching (at + k) f (skipped t k)) (drop-drop k at piece))
          ∙ sym skips
          ∙ ap (reaching at f t) (take-append-drop k (drop at piece));
      inside = room;
      sane = record { room = omega (arith, sane.room); counted = counted_skipped t k sane.counted };
    }

-- one byte
pub goes_byte : (f : Form) (t : Tally) (piece : List ℕ) (at : ℕ) → at < length piece → Sane (length piece - at) t
    → Goes f t piece at (settled (at + 1) f (taking_byte t (get_or piece at 0)))
unfolding taking_byte
goes_byte f t piece at h sane =
    let b : ℕ = get_or piece at 0 in
    let there : (settled (at + 1) f (taking_byte t b)).at ≡ at + 1 = settled_at (at + 1) f (taking_byte t b) in
    let left : length piece - (at + 1) + 1 ≡ length piece - at = omega arith in
    let after : Sane (length piece - (at + 1)) (taking_byte t b) = sane_taking (length piece - (at + 1)) t b (rw left sane) in
    record {
      same = ap (λ (k : ℕ). goes_on f (settled (at + 1) f (taking_byte t b)) (drop k piece)) there ∙ reach_byte f t piece at h;
      inside = omega (arith, there);
      sane =
          subst (λ (k : ℕ). Sane (length piece - k) (settled (at + 1) f (taking_byte t b)).tally) (sym there)
          (sane_settled (length piece - (at + 1)) (at + 1) f (taking_byte t b) after (omega arith));
    }

-- where a line is due, that is where all leads
pub goes_due : (f : Form) (t : Tally) (piece : List ℕ) (at : ℕ) (r : Reach) → Goes f t piece at r → (r.code ≡ 0 → ⊥)
    → r ≡ reaching at f t (drop at piece)
unfolding goes_on
goes_due f t piece at r g due = rw (ne_eqb r.code 0 due) at g.same

pub goes_on_lem : (f : Form) (t : Tally) (piece : List ℕ) (at : ℕ) (r : Reach) → Goes f t piece at r → r.code ≡ 0
    → reaching r.at f r.tally (drop r.at piece) ≡ reaching at f t (drop at piece)
unfolding goes_on
goes_on_lem f t piece at r g none = rw none at g.same

-- the piece is used up
pub used_up : (f : Form) (t : Tally) (piece : List ℕ) (at : ℕ) → length piece ≤ at
    → record { at = at; code = 0; tally = t } ≡ reaching at f t (drop at piece)
unfolding reaching
used_up f t piece at h = rw (drop_of_length-le piece h)

-- ---- where a line is due

pub taken_some : (t : Tally) (b : ℕ) → 0 < (taking_byte t b).came
unfolding taking_byte
taken_some t b = omega arith

-- a packet has its code, and is left before its effect
pub settled_due : (n : ℕ) (f : Form) (t : Tally) → ((settled n f t).code ≡ 0 → ⊥)
    → settled n f t ≡ record { at = n; code = heard_code f t; tally = t }
unfolding settled
settled_due n f t due = by (eqb (heard_code f t) 0) (eqb (heard_code f t) 1 && not (closes t)) refl refl
  where
    by : (waits quiet : Bool) → eqb (heard_code f t) 0 ≡ waits → (eqb (heard_code f t) 1 && not (closes t)) ≡ quiet
        → settled n f t ≡ record { at = n; code = heard_code f t; tally = t }
    by true quiet p q = absurd (due (rw p))
    by false true p q = absurd (due (rw (p, q)))
    by false false p q = rw (p, q)

-- What is due after some bytes: the code of a packet's bytes so far.
pub record Is-due (f : Form) (r : Reach) : Type 0 where
  pub code : r.code ≡ heard_code f r.tally
  pub some : 0 < r.tally.came

pub reach_due : (bs : List ℕ) (n : ℕ) (f : Form) (t : Tally) → ((reaching n f t bs).code ≡ 0 → ⊥) → Is-due f (reaching n f t bs)
unfolding reaching
reach_due [] n f t due = absurd (due refl)
reach_due (b ∷ bs) n f t due =
    by (eqb (settled (n + 1) f (taking_byte t b)).code 0) refl (reach_due bs (n + 1) f (settled (n + 1) f (taking_byte t b)).tally)
  where
    later : Tally
    later = (settled (n + 1) f (taking_byte t b)).tally

    by : (none : Bool) → eqb (settled (n + 1) f (taking_byte t b)).code 0 ≡ none
        → (((reaching (n + 1) f later bs).code ≡ 0 → ⊥) → Is-due f (reaching (n + 1) f later bs))
        → Is-due f (reaching n f t (b ∷ bs))
    by true e ih = rw e (ih (λ z. due (rw e z)))
    by false e ih =
        let here = settled_due (n + 1) f (taking_byte t b) (λ z. eqb-false _ _ e z) in
        rw (e, here) (record { code = refl; some = taken_some t b })
