-- All lines that packets bring, byte by byte, to the end of the input; and how the calls that take pieces agree with them.
use Prim.Native.Nat.{ℕ, suc, ◌+◌, ◌-◌, ◌≤◌}
use mathlib.Core.Path.{◌≡◌, refl, sym, ap, ◌∙◌}
use mathlib.Core.Bool.{Bool, true, false, ◌&&◌, not}
use mathlib.Core.List.{List, [], ◌∷◌, ◌++◌}
use native.Mathlib.Omega.{arith}
use lib.Dec.{eqb}
use lib.ListN.{length, drop}
use lib.Seq.{drop-append-add}
use borrow.Author.Tests.{eqb-false, eq-eqb, ne_eqb}
use Rattle.wire.specs.Choice.{pick}
use Rattle.wire.proofs.Laws.{pick_keeps}
use Rattle.packets.specs.declared.Form.{Form}
use Rattle.heads.specs.declared.Head.{Head}
use Rattle.heads.specs.Head.{form_in}
use Rattle.hearing.specs.declared.Tally.{Tally}
use Rattle.hearing.specs.Hearing.{Reach}
use Rattle.lines.specs.Lines.{Line, refusal_line, end_line}
use Rattle.hearing.specs.Hearing.{taking_byte, heard_code, closes, accepting, settled, reaching}
use Rattle.hearing.specs.Inside.{goes_on}
use Rattle.spans.specs.Eating.{ended_now, heard_lines}
use Rattle.hearing.proofs.Heard.{settled_by}
use Rattle.hearing.proofs.Reaches.{settled_at, reach_cons}
use Rattle.hearing.proofs.Goings.{settled_due}

-- the lines at the end of the input, with a tally
abbrev pub end_lines : Head → Tally → List Line
end_lines h t = ended_now h t ++ pick (eqb t.came 0) (end_line t.captures ∷ []) (refusal_line 30 t.begins ∷ [])

-- lines that come only where a code is 1
abbrev pub if_one : ℕ → List Line → List Line
if_one code ls = pick (eqb code 1) ls []

-- the lines of a byte's outcome, and those of what comes after it where a packet was accepted
abbrev pub by_reach : Head → Reach → List Line → List Line → List Line
by_reach h r silent accepted = pick (eqb r.code 0) silent (heard_lines h r ++ if_one r.code accepted)

-- what a tally comes to with one byte more, the n-th of those that are taken in one go
abbrev pub with_byte : ℕ → Form → Tally → ℕ → Reach
with_byte n f t b = settled n f (taking_byte t b)

unfoldable pub coming_by : Head → Tally → List ℕ → List Line
coming_by h t [] = end_lines h t
coming_by h t (b ∷ bs) =
    let r = with_byte 1 (form_in h) t b in
    by_reach h r (coming_by h r.tally bs) (coming_by h (accepting (taking_byte t b)) bs)

-- ---- bytes that are taken in one go

-- how many bytes were taken does not change the outcome
abbrev at_byte : ℕ → Reach → Reach
at_byte n r = record { at = n; code = r.code; tally = r.tally }

settled_any : (n : ℕ) (f : Form) (t : Tally) → settled n f t ≡ at_byte n (settled 1 f t)
unfolding settled
settled_any n f t = by (eqb (heard_code f t) 0) (eqb (heard_code f t) 1 && not (closes t)) refl refl
  where
    by : (waits quiet : Bool) → eqb (heard_code f t) 0 ≡ waits → (eqb (heard_code f t) 1 && not (closes t)) ≡ quiet
        → settled n f t ≡ at_byte n (settled 1 f t)
    by true quiet p q = rw p
    by false true p q = rw (p, q)
    by false false p q = rw (p, q)

-- what was reached lies behind what was taken before
pub reach_from : (bs : List ℕ) (n : ℕ) (f : Form) (t : Tally) → n ≤ (reaching n f t bs).at
unfolding reaching
reach_from [] n f t = omega arith
reach_from (b ∷ bs) n f t =
    let r : Reach = with_byte (n + 1) f t b in
    let next = reach_from bs (n + 1) f r.tally in
    pick_keeps (λ (x : Reach). n ≤ x.at) (eqb r.code 0) _ _ (λ e. omega (arith, next))
    (λ e. omega (arith, settled_at (n + 1) f (taking_byte t b)))

pub reach_ahead : (b : ℕ) (bs : List ℕ) (n : ℕ) (f : Form) (t : Tally) → n + 1 ≤ (reaching n f t (b ∷ bs)).at
unfolding reaching
reach_ahead b bs n f t =
    let r : Reach = with_byte (n + 1) f t b in
    pick_keeps (λ (x : Reach). n + 1 ≤ x.at) (eqb r.code 0) _ _ (λ e. reach_from bs (n + 1) f r.tally)
    (λ e. omega (arith, settled_at (n + 1) f (taking_byte t b)))

-- the lines from what was reached on, of bytes of which n were taken before
abbrev pub after_reach : Head → ℕ → Reach → List ℕ → List Line
after_reach h n r bs = by_reach h r (end_lines h r.tally) (coming_by h (accepting r.tally) (drop (r.at - n) bs))

-- one byte, and what it comes to
coming_silent : (h : Head) (t : Tally) (b : ℕ) (bs : List ℕ)
    → (let r = with_byte 1 (form_in h) t b in eqb r.code 0 ≡ true → coming_by h t (b ∷ bs) ≡ coming_by h r.tally bs)
unfolding coming_by
coming_silent h t b bs e = rw e

-- a byte after which more is waited for
pub coming_wait : (h : Head) (t : Tally) (b : ℕ) (bs : List ℕ) → heard_code (form_in h) (taking_byte t b) ≡ 0
    → coming_by h t (b ∷ bs) ≡ coming_by h (taking_byte t b) bs
coming_wait h t b bs w =
    let came = settled_by 1 (form_in h) (taking_byte t b) w refl in
    coming_silent h t b bs (ap (λ (r : Reach). eqb r.code 0) came) ∙ ap (λ (r : Reach). coming_by h r.tally bs) came

pub coming_due : (h : Head) (t : Tally) (b : ℕ) (bs : List ℕ)
    → (let r = with_byte 1 (form_in h) t b in
    eqb r.code 0 ≡ false → coming_by h t (b ∷ bs) ≡ heard_lines h r ++ if_one r.code (coming_by h (accepting (taking_byte t b)) bs))
unfolding coming_by
coming_due h t b bs e = rw e

-- bytes of which n were taken before, and what the first of them comes to
module _ (n : ℕ) (f : Form) (t : Tally) (b : ℕ) (bs : List ℕ) where
  first_settled : reaching n f t (b ∷ bs) ≡ goes_on f (at_byte (n + 1) (with_byte 1 f t b)) bs
  first_settled = reach_cons n f t b bs ∙ ap (λ (r : Reach). goes_on f r bs) (settled_any (n + 1) f (taking_byte t b))

  reach_silent : eqb (with_byte 1 f t b).code 0 ≡ true → reaching n f t (b ∷ bs) ≡ reaching (n + 1) f (with_byte 1 f t b).tally bs
  unfolding goes_on
  reach_silent e = first_settled ∙ rw e

  reach_stops : eqb (with_byte 1 f t b).code 0 ≡ false → reaching n f t (b ∷ bs) ≡ with_byte (n + 1) f t b
  unfolding goes_on
  reach_stops e = first_settled ∙ (rw e) ∙ sym (settled_any (n + 1) f (taking_byte t b))

shifted : (h : Head) (n : ℕ) (r : Reach) (b : ℕ) (bs : List ℕ) → n + 1 ≤ r.at → after_reach h n r (b ∷ bs) ≡ after_reach h (n + 1) r bs
shifted h n r b bs ahead =
    let one : r.at - n ≡ suc (r.at - (n + 1)) = omega arith in
    ap (λ (k : ℕ). by_reach h r (end_lines h r.tally) (coming_by h (accepting r.tally) (drop k (b ∷ bs)))) one

-- where a byte brings lines, the rest of the bytes comes after them
stopped_here : (h : Head) (n code : ℕ) (u : Tally) (b : ℕ) (bs : List ℕ) → eqb code 0 ≡ false
    → after_reach h n (record { at = n + 1; code = code; tally = u }) (b ∷ bs)
    ≡ heard_lines h (record { at = 1; code = code; tally = u }) ++ if_one code (coming_by h (accepting u) bs)
stopped_here h n code u b bs e =
    let one : n + 1 - n ≡ 1 = omega arith in
    rw (e, one)

pub coming_reach : (bs : List ℕ) (n : ℕ) (h : Head) (t : Tally) → coming_by h t bs ≡ after_reach h n (reaching n (form_in h) t bs) bs
unfolding reaching coming_by
coming_reach [] n h t = refl
coming_reach (b ∷ bs) n h t = by (eqb r.code 0) refl (coming_reach bs (n + 1) h r.tally)
  where
    f : Form
    f = form_in h

    u : Tally
    u = taking_byte t b

    r : Reach
    r = settled 1 f u

    by : (silent : Bool) → eqb r.code 0 ≡ silent
        → coming_by h r.tally bs ≡ after_reach h (n + 1) (reaching (n + 1) f r.tally bs) bs
        → coming_by h t (b ∷ bs) ≡ after_reach h n (reaching n f t (b ∷ bs)) (b ∷ bs)
    by true e ih =
        coming_silent h t b bs e
        ∙ ih
        ∙ sym (shifted h n (reaching (n + 1) f r.tally bs) b bs (reach_from bs (n + 1) f r.tally))
        ∙ ap (λ (x : Reach). after_reach h n x (b ∷ bs)) (sym (reach_silent n f t b bs e))
    by false e ih =
        let code : ℕ = heard_code f u in
        let first : r ≡ record { at = 1; code = code; tally = u } = settled_due 1 f u (λ z. eqb-false _ _ e z) in
        let then' : settled (n + 1) f u ≡ record { at = n + 1; code = code; tally = u }
        = settled_any (n + 1) f u ∙ ap (at_byte (n + 1)) first in
        coming_due h t b bs e
        ∙ ap (λ (x : Reach). heard_lines h x ++ if_one x.code (coming_by h (accepting u) bs)) first
        ∙ sym (stopped_here h n code u b bs (ap (λ (x : Reach). eqb x.code 0) (sym first) ∙ e))
        ∙ ap (λ (x : Reach). after_reach h n x (b ∷ bs)) (sym (reach_stops n f t b bs e ∙ then'))

-- ---- a piece, and the rest

pub reach_append : (xs ys : List ℕ) (n : ℕ) (f : Form) (t : Tally) → reaching n f t (xs ++ ys) ≡ goes_on f (reaching n f t xs) ys
unfolding reaching goes_on
reach_append [] ys n f t = refl
reach_append (x ∷ xs) ys n f t = by (eqb r.code 0) refl (reach_append xs ys (n + 1) f r.tally)
  where
    r : Reach
    r = with_byte (n + 1) f t x

    by : (silent : Bool) → eqb r.code 0 ≡ silent
        → reaching (n + 1) f r.tally (xs ++ ys) ≡ goes_on f (reaching (n + 1) f r.tally xs) ys
        → reaching n f t (x ∷ (xs ++ ys)) ≡ goes_on f (reaching n f t (x ∷ xs)) ys
    by true e ih = rw e ih
    by false e ih = rw (e, e)

-- bytes that were all taken in silence
pub reach_used : (bs : List ℕ) (n : ℕ) (f : Form) (t : Tally) → (reaching n f t bs).code ≡ 0 → (reaching n f t bs).at ≡ n + length bs
unfolding reaching
reach_used [] n f t e = omega arith
reach_used (b ∷ bs) n f t e₀ = by (eqb r.code 0) refl (reach_used bs (n + 1) f r.tally) e₀
  where
    r : Reach
    r = with_byte (n + 1) f t b

    by : (silent : Bool) → eqb r.code 0 ≡ silent
        → ((reaching (n + 1) f r.tally bs).code ≡ 0 → (reaching (n + 1) f r.tally bs).at ≡ n + 1 + length bs)
        → (reaching n f t (b ∷ bs)).code ≡ 0
        → (reaching n f t (b ∷ bs)).at ≡ n + length (b ∷ bs)
    by true s ih e = rw s (omega (arith, ih (rw s at e)))
    by false s ih e = absurd (eqb-false _ _ s (rw s at e))

-- a piece that was taken in silence leaves its lines to the rest
pub coming_on : (h : Head) (t : Tally) (piece rest : List ℕ)
    → (let r = reaching 0 (form_in h) t piece in r.code ≡ 0 → coming_by h t (piece ++ rest) ≡ coming_by h r.tally rest)
unfolding goes_on
coming_on h t piece rest none =
    let f : Form = form_in h in
    let r : Reach = reaching 0 f t piece in
    let used : r.at ≡ length piece = reach_used piece 0 f t none ∙ omega arith in
    let next : Reach = reaching r.at f r.tally rest in
    let ahead : r.at ≤ next.at = reach_from rest r.at f r.tally in
    let count : next.at - 0 ≡ length piece + (next.at - r.at) = omega (arith, used, ahead) in
    let on : goes_on f r rest ≡ next = rw (eq-eqb r.code 0 none) in
    let left : drop (next.at - 0) (piece ++ rest) ≡ drop (next.at - r.at) rest
    = ap (λ (k : ℕ). drop k (piece ++ rest)) count ∙ drop-append-add piece rest (next.at - r.at) in
    coming_reach (piece ++ rest) 0 h t
    ∙ ap (λ (x : Reach). after_reach h 0 x (piece ++ rest)) (reach_append piece rest 0 f t ∙ on)
    ∙ ap (λ (l : List ℕ). by_reach h next (end_lines h next.tally) (coming_by h (accepting next.tally) l)) left
    ∙ sym (coming_reach rest r.at h r.tally)

-- a piece in which lines are due has them in front of the rest
pub coming_first : (h : Head) (t : Tally) (piece rest : List ℕ) → ((reaching 0 (form_in h) t piece).code ≡ 0 → ⊥)
    → (let r = reaching 0 (form_in h) t piece in
    coming_by h t (piece ++ rest)
    ≡ heard_lines h r ++ if_one r.code (coming_by h (accepting r.tally) (drop r.at (piece ++ rest))))
unfolding goes_on
coming_first h t piece rest due =
    let r : Reach = reaching 0 (form_in h) t piece in
    let some : eqb r.code 0 ≡ false = ne_eqb r.code 0 due in
    let from : r.at - 0 ≡ r.at = omega arith in
    let stays : goes_on (form_in h) r rest ≡ r = rw some in
    coming_reach (piece ++ rest) 0 h t
    ∙ ap (λ (x : Reach). after_reach h 0 x (piece ++ rest)) (reach_append piece rest 0 (form_in h) t ∙ stays)
    ∙ rw (some, from)
