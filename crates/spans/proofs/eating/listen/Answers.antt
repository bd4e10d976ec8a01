-- The packets wait, or their lines are told or do not fit.
use Rattle.std.proofs.Common.{ℕ, ◌≡◌, Option, Some, refl, sym, ap, ◌∙◌, length, not, eqb, arith}
use Rattle.std.proofs.lemmas.Result.{err_from_is_err_and}
use Rattle.heads.specs.declared.Head.{Head}
use Rattle.heads.specs.Head.{allowed_head, form_in}
use Rattle.heads.proofs.Values.{form_listed}
use Rattle.packets.specs.declared.Form.{Form}
use Rattle.packets.specs.Forms.{found}
use Rattle.packets.proofs.Forms.{found_listed, found_some}
use Rattle.hearing.specs.Hearing.{reach_told, stop_told}
use Rattle.hearing.proofs.Stops.{stop_some}
use Rattle.spans.specs.declared.Span.{Span}
use Rattle.spans.specs.Eating.{with_tally, heard_lines}
use Rattle.spans.specs.Inside.{stopped_at}
use Rattle.spans.proofs.Eats.{answers, listening_by_lem, listening_waits, heard_tells, refuses, room}
use Rattle.spans.proofs.Eats.{hears_all, reach_is, next_is, reach_counted}
use Rattle.spans.proofs.eating.listen.Goals as goal

-- the head's form
got : (h : Head) (x : Option Form) (f : Form) → x ≡ found (form_in h) → x ≡ Some f → f ≡ form_in h
got h x f is some = (found_some (form_in h) f (sym some ∙ is)).1

pub unwrap-requires : goal.unwrap-requires
unwrap-requires c =
    let allowed = ap allowed_head c.head_in-h.ensures ∙ c.requires.0 in
    rw (c.form_in.ensures, found_listed (form_in c.head_in-h.result) (form_listed c.head_in-h.result allowed))

pub returns-in_err-heard : goal.returns-in_err-heard
returns-in_err-heard c =
    let a = c.args in
    hears_all a.s a.piece.now c.requires.0 c.requires.1 c.head_in-h.result c.unwrap.result c.head_in-h.ensures (got c.head_in-h.result _ _ c.form_in.ensures c.unwrap.ensures)
    c.in_err-heard.field-0.0 c.in_err-heard.ensures.code

pub returns-in_default : goal.returns-in_default
returns-in_default c =
    let a = c.args in
    let n = length a.out.now in
    let reach = reach_told c.in_ok-heard.heard.reach in
    let is =
    reach_is a.s a.piece.now c.requires.0 c.requires.1 c.head_in-h.result c.unwrap.result c.head_in-h.ensures (got c.head_in-h.result _ _ c.form_in.ensures c.unwrap.ensures) reach _
    c.in_ok-heard.ensures.heard in
    let waits = listening_waits a.s n reach (rw c.in_default.is) in
    answers a.out.now _ (listening_by_lem a.s a.piece.now n reach is ∙ waits)
    (ap (λ (x : Span). record { code = 0; consumed = reach.at; wrote = 0; span = x }) c.with_tally.ensures) refl

pub heard_due-requires : goal.heard_due-requires
heard_due-requires c =
    let a = c.args in
    let counted =
    reach_counted a.s a.piece.now c.requires.0 c.requires.1 c.head_in-h.result c.unwrap.result c.head_in-h.ensures (got c.head_in-h.result _ _ c.form_in.ensures c.unwrap.ensures)
    (reach_told c.in_ok-heard.heard.reach) _ c.in_ok-heard.ensures.heard (omega (arith, c.well_formed)) (omega (arith, c.well_formed)) in
    (ap allowed_head c.head_in-h.ensures ∙ c.requires.0, counted)

pub returns-in_err-wrote : goal.returns-in_err-wrote
returns-in_err-wrote c =
    let a = c.args in
    let r = c.in_ok-heard.heard.reach in
    let some = stop_some c.in-Some.stop in
    let is =
    reach_is a.s a.piece.now c.requires.0 c.requires.1 c.head_in-h.result c.unwrap.result c.head_in-h.ensures (got c.head_in-h.result _ _ c.form_in.ensures c.unwrap.ensures)
    (reach_told r) _ c.in_ok-heard.ensures.heard in
    let lines = ap (λ (x : Head). heard_lines x (stopped_at c.in-Some.stop r.tally)) c.head_in-h.ensures in
    let tells =
    heard_tells a.s a.piece.now a.out.now c.tell.new.out (record { at = r.at; code = stop_told c.in-Some.stop; tally = r.tally })
    c.heard_due.result _ (rw c.in-Some.is at is) (λ z. omega (arith, some)) (c.heard_due.ensures.0 ∙ lines, c.heard_due.ensures.1)
    c.in_err-wrote.ensures in
    let p = err_from_is_err_and c.from_residual-in_err-wrote.result c.from_residual-in_err-wrote.ensures.1 in
    rw (p.1, p.2) (refuses c.in_err-wrote.field-0.0 tells)

pub returns : goal.returns
returns c =
    let fits : ◌≡◌ {A = ℕ} 1 20 → ⊥ = λ e. omega arith in
    let a = c.args in
    let o = c.in_ok-heard.heard in
    let r = o.reach in
    let stop = c.in-Some.stop in
    let some = stop_some stop in
    let is =
    reach_is a.s a.piece.now c.requires.0 c.requires.1 c.head_in-h.result c.unwrap.result c.head_in-h.ensures (got c.head_in-h.result _ _ c.form_in.ensures c.unwrap.ensures)
    (reach_told r) _ c.in_ok-heard.ensures.heard in
    let next =
    next_is a.s a.piece.now c.requires.0 c.requires.1 c.head_in-h.result c.unwrap.result c.head_in-h.ensures (got c.head_in-h.result _ _ c.form_in.ensures c.unwrap.ensures)
    (reach_told r) _ c.in_ok-heard.ensures.heard in
    let lines = ap (λ (x : Head). heard_lines x (stopped_at stop r.tally)) c.head_in-h.ensures in
    let tells =
    heard_tells a.s a.piece.now a.out.now c.tell.new.out (record { at = r.at; code = stop_told stop; tally = r.tally })
    c.heard_due.result _ (rw c.in-Some.is at is) (λ z. omega (arith, some)) (c.heard_due.ensures.0 ∙ lines, c.heard_due.ensures.1)
    c.in_ok-wrote.ensures in
    let after =
    c.with_tally-2.ensures
    ∙ rw c.is_refused.ensures (ap (with_tally (not (eqb (stop_told stop) 1)) a.s) (rw c.in-Some.is at next)) in
    room tells _ (ap (λ (x : Span). record { code = 1; consumed = r.at; wrote = c.in_ok-wrote.wrote; span = x }) after) fits
