-- The head waits, or its lines are told or do not fit.
use Rattle.std.proofs.Common.{◌-◌, refl, sym, ap, ◌∙◌, length, arith}
use Rattle.std.proofs.lemmas.Result.{err_from_is_err_and}
use Rattle.wire.specs.Refusal.{code_of}
use Rattle.spans.specs.declared.Span.{Span}
use Rattle.spans.proofs.Eats.{answers, opening_by_lem, opening_waits, head_tells, refuses, room}
use Rattle.spans.proofs.eating.open.Goals as goal

pub overflow_sub-consumed : goal.overflow_sub-consumed
overflow_sub-consumed c = omega (arith, ap (λ (x : Span). x.came) c.take_head-after.ensures)

pub returns-then-lacks : goal.returns-then-lacks
returns-then-lacks c =
    let a = c.args in
    let n = length a.out.now in
    let opens = opening_by_lem a.s a.piece.now n c.take_head-after.result c.take_head-after.ensures in
    answers a.out.now _ (opens ∙ opening_waits _ _ _ _ (sym c.lacks.ensures ∙ c.if-lacks.true)) refl refl

pub returns-in_err-wrote : goal.returns-in_err-wrote
returns-in_err-wrote c =
    let a = c.args in
    let whole = sym c.lacks.ensures ∙ c.if-lacks.false in
    let tells =
    head_tells a.s c.take_head-after.result a.piece.now a.out.now c.tell.new.out (code_of c.read-read.result) c.head_due.result _
    c.take_head-after.ensures whole c.read-read.ensures c.head_due.ensures c.in_err-wrote.ensures in
    let p = err_from_is_err_and c.from_residual.result c.from_residual.ensures.1 in
    rw (p.1, p.2) (refuses c.in_err-wrote.field-0.0 tells)

pub returns : goal.returns
returns c =
    let a = c.args in
    let whole = sym c.lacks.ensures ∙ c.if-lacks.false in
    let consumed = c.take_head-after.result.came - a.s.came in
    let tells =
    head_tells a.s c.take_head-after.result a.piece.now a.out.now c.tell.new.out (code_of c.read-read.result) c.head_due.result _
    c.take_head-after.ensures whole c.read-read.ensures c.head_due.ensures c.in_ok-wrote.ensures in
    room tells _ (ap (λ (x : Span). record { code = 1; consumed = consumed; wrote = c.in_ok-wrote.wrote; span = x }) c.after_head.ensures)
    (λ e. omega arith)
