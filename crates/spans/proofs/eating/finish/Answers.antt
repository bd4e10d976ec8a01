-- A broken span, a stopped one, the last lines.
use Rattle.std.proofs.Common.{refl, sym, ap, ◌∙◌, List, length, arith}
use Rattle.std.proofs.lemmas.Result.{err_from_is_err_and}
use Rattle.lines.specs.Lines.{Line, text_of}
use Rattle.lines.specs.Due.{telling}
use Rattle.lines.proofs.Dues.{telling_sized}
use Rattle.hearing.proofs.Ranges.{range_counted}
use Rattle.spans.proofs.Eats.{finishes, valid_range, valid_head, finishing_broken, finishing_stopped, finishing_says}
use Rattle.spans.proofs.eating.finish.Goals as goal

pub returns-then-not-is_valid : goal.returns-then-not-is_valid
returns-then-not-is_valid c =
    let a = c.args in
    finishes a.out.now _ (finishing_broken a.s (length a.out.now) (sym c.is_valid.ensures ∙ c.if-not-is_valid.true)) (refl, refl)

pub returns-then-s : goal.returns-then-s
returns-then-s c =
    let a = c.args in
    let ok = sym c.is_valid.ensures ∙ c.if-not-is_valid.false in
    finishes a.out.now _ (finishing_stopped a.s (length a.out.now) ok c.if-s.true) (refl, refl)

pub last_due-requires : goal.last_due-requires
last_due-requires c =
    let s = c.args.s in
    let ok = sym c.is_valid.ensures ∙ c.if-not-is_valid.false in
    (range_counted s.tally (valid_range s ok c.if-s.false) (omega arith), λ whole. valid_head s ok c.if-s.false whole)

pub returns-in_err-wrote : goal.returns-in_err-wrote
returns-in_err-wrote c =
    let a = c.args in
    let n = length a.out.now in
    let ok = sym c.is_valid.ensures ∙ c.if-not-is_valid.false in
    let lines = ap (λ (ls : List Line). telling (text_of ls) n) (sym c.last_due.ensures.0) in
    let told = telling_sized c.last_due.result n c.last_due.ensures.1 in
    let p = err_from_is_err_and c.from_residual.result c.from_residual.ensures.1 in
    rw (p.1, p.2)
    (finishes a.out.now _ (finishing_says a.s n ok c.if-s.false ∙ lines ∙ sym told) c.in_err-wrote.ensures)

pub returns-in_ok-wrote : goal.returns-in_ok-wrote
returns-in_ok-wrote c =
    let a = c.args in
    let n = length a.out.now in
    let ok = sym c.is_valid.ensures ∙ c.if-not-is_valid.false in
    let lines = ap (λ (ls : List Line). telling (text_of ls) n) (sym c.last_due.ensures.0) in
    let told = telling_sized c.last_due.result n c.last_due.ensures.1 in
    finishes a.out.now _ (finishing_says a.s n ok c.if-s.false ∙ lines ∙ sym told) c.in_ok-wrote.ensures
