-- Header, table and item decide in turn; what the first of them refuses keeps its code and every setting.
use Rattle.std.proofs.Common.{◌≡◌, sym, arith}
use Rattle.std.proofs.lemmas.Result.{err_from_is_err_and}
use Rattle.wire.specs.Refusal.{refusal_code}
use Rattle.wire.proofs.Stores.{rest_part}
use Rattle.wire.specs.declared.refusal.Refusal.{Refusal}
use Rattle.wire.proofs.Refusals.{done_no_refusal}
use Rattle.judging.proofs.Parts.{by_header, by_table_lem, by_set, by_asked}
use Rattle.judging.proofs.message.judge.Goals as goal

not_one : (r : Refusal) → refusal_code r ≡ 1 → ⊥
not_one r e = done_no_refusal r (sym e)

pub returns-in_err-reply_due : goal.returns-in_err-reply_due
returns-in_err-reply_due c =
    let p = err_from_is_err_and c.from_residual.result c.from_residual.ensures.1 in
    rw (p.1, p.2) (by_header _ _ _ (not_one c.in_err-reply_due.field-0.0) c.in_err-reply_due.ensures)

pub returns-then-not-branch : goal.returns-then-not-branch
returns-then-not-branch c = by_header _ _ 2 (λ e. omega arith) (rw c.if-not-branch.true at c.in_ok-reply_due.ensures)

pub returns-in_err-listed : goal.returns-in_err-listed
returns-in_err-listed c =
    let p = err_from_is_err_and c.from_residual-in_err-listed.result c.from_residual-in_err-listed.ensures.1 in
    rw (p.1, p.2)
    (by_table_lem _ _ (rw c.if-not-branch.false at c.in_ok-reply_due.ensures) _ (not_one c.in_err-listed.field-0.0)
    (rw c.item_in-item.ensures at c.in_err-listed.ensures))

pub returns-in_err-set_item : goal.returns-in_err-set_item
returns-in_err-set_item c =
    let p = err_from_is_err_and c.from_residual-in_err-set_item.result c.from_residual-in_err-set_item.ensures.1 in
    rw (p.1, p.2)
    (by_set _ _ (rw c.if-not-branch.false at c.in_ok-reply_due.ensures) (rw c.item_in-item.ensures at c.in_ok-listed.ensures)
    c.if-kind-eq-SET.true (rw (c.item_in-item.ensures, rest_part 4 c.args.opening.now) at c.in_err-set_item.ensures))

pub returns-then-kind-eq-SET : goal.returns-then-kind-eq-SET
returns-then-kind-eq-SET c =
    by_set _ _ (rw c.if-not-branch.false at c.in_ok-reply_due.ensures) (rw c.item_in-item.ensures at c.in_ok-listed.ensures)
    c.if-kind-eq-SET.true (rw (c.item_in-item.ensures, rest_part 4 c.args.opening.now) at c.in_ok-set_item.ensures)

pub returns-in_err-asked : goal.returns-in_err-asked
returns-in_err-asked c =
    let p = err_from_is_err_and c.from_residual-in_err-asked.result c.from_residual-in_err-asked.ensures.1 in
    rw (p.1, p.2)
    (by_asked _ _ (rw c.if-not-branch.false at c.in_ok-reply_due.ensures) (rw c.item_in-item.ensures at c.in_ok-listed.ensures)
    c.if-kind-eq-SET.false (rw (c.item_in-item.ensures, rest_part 4 c.args.opening.now) at c.in_err-asked.ensures))

pub returns : goal.returns
returns c =
    by_asked _ _ (rw c.if-not-branch.false at c.in_ok-reply_due.ensures) (rw c.item_in-item.ensures at c.in_ok-listed.ensures)
    c.if-kind-eq-SET.false (rw (c.item_in-item.ensures, rest_part 4 c.args.opening.now) at c.in_ok-asked.ensures)
