-- Bytes that are not read do not move; those that are, move as their head does.
use Rattle.std.proofs.Common.{sym, ap, ◌∙◌, length, Ok, Err}
use Rattle.std.proofs.lemmas.Result.{err_from_is_err_and}
use lib.Seq.{sets}
use Rattle.heads.proofs.Codes.{code_said, head_said, moves_as, stays}
use Rattle.heads.proofs.moving.move_to.Goals as goal

pub returns-in_err-h-clause-code : goal.returns-in_err-h-clause-code
returns-in_err-h-clause-code c =
    let p = err_from_is_err_and c.from_residual.result c.from_residual.ensures.1 in
    let r = c.in_err-h.field-0.0 in
    let is = code_said (Err r) c.args.s.now (c.in_err-h.ensures) in
    rw (p.1, p.2) (sym (stays c.args.version c.args.s.now (length c.args.out.now) r is).0)

pub returns-in_err-h-clause-bytes : goal.returns-in_err-h-clause-bytes
returns-in_err-h-clause-bytes c =
    let r = c.in_err-h.field-0.0 in
    let is = code_said (Err r) c.args.s.now (c.in_err-h.ensures) in
    rw (stays c.args.version c.args.s.now (length c.args.out.now) r is).1

pub returns-clause-code : goal.returns-clause-code
returns-clause-code c =
    let h = c.in_ok-h.h in
    let says = c.in_ok-h.ensures in
    let read = sym (code_said (Ok h) c.args.s.now says) in
    c.put_moved.ensures.code
    ∙ sym (moves_as c.args.version c.args.s.now (length c.args.out.now) h read (head_said h c.args.s.now says)).0

pub returns-clause-bytes : goal.returns-clause-bytes
returns-clause-bytes c =
    let h = c.in_ok-h.h in
    let says = c.in_ok-h.ensures in
    let read = sym (code_said (Ok h) c.args.s.now says) in
    c.put_moved.ensures.bytes
    ∙ ap (sets c.args.out.now 0)
    (sym (moves_as c.args.version c.args.s.now (length c.args.out.now) h read (head_said h c.args.s.now says)).1)
