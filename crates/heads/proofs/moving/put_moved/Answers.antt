-- Each return has the code of the tests that led there, and writes what that code says.
use Rattle.std.proofs.Common.{refl, sym, ap, length, arith}
use mathlib.Core.Path.{◌∙◌}
use borrow.Author.Tests.{lt-ltb, le-ltb}
use lib.Seq.{sets}
use Rattle.heads.specs.declared.Head.{Head}
use Rattle.heads.specs.Head.{head_length, head_bytes}
use Rattle.heads.proofs.Codes.{put_by}
use Rattle.heads.proofs.moving.put_moved.Goals as goal

pub returns-then-would_lose-clause-code : goal.returns-then-would_lose-clause-code
returns-then-would_lose-clause-code c =
    sym (put_by c.args.version c.args.h (length c.args.out.now) (sym c.would_lose.ensures ∙ c.if-would_lose.true) refl)

pub returns-then-would_lose-clause-bytes : goal.returns-then-would_lose-clause-bytes
returns-then-would_lose-clause-bytes c =
    rw (put_by c.args.version c.args.h (length c.args.out.now) (sym c.would_lose.ensures ∙ c.if-would_lose.true) refl)

pub returns-then-out-head_length-clause-code : goal.returns-then-out-head_length-clause-code
returns-then-out-head_length-clause-code c =
    let v = c.args.version in
    let room = length c.args.out.now in
    let short = lt-ltb room (head_length v) (omega (arith, c.if-out-head_length.true, c.head_length.ensures)) in
    sym (put_by v c.args.h room (sym c.would_lose.ensures ∙ c.if-would_lose.false) short)

pub returns-then-out-head_length-clause-bytes : goal.returns-then-out-head_length-clause-bytes
returns-then-out-head_length-clause-bytes c =
    let v = c.args.version in
    let room = length c.args.out.now in
    let short = lt-ltb room (head_length v) (omega (arith, c.if-out-head_length.true, c.head_length.ensures)) in
    rw (put_by v c.args.h room (sym c.would_lose.ensures ∙ c.if-would_lose.false) short)

pub returns-clause-code : goal.returns-clause-code
returns-clause-code c =
    let v = c.args.version in
    let room = length c.args.out.now in
    let long = le-ltb room (head_length v) (omega (arith, c.if-out-head_length.false, c.head_length.ensures)) in
    sym (put_by v c.args.h room (sym c.would_lose.ensures ∙ c.if-would_lose.false) long)

pub returns-clause-bytes : goal.returns-clause-bytes
returns-clause-bytes c =
    let v = c.args.version in
    let room = length c.args.out.now in
    let long = le-ltb room (head_length v) (omega (arith, c.if-out-head_length.false, c.head_length.ensures)) in
    rw (put_by v c.args.h room (sym c.would_lose.ensures ∙ c.if-would_lose.false) long)
    (c.put_head.ensures ∙ ap (λ (h : Head). sets c.args.out.now 0 (head_bytes h)) c.moved_to.ensures)
