-- Each return has the code of the tests that led there, and writes what that code says.
use Rattle.std.proofs.Common.{refl, sym, length, arith}
use mathlib.Core.Path.{◌∙◌}
use borrow.Author.Tests.{lt-ltb, le-ltb}
use Rattle.heads.specs.Head.{head_length}
use Rattle.heads.proofs.Codes.{write_by}
use Rattle.heads.proofs.Values.{is_version_lem}
use Rattle.heads.proofs.writing.write_head.Goals as goal

pub returns-then-not-is_allowed-clause-code : goal.returns-then-not-is_allowed-clause-code
returns-then-not-is_allowed-clause-code c =
    sym (write_by c.args.h (length c.args.out.now) (sym c.is_allowed.ensures ∙ c.if-not-is_allowed.true) refl)

pub returns-then-not-is_allowed-clause-bytes : goal.returns-then-not-is_allowed-clause-bytes
returns-then-not-is_allowed-clause-bytes c =
    rw (write_by c.args.h (length c.args.out.now) (sym c.is_allowed.ensures ∙ c.if-not-is_allowed.true) refl)

pub returns-then-out-head_length-clause-code : goal.returns-then-out-head_length-clause-code
returns-then-out-head_length-clause-code c =
    let h = c.args.h in
    let room = length c.args.out.now in
    let short = lt-ltb room (head_length h.version) (omega (arith, c.if-out-head_length.true, c.head_length.ensures)) in
    sym (write_by h room (sym c.is_allowed.ensures ∙ c.if-not-is_allowed.false) short)

pub returns-then-out-head_length-clause-bytes : goal.returns-then-out-head_length-clause-bytes
returns-then-out-head_length-clause-bytes c =
    let h = c.args.h in
    let room = length c.args.out.now in
    let short = lt-ltb room (head_length h.version) (omega (arith, c.if-out-head_length.true, c.head_length.ensures)) in
    rw (write_by h room (sym c.is_allowed.ensures ∙ c.if-not-is_allowed.false) short)

pub put_head-requires : goal.put_head-requires
put_head-requires c =
    let version = is_version_lem _ (sym c.is_allowed.ensures ∙ c.if-not-is_allowed.false) in
    (version, omega (arith, c.if-out-head_length.false, c.head_length.ensures))

pub returns-clause-code : goal.returns-clause-code
returns-clause-code c =
    let h = c.args.h in
    let room = length c.args.out.now in
    let long = le-ltb room (head_length h.version) (omega (arith, c.if-out-head_length.false, c.head_length.ensures)) in
    sym (write_by h room (sym c.is_allowed.ensures ∙ c.if-not-is_allowed.false) long)

pub returns-clause-bytes : goal.returns-clause-bytes
returns-clause-bytes c =
    let h = c.args.h in
    let room = length c.args.out.now in
    let long = le-ltb room (head_length h.version) (omega (arith, c.if-out-head_length.false, c.head_length.ensures)) in
    rw (write_by h room (sym c.is_allowed.ensures ∙ c.if-not-is_allowed.false) long) c.put_head.ensures
