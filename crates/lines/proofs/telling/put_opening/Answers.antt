-- The line where it is due, and else nothing.
use Rattle.std.proofs.Common.{arith}
use Rattle.lines.specs.Lines.{opening_line}
use Rattle.lines.proofs.Texts.{stored_within, nothing_stored}
use Rattle.lines.proofs.Dues.{one_line}
use Rattle.lines.proofs.telling.put_opening.Goals as goal

pub returns-then-on : goal.returns-then-on
returns-then-on c = rw c.if-on.true (one_line opening_line c.put_line.ensures)

pub returns : goal.returns
returns c = rw c.if-on.false (stored_within 26 (omega arith) (nothing_stored _ _))
