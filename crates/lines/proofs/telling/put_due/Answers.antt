-- The parts, one behind the other.
use Rattle.std.proofs.Common.{arith}
use Rattle.lines.proofs.Texts.{stored_within, nothing_stored}
use Rattle.lines.proofs.Dues.{due_stored}
use Rattle.lines.proofs.telling.put_due.Goals as goal

pub returns-in-Some : goal.returns-in-Some
returns-in-Some c =
    due_stored c.args.d _ _ _ _ _ _ _ c.put_opening-first.ensures c.put_capture-second.ensures (rw c.in-Some.is c.put_ending.ensures)

pub returns-in-None : goal.returns-in-None
returns-in-None c =
    due_stored c.args.d _ _ _ _ _ _ _ c.put_opening-first.ensures c.put_capture-second.ensures
    (rw c.in-None.is (stored_within 44 (omega arith) (nothing_stored _ _)))
