-- The opening line, and the refusal behind it where there is one.
use Rattle.std.proofs.Common.{refl, Option, arith}
use Rattle.wire.proofs.Refusals.{not_done}
use Rattle.lines.specs.declared.Ending.{Ending}
use Rattle.lines.proofs.Dues.{Sized, is_sized}
use Rattle.spans.specs.Inside.{due_first}
use Rattle.spans.proofs.due.head_due.Goals as goal

-- no capture has ended: all its numbers are 0 but the clock
none : (ending : Option Ending) → Sized (due_first ending)
none ending = record { position = omega arith; pairs = omega arith; divisor = omega arith; clock = refl; heard = omega arith }

pub returns-in-Ok : goal.returns-in-Ok
returns-in-Ok c = rw (c.opening_due.ensures, c.in-Ok.is) (refl, is_sized _ (none _))

pub returns-in-Err : goal.returns-in-Err
returns-in-Err c =
    rw (c.opening_due-in-Err.ensures, c.in-Err.is, c.refusal_at.ensures, not_done c.in-Err.r) (refl, is_sized _ (none _))
