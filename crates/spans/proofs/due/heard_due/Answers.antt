-- By why hearing stopped.
use Rattle.std.proofs.Common.{refl}
use Rattle.wire.proofs.Refusals.{not_done}
use Rattle.spans.proofs.Eats.{due_sized, due_is}
use Rattle.spans.proofs.due.heard_due.Goals as goal

pub returns-in-CaptureEnds : goal.returns-in-CaptureEnds
returns-in-CaptureEnds c =
    due_is c.ended_due.ensures (rw c.in-CaptureEnds.is refl) (due_sized c.args.h c.args.t _ c.requires.0 c.requires.1)

pub returns-in-Refused : goal.returns-in-Refused
returns-in-Refused c =
    due_is c.ended_due-in-Refused.ensures (rw (c.in-Refused.is, c.refusal_at.ensures, not_done c.in-Refused.r) refl)
    (due_sized c.args.h c.args.t _ c.requires.0 c.requires.1)
