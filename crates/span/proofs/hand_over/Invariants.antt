-- Each turn is one call, which leaves fewer bytes; what is left leads where the whole piece leads.
use Rattle.std.proofs.Common.{◌≡◌, length}
use Rattle.span.proofs.Pieces.{Onward}
use Rattle.span.proofs.hand_over.Given as goal

abbrev pub invariant-loop-rest : goal.invariant-loop-rest
invariant-loop-rest l = Onward l.fn.s l.piece.bytes.now l.span l.rest × (length l.out ≡ 256)

abbrev pub decreases-loop-rest : goal.decreases-loop-rest
decreases-loop-rest l = length l.rest
