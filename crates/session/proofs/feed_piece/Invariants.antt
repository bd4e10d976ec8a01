-- Each turn is one call, which leaves fewer bytes; what is left leads where the whole piece leads.
use Rattle.std.proofs.Common.{length}
use Rattle.station.specs.Station.{box_of}
use Rattle.session.proofs.Pieces.{Going}
use Rattle.session.proofs.feed_piece.Given as goal

abbrev pub invariant-loop-rest : goal.invariant-loop-rest
invariant-loop-rest l = Going l.fn.s l.piece.bytes.now (box_of l.parts.settings l.held l.parts.taken) l.rest

abbrev pub decreases-loop-rest : goal.decreases-loop-rest
decreases-loop-rest l = length l.rest
