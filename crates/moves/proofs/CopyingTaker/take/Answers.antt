-- A piece that was written is one more that was read.
use Rattle.moves.proofs.Counts.{piece_written}
use Rattle.moves.proofs.CopyingTaker.take.Goals as goal

pub returns-clause-taken : goal.returns-clause-taken
returns-clause-taken g c = piece_written _ _ _ _ _ c.requires c.in_ok-write_piece.ensures
