-- A piece that was handed over is one more that was read.
use Rattle.span.proofs.Reaching.{piece_read}
use Rattle.span.proofs.TellingTaker.take.Goals as goal

pub returns-clause-taken : goal.returns-clause-taken
returns-clause-taken c =
    piece_read _ _ _ _ c.requires c.args.piece.counted c.args.piece.are_bytes c.in_ok-self.ensures.span_value
