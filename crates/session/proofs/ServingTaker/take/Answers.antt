-- A piece that was handed over is one more that was read.
use Rattle.std.proofs.Common.{refl}
use Rattle.session.proofs.Reaching.{piece_read}
use Rattle.session.proofs.ServingTaker.take.Goals as goal

pub returns-clause-taken : goal.returns-clause-taken
returns-clause-taken c = piece_read _ _ _ _ _ c.requires refl c.in_ok-self.ensures
