-- Nothing has been read.
use Rattle.std.proofs.Common.{arith}
use Rattle.span.proofs.Reaching.{none_read}
use Rattle.span.proofs.main.Goals as goal

pub take_all-requires : goal.take_all-requires
take_all-requires c = (rw c.fresh.ensures none_read, omega arith)
