-- `put` ends, since each turn leaves less to write.
use Rattle.std.proofs.Common.{length}
use Rattle.streams.proofs.put.Given as goal

abbrev pub decreases-loop-rest : goal.decreases-loop-rest
decreases-loop-rest g l = length l.rest
