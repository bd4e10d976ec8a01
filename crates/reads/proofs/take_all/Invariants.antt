-- The measure is the number of bytes that can still be counted. Reading keeps the buffer's length, and what a read gave is counted as it
-- is handed on.
use Rattle.std.proofs.Common.{◌≡◌, ◌-◌, ◌≤◌, length}
use Rattle.reads.specs.Got.{most}
use Rattle.reads.proofs.take_all.Given as goal

abbrev pub invariant-pieces : goal.invariant-pieces
invariant-pieces g l = (length l.buf ≡ length l.initial.buf) × (l.read ≤ most) × g.T.Taker.so_far l.taker l.read

abbrev pub decreases-pieces : goal.decreases-pieces
decreases-pieces g l = most - l.read
