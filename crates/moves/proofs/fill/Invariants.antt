-- The measure is what lacks of 26 bytes. Each read that neither fails nor meets the end brings some.
use Rattle.std.proofs.Common.{◌≡◌, ◌<◌, ◌-◌, length}
use Rattle.moves.proofs.fill.Given as goal

abbrev pub invariant-head : goal.invariant-head
invariant-head l = (length l.buf ≡ length l.initial.buf) × (l.read < 26)

abbrev pub decreases-head : goal.decreases-head
decreases-head l = 26 - l.read
