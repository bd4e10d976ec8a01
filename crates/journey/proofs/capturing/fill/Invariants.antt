-- The measure is how many numbers are left.
use Rattle.std.proofs.Common.{◌-◌, ◌≤◌}
use Rattle.journey.proofs.capturing.fill.Given as goal

abbrev pub invariant-loop-i : goal.invariant-loop-i
invariant-loop-i l = l.i ≤ 512

abbrev pub decreases-loop-i : goal.decreases-loop-i
decreases-loop-i l = 512 - l.i
