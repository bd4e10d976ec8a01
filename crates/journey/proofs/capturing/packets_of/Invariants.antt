-- The measure is how many packets are left.
use Rattle.std.proofs.Common.{◌-◌, ◌≤◌}
use Rattle.journey.proofs.capturing.packets_of.Given as goal

abbrev pub invariant-loop-p : goal.invariant-loop-p
invariant-loop-p l = l.p ≤ l.count

abbrev pub decreases-loop-p : goal.decreases-loop-p
decreases-loop-p l = l.count - l.p
