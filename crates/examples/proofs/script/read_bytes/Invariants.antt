-- The tests keep what was put within its slice.
use Rattle.std.proofs.Common.{◌≤◌, ◌≡◌, length}
use Rattle.examples.proofs.script.read_bytes.Given as goal

abbrev pub invariant-loop-digits : goal.invariant-loop-digits
invariant-loop-digits l =
    (goal.iterator-loop-digits).can_next l.digits-iterator
    × (goal.iterator-loop-digits).is_finite l.digits-iterator
    × (l.n ≤ length l.out)
    × (length l.out ≡ length l.initial.out)
