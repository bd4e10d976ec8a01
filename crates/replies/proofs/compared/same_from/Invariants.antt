-- While the bytes before the place are the same, the rests tell.
use Rattle.std.proofs.Common.{◌≡◌, drop}
use Rattle.wire.specs.Lists.{same}
use Rattle.replies.proofs.compared.same_from.Given as goal

abbrev pub invariant-loop-i : goal.invariant-loop-i
invariant-loop-i l = same (drop l.i l.a) (drop l.i l.b) ≡ same (drop l.fn.from l.a) (drop l.fn.from l.b)
