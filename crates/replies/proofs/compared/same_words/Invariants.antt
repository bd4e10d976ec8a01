-- While the words before the place are the same, the rests tell.
use Rattle.std.proofs.Common.{◌≡◌, ◌*◌, drop}
use Rattle.wire.specs.Lists.{same}
use Rattle.replies.proofs.compared.same_words.Given as goal

abbrev pub invariant-loop-i : goal.invariant-loop-i
invariant-loop-i l = same (drop (8 * l.i) l.a) (drop (8 * l.i) l.b) ≡ same l.a l.b
