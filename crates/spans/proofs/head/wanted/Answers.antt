-- By whether the version is there.
use borrow.Author.Tests.{lt-ltb, le-ltb}
use Rattle.spans.specs.Eating.{head_wants}
use Rattle.spans.proofs.head.wanted.Goals as goal

pub returns-then-came-lt-SHORTEST : goal.returns-then-came-lt-SHORTEST
unfolding head_wants
returns-then-came-lt-SHORTEST c = rw (lt-ltb _ _ c.if-came-lt-SHORTEST.true)

pub returns : goal.returns
unfolding head_wants
returns c = rw (le-ltb _ _ c.if-came-lt-SHORTEST.false) c.head_length_in.ensures
