-- Number 0 begins a new capture, any other goes on in the open one.
use borrow.Author.Tests.{eq-eqb, ne_eqb}
use Rattle.hearing.specs.Hearing.{accepting}
use Rattle.hearing.proofs.coming.accept.Goals as goal

pub returns-then-t-eq0 : goal.returns-then-t-eq0
unfolding accepting
returns-then-t-eq0 c = rw (c.position_now.ensures, eq-eqb _ 0 c.if-t-eq0.true)

pub returns : goal.returns
unfolding accepting
returns c = rw (c.position_now.ensures, ne_eqb _ 0 c.if-t-eq0.false)
