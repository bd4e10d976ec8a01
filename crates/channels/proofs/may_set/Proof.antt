-- The tests are the definition's.
use mathlib.Core.Path.{refl}
use borrow.Author.Rules.{rules}
use Rattle.channels.proofs.may_set.Statement.{statement}
use Rattle.channels.proofs.may_set.Tie as tie

is-open-requires : tie.Need-is_open-requires
is-open-requires c κs = search rules

returns : tie.Need-returns
returns c = rw c.is_open.ensures refl

pub may_set_spec : {M : Type 1} → statement M
may_set_spec = tie.close (tie.spec is-open-requires returns)
