-- The tests are the definition's.
use mathlib.Core.Path.{refl}
use borrow.Author.Rules.{rules}
use Rattle.channels.proofs.covers.Statement.{statement}
use Rattle.channels.proofs.covers.Tie as tie

is-open-requires : tie.Need-is_open-requires
is-open-requires c κs = search rules

returns : tie.Need-returns
returns c = rw c.is_open.ensures refl

pub covers_spec : {M : Type 1} → statement M
covers_spec = tie.close (tie.spec is-open-requires returns)
