-- The two tests are the definition's list.
use mathlib.Core.Path.{ap, sym}
use mathlib.Core.Bool.{Bool, ◌||◌, or-false}
use lib.Dec.{eqb}
use borrow.Author.Rules.{rules}
use Rattle.items.proofs.ranges.is_size.Statement.{statement}
use Rattle.items.proofs.ranges.is_size.Tie as tie

cast-result : tie.Need-overflow_cast-result
cast-result c = search rules

cast-result-2 : tie.Need-overflow_cast-result-2
cast-result-2 c = search rules

returns : tie.Need-returns
returns c = ap (λ (b : Bool). eqb c.args.byte 0 || b) (sym (or-false (eqb c.args.byte 1)))

pub is_size_spec : {M : Type 1} → statement M
is_size_spec = tie.close (tie.spec cast-result cast-result-2 returns)
