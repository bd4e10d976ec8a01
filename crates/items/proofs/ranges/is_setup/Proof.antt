-- The two tests are the definition's list.
use mathlib.Core.Path.{ap, sym}
use mathlib.Core.Bool.{Bool, ◌||◌, or-false}
use lib.Dec.{eqb}
use Rattle.items.proofs.ranges.is_setup.Statement.{statement}
use Rattle.items.proofs.ranges.is_setup.Tie as tie

returns : tie.Need-returns
returns c = ap (λ (b : Bool). eqb c.args.byte 0 || b) (sym (or-false (eqb c.args.byte 4)))

pub is_setup_spec : {M : Type 1} → statement M
is_setup_spec = tie.close (tie.spec returns)
