use lib.Dec.{eqb}
use Rattle.wire.proofs.Laws.{or_false}
use Rattle.heads.proofs.allowed.is_head_version.Statement.{statement}
use Rattle.heads.proofs.allowed.is_head_version.Tie as tie

returns : tie.Need-returns
returns c = rw (or_false (eqb c.args.version 2))

pub is_head_version_spec : {M : Type 1} → statement M
is_head_version_spec = tie.close (tie.spec returns)
