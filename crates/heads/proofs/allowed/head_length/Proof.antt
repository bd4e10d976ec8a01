use borrow.Author.Tests.{eq-eqb, ne_eqb}
use Rattle.heads.proofs.allowed.head_length.Statement.{statement}
use Rattle.heads.proofs.allowed.head_length.Tie as tie

returns : tie.Need-returns-then-version-eq2
returns c = rw (eq-eqb _ _ c.if-version-eq2.true)

returns-2 : tie.Need-returns
returns-2 c = rw (ne_eqb _ _ c.if-version-eq2.false)

pub head_length_spec : {M : Type 1} → statement M
head_length_spec = tie.close (tie.spec returns returns-2)
