use borrow.Author.Tests.{eq-eqb, ne_eqb}
use borrow.Author.Rules.{rules}
use Rattle.heads.proofs.reading.serial_in.Statement.{statement}
use Rattle.heads.proofs.reading.serial_in.Tie as tie

number-at-requires : tie.Need-number_at-requires
number-at-requires c κs = search rules

returns : tie.Need-returns-then-version-eq2
returns c = rw (eq-eqb _ _ c.if-version-eq2.true) c.number_at.ensures

returns-2 : tie.Need-returns
returns-2 c = rw (ne_eqb _ _ c.if-version-eq2.false)

pub serial_in_spec : {M : Type 1} → statement M
serial_in_spec = tie.close (tie.spec number-at-requires returns returns-2)
