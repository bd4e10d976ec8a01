-- Four bytes fit 32 bits.
use native.Mathlib.Omega.{arith}
use borrow.Author.Tests.{eq-eqb, ne_eqb}
use Rattle.wire.proofs.Numbers.{field_below}
use borrow.Author.Rules.{rules}
use Rattle.heads.proofs.reading.clock_in.Statement.{statement}
use Rattle.heads.proofs.reading.clock_in.Tie as tie

number-at-requires : tie.Need-number_at-requires
number-at-requires c κs = search rules

cast-result : tie.Need-overflow_cast-result
cast-result c =
    let s = c.args.s.now in
    omega (arith, c.number_at.ensures, field_below 22 4 s (λ k. omega (arith, c.shared_slice_known-1.given k)))

returns : tie.Need-returns-then-version-eq2
returns c = rw (eq-eqb _ _ c.if-version-eq2.true) c.number_at.ensures

returns-2 : tie.Need-returns
returns-2 c = rw (ne_eqb _ _ c.if-version-eq2.false)

pub clock_in_spec : {M : Type 1} → statement M
clock_in_spec = tie.close (tie.spec number-at-requires cast-result returns returns-2)
