-- Two bytes fit 32 bits.
use native.Mathlib.Omega.{arith}
use Rattle.wire.proofs.Numbers.{field_below}
use borrow.Author.Rules.{rules}
use Rattle.heads.proofs.reading.version_in.Statement.{statement}
use Rattle.heads.proofs.reading.version_in.Tie as tie

number-at-requires : tie.Need-number_at-requires
number-at-requires c κs = search rules

cast-result : tie.Need-overflow_cast-result
cast-result c =
    let s = c.args.s.now in
    omega (arith, c.number_at.ensures, field_below 3 2 s (λ k. omega (arith, c.shared_slice_known-1.given k)))

returns : tie.Need-returns
returns c = search rules

pub version_in_spec : {M : Type 1} → statement M
version_in_spec = tie.close (tie.spec number-at-requires cast-result returns)
