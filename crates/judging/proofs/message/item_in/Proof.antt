-- Two bytes fit 16 bits.
use borrow.Author.Rules.{rules}
use native.Mathlib.Omega.{arith}
use Rattle.wire.proofs.Numbers.{field_below}
use Rattle.judging.proofs.message.item_in.Statement.{statement}
use Rattle.judging.proofs.message.item_in.Tie as tie

number-at-requires : tie.Need-number_at-requires
number-at-requires c κs = search rules

cast-result : tie.Need-overflow_cast-result
cast-result c =
    let known = c in
    omega (
      arith,
      c.number_at.ensures,
      field_below 2 2 known.args.message.now (λ k. (known.shared_slice_known-1.given k).fits),
    )

returns : tie.Need-returns
returns c = c.number_at.ensures

pub item_in_spec : {M : Type 1} → statement M
item_in_spec = tie.close (tie.spec number-at-requires cast-result returns)
