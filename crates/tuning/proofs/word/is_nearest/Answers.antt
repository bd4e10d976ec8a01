-- The product tells the quotient.
use Rattle.std.proofs.Common.{ℕ, ◌+◌, ◌*◌, ◌/◌, ◌^◌, eqb, ap, ◌∙◌}
use Rattle.wire.proofs.Halves.{by_product, half_more}
use Rattle.tuning.proofs.word.is_nearest.Goals as goal

pub returns : goal.returns
returns c =
    let a = c.args in
    let x = a.n * 2 ^ 32 + a.clock / 2 in
    λ some.
    by_product x a.clock a.word some ∙ ap (λ (w : ℕ). eqb a.word w) (half_more (a.n * 2 ^ 32) a.clock some)
