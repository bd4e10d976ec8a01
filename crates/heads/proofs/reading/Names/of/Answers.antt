-- Four bytes fit 32 bits.
use Rattle.std.proofs.Common.{ℕ, ◌<◌, get_or, arith}
use mathlib.Core.Path.{◌∙◌}
use Rattle.wire.proofs.Numbers.{field_front, field_below}
use Rattle.heads.proofs.reading.Names.of.Goals as goal

pub overflow_cast-result : goal.overflow_cast-result
overflow_cast-result c =
    let s = c.args.s.now in
    let small : (n : ℕ) → get_or s n 0 < 256 = λ n. omega (arith, c.type_inv.s n) in
    omega (arith, c.number_at-2.ensures ∙ field_front 22 4 26 s (omega arith), field_below 22 4 s small)

pub returns-clause-clock : goal.returns-clause-clock
returns-clause-clock c = c.number_at-2.ensures ∙ field_front 22 4 26 c.args.s.now (omega arith)
