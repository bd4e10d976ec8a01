-- Four bytes fit 32 bits.
use Rattle.std.proofs.Common.{arith}
use Rattle.wire.proofs.Numbers.{field_below}
use Rattle.judging.proofs.sets.set_rate.Goals as goal

pub overflow_cast-asked : goal.overflow_cast-asked
overflow_cast-asked c = omega (arith, c.number_at-asked.ensures, field_below 1 4 c.args.p.now (λ k. (c.type_inv.p k).fits))
