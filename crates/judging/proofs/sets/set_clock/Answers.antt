-- Four bytes fit 32 bits.
use Rattle.std.proofs.Common.{arith}
use Rattle.wire.proofs.Numbers.{field_below}
use Rattle.judging.proofs.sets.set_clock.Goals as goal

pub overflow_cast-clock : goal.overflow_cast-clock
overflow_cast-clock c = omega (arith, c.number_at-clock.ensures, field_below 1 4 c.args.p.now (λ k. (c.type_inv.p k).fits))
