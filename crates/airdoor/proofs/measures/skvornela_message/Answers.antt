-- Two bytes are below 2^16.
use Rattle.std.proofs.Common.{arith}
use Rattle.wire.proofs.Numbers.{field_below}
use Rattle.airdoor.proofs.measures.skvornela_message.Goals as goal

pub overflow_cast-header : goal.overflow_cast-header
overflow_cast-header c = omega (arith, c.number_at-header.ensures, field_below 0 2 c.args.bytes.now (λ k. omega (arith, c.type_inv.bytes k)))
