-- While a byte is left, the number has at most seven.
use Rattle.std.proofs.Common.{◌+◌, ◌-◌, arith}
use Rattle.wire.proofs.Numbers.{field_down, power_down, power_seven}
use Rattle.wire.proofs.number.by_bytes.Goals as goal

pub overflow_mul-number : goal.overflow_mul-number
overflow_mul-number c =
    omega (arith, power_seven (c.args.n - c.loop-i.i) c.loop-i.number (omega arith) c.loop-i.invariant.1)

pub overflow_add-number : goal.overflow_add-number
overflow_add-number c =
    omega (
      arith,
      power_seven (c.args.n - c.loop-i.i) c.loop-i.number (omega arith) c.loop-i.invariant.1,
      c.type_inv.s (c.args.at + (c.loop-i.i - 1)),
    )

pub loop-i-preserved : goal.loop-i-preserved
loop-i-preserved c =
    let a = c.args in
    let l = c.loop-i in (
      rw c.from.ensures (field_down a.s.now a.at l.i a.n l.number (omega arith) (omega arith) (omega arith) l.invariant.0),
      power_down l.i a.n l.number _ (omega arith) (omega arith) (omega (arith, c.type_inv.s (a.at + (l.i - 1)))) l.invariant.1,
    )
