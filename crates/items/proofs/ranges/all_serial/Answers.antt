use Rattle.std.proofs.Common.{arith}
use Rattle.items.proofs.Serials.{serial_turn, serial_end}
use Rattle.items.proofs.ranges.all_serial.Goals as goal

pub loop-byte-preserved : goal.loop-byte-preserved
loop-byte-preserved c =
    serial_turn c.args.serial.now c.loop-byte.byte-index c.loop-byte.all _ (omega arith) c.is_serial_byte-all.ensures c.loop-byte.invariant

pub returns : goal.returns
returns c = serial_end c.args.serial.now c.loop-byte.byte-index c.loop-byte.all (omega arith) c.loop-byte.invariant
