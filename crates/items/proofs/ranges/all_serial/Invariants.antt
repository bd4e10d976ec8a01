-- The flag, and what is not tested yet, say together what the whole says.
use Rattle.std.proofs.Common.{◌≡◌, ◌&&◌, drop}
use Rattle.items.specs.Settings.{all_serial}
use Rattle.items.proofs.ranges.all_serial.Given as goal

abbrev pub invariant-loop-byte : goal.invariant-loop-byte
invariant-loop-byte l = all_serial l.serial ≡ l.all && all_serial (drop l.byte-index l.serial)
