-- At each turn the number is the field that the bytes passed make.
use Rattle.std.proofs.Common.{◌≡◌, ◌+◌, ◌-◌, ◌<◌, ◌^◌}
use Rattle.wire.specs.Number.{field}
use Rattle.wire.proofs.number.by_bytes.Given as goal

abbrev pub invariant-loop-i : goal.invariant-loop-i
invariant-loop-i l = (l.number ≡ field (l.at + l.i) (l.n - l.i) l.s) × (l.number < 256 ^ (l.n - l.i))
