-- What is still to be stored gives the whole.
use Rattle.std.proofs.Common.{◌≡◌, ◌-◌, length, drop}
use lib.Seq.{sets}
use Rattle.packets.specs.Samples.{samples_from}
use Rattle.samples.proofs.unpacking.unpack24.Given as goal

abbrev pub invariant-loop-i : goal.invariant-loop-i
invariant-loop-i l =
    (length l.out ≡ length l.fn.out)
    × (sets l.out l.i (samples_from 24 (drop 4 l.packet) l.i (l.n - l.i))
    ≡ sets l.fn.out 0 (samples_from 24 (drop 4 l.packet) 0 l.n))
