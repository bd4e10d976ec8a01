-- What is still to be stored gives the whole.
use Rattle.std.proofs.Common.{◌≡◌, ◌-◌, ◌*◌, length, drop}
use lib.Seq.{sets}
use Rattle.packets.specs.Samples.{samples_from}
use Rattle.samples.proofs.unpacking.unpack16.Given as goal

abbrev pub invariant-loop-i : goal.invariant-loop-i
invariant-loop-i l =
    (length l.out ≡ length l.fn.out)
    × (sets l.out (64 * l.i) (samples_from 16 (drop 4 l.packet) (64 * l.i) (64 * l.blocks - 64 * l.i))
    ≡ sets l.fn.out 0 (samples_from 16 (drop 4 l.packet) 0 (64 * l.blocks)))
