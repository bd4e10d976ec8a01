-- What is still to be stored gives the whole.
use Rattle.std.proofs.Common.{◌≡◌, ◌+◌, ◌*◌, length, drop}
use lib.Seq.{sets}
use Rattle.packets.specs.Samples.{samples_bytes}
use Rattle.samples.proofs.packing.pack24.Given as goal

abbrev pub invariant-loop-i : goal.invariant-loop-i
invariant-loop-i l =
    (length l.packet ≡ length l.fn.packet)
    × (sets l.packet (4 + 3 * (4 * l.i)) (samples_bytes 24 (drop (4 * l.i) l.samples))
    ≡ sets l.fn.packet 4 (samples_bytes 24 l.samples))
