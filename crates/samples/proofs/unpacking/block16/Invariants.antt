-- The numbers held so far stand for their samples, and what is still to be stored gives the whole.
use Rattle.std.proofs.Common.{◌≡◌, ◌*◌, length, drop}
use Rattle.wire.proofs.Held.{Held}
use Rattle.samples.proofs.Taken.{StandFor, stored}
use Rattle.samples.proofs.unpacking.block16.Given as goal

abbrev pub invariant-loop-round : goal.invariant-loop-round
invariant-loop-round l =
    (length l.held ≡ 64)
    × Held (StandFor (drop 4 l.packet) (2 * l.first)) l.held (8 * l.round)
    × (length l.out ≡ length l.fn.out)
    × (stored l.packet l.first l.out (8 * l.round) ≡ stored l.packet l.first l.fn.out 0)

abbrev pub invariant-loop-i : goal.invariant-loop-i
invariant-loop-i l =
    (length l.held ≡ 64) × Held (StandFor (drop 4 l.packet) (2 * l.first)) l.held (2 * l.i)

abbrev pub invariant-loop-k : goal.invariant-loop-k
invariant-loop-k l =
    (length l.out ≡ length l.initial.out)
    × (stored l.packet l.first l.out l.k ≡ stored l.packet l.first l.initial.out (8 * l.round))
