-- What holds from packet to packet.
use Rattle.std.proofs.Common.{◌-◌, length}
use Rattle.hearing.proofs.WholePackets.{Onward}
use Rattle.hearing.proofs.pieces.whole_packets.Given as goal

abbrev pub invariant-loop-next : goal.invariant-loop-next
invariant-loop-next l = Onward l.t l.piece l.from l.header l.at l.heard l.position l.«before»

abbrev pub decreases-loop-next : goal.decreases-loop-next
decreases-loop-next l = length l.piece - l.at
