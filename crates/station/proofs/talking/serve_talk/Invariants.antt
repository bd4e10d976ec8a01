-- The box stays valid, and what is left to serve, written from the present place on, gives the whole.
use Rattle.std.proofs.Common.{length, ◌-◌}
use Rattle.station.specs.Station.{box_of}
use Rattle.station.proofs.Talks.{Going}
use Rattle.station.proofs.talking.serve_talk.Given as goal

abbrev pub invariant-loop : goal.invariant-loop
invariant-loop l =
    Going l.fn.host l.fn.replies l.replies (box_of l.parts.settings l.held l.parts.taken) l.i l.at (length l.fn.host - l.counter)
