-- Demand 1: no sequence of messages, cuts and refusals takes a fresh box out of its ranges.
-- Assumes nothing.
use Rattle.station.proofs.Calls.{feeding_keeps}
use Rattle.station.proofs.FreshBoxes.{fresh_box_valid}
use Rattle.cutting.proofs.Ways.{cutting_keeps}
use Rattle.demands.specs.Reached.{fresh, fed, cut, NeverOutOfRange}

-- "No setting of a box started fresh ever leaves its range."
pub never_out_of_range : NeverOutOfRange
never_out_of_range s (fresh serial) = fresh_box_valid serial
never_out_of_range s (fed t host room r) = feeding_keeps t host room (never_out_of_range t r)
never_out_of_range s (cut t samples room r) = cutting_keeps t samples room (never_out_of_range t r)
