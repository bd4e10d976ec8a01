-- What is left to read, read on by the reader that there is, gives the whole.
use Rattle.std.proofs.Common.{◌≡◌, ◌+◌, ◌-◌, ◌*◌, ◌≤◌, length, drop}
use Rattle.runs.specs.Reading.{run_read, heard_run, read_run}
use Rattle.runs.proofs.skvornela_read_run.Given as goal

abbrev pub invariant-loop-turn : goal.invariant-loop-turn
invariant-loop-turn l = record {
  fits : l.at + (l.turns - l.turn) * l.each ≤ length l.packets;
  same : heard_run (l.turns - l.turn) l.each l.r (run_read l.sample l.lost) (drop l.at l.packets) ≡ read_run l.channels l.each l.packets;
}
