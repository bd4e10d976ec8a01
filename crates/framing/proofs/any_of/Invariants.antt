-- What was joined so far and what is still to come are zero together with the whole.
use Rattle.std.proofs.Common.{◌≡◌, ◌&&◌, eqb, drop}
use Rattle.framing.specs.Framing.{zeros}
use Rattle.framing.proofs.any_of.Given as goal

abbrev pub invariant-loop-b : goal.invariant-loop-b
invariant-loop-b l = (eqb l.any 0 && zeros (drop l.b-index l.bytes)) ≡ zeros l.bytes
