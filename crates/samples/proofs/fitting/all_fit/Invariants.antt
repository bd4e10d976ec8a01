-- What was joined of each half is below 2 ^ 24 and the rest of both are samples, exactly if all are samples.
use Rattle.std.proofs.Common.{◌≡◌}
use Rattle.packets.specs.Samples.{all_samples}
use Rattle.samples.proofs.Joined.{both_fit}
use Rattle.samples.proofs.fitting.all_fit.Given as goal

abbrev pub invariant-loop-i : goal.invariant-loop-i
invariant-loop-i l = both_fit l.samples l.half l.first l.second l.i ≡ all_samples l.samples
