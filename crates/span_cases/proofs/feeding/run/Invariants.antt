-- Each call leaves less of the input.
use Rattle.std.proofs.Common.{length}
use Rattle.span_cases.proofs.Steps.{Left}
use Rattle.span_cases.proofs.feeding.run.Given as goal

abbrev pub invariant-loop-rest : goal.invariant-loop-rest
invariant-loop-rest l = Left l.span l.rest

abbrev pub decreases-loop-rest : goal.decreases-loop-rest
decreases-loop-rest l = length l.rest
