-- What is left to cut gives the whole.
use Rattle.std.proofs.Common.{◌-◌}
use Rattle.runs.specs.Cutting.{started}
use Rattle.runs.proofs.Cuts.{Under}
use Rattle.runs.proofs.skvornela_cut_run.Given as goal

abbrev pub invariant-loop-count : goal.invariant-loop-count
invariant-loop-count l =
    Under (started l.fn.mode l.fn.size l.fn.setup) l.fn.n l.fn.total l.fn.samples l.fn.out l.out l.s (l.packets - l.count) l.count l.i l.at
