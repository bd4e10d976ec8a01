-- What is counted is the end time.
use Rattle.std.proofs.Common.{arith}
use Rattle.wire.proofs.Laws.{within_low}
use Rattle.lines.proofs.Times.{counted}
use Rattle.lines.proofs.telling.end_time.Goals as goal

pub returns : goal.returns
returns c =
    let low = within_low 79_992_000 80_008_000 c.args.clock c.requires.2 in
    counted c.args.divisor c.args.clock c.args.samples (omega (arith, low))
