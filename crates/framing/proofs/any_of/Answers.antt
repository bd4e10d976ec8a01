-- One byte more is joined.
use Rattle.std.proofs.Common.{arith}
use Rattle.framing.proofs.Zeros.{zeros_next}
use Rattle.framing.proofs.any_of.Goals as goal

pub loop-b-preserved : goal.loop-b-preserved
loop-b-preserved c =
    let l = c.loop-b in
    zeros_next c.args.bytes.now l.b-index l.any _ (omega arith) l.invariant
