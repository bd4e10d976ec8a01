-- Four samples more are stored.
use Rattle.std.proofs.Common.{◌∙◌, arith}
use Rattle.samples.proofs.Written.{pack_four}
use Rattle.samples.proofs.packing.pack24.Goals as goal

pub loop-i-preserved : goal.loop-i-preserved
loop-i-preserved c =
    let l = c.loop-i in (
      c.put_four24.auto.dst ∙ l.invariant.0,
      rw c.put_four24.ensures
          (pack_four c.args.samples.now l.packet _ l.i _ _ _ _ (omega arith)
          c.code24-a.ensures.0 c.code24-b.ensures.0 c.code24-c.ensures.0 c.code24-d.ensures.0
          l.invariant.1),
    )
