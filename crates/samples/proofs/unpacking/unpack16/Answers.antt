-- One block more is stored.
use Rattle.std.proofs.Common.{◌≡◌, ◌+◌, ◌*◌, ◌∙◌, drop, arith}
use Rattle.samples.proofs.Taken.{unpack_block}
use Rattle.samples.proofs.unpacking.unpack16.Goals as goal

pub loop-i-preserved : goal.loop-i-preserved
loop-i-preserved c =
    let a = c.args in
    let l = c.loop-i in
    let here : 64 * l.i ≡ 2 * (32 * l.i) = omega arith in
    let next : 64 * (l.i + 1) ≡ 2 * (32 * l.i + 32) = omega arith in (
      c.block16.auto.out ∙ l.invariant.0,
      rw (c.block16.ensures, next)
          (unpack_block 16 (drop 4 a.packet.now) l.out _ (2 * (32 * l.i)) (2 * (32 * l.i + 32)) (64 * a.blocks)
          (omega arith) (omega arith) (rw here at l.invariant.1)),
    )
