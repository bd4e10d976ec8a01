-- One sample more is stored.
use Rattle.std.proofs.Common.{◌∙◌, drop, arith}
use borrow.Author.Rules.{sfits_of}
use lib.ListN.{length-set}
use mir.Facts.{to_z-of_z}
use mir.Syntax.{w32}
use Rattle.samples.proofs.Taken.{sample_24, unpack_turn}
use Rattle.samples.proofs.unpacking.unpack24.Goals as goal

pub loop-i-preserved : goal.loop-i-preserved
loop-i-preserved c =
    let a = c.args in
    let l = c.loop-i in
    let sample = sample_24 a.packet.now l.i c.word_at.result (λ k. (c.type_inv.packet k).fits) (omega arith) c.word_at.ensures in (
      simp length-set l.invariant.0,
      unpack_turn 24 (drop 4 a.packet.now) l.out _ l.i a.n _ c.loop-i-test.true
          (to_z-of_z {w = w32} (sfits_of c.sign24.type_inv) ∙ c.sign24.ensures ∙ sample)
          l.invariant.1,
    )
