-- The halves of a word are held, and stored as samples.
use Rattle.std.proofs.Common.{◌≡◌, ◌+◌, ◌*◌, ◌∙◌, drop, arith}
use native.Mathlib.Nat.{add-zero}
use borrow.Author.Rules.{sfits_of}
use lib.ListN.{length-set}
use mir.Facts.{to_z-of_z}
use mir.Syntax.{w32}
use Rattle.samples.proofs.Taken.{hold_pair, unpack_turn, unpack_end}
use Rattle.samples.proofs.unpacking.block16.Goals as goal

pub loop-i-preserved : goal.loop-i-preserved
loop-i-preserved c =
    let a = c.args in
    let l = c.loop-i in (
      simp length-set l.invariant.0,
      hold_pair a.packet.now l.held a.first l.i c.word_at-pair.result
          (λ k. (c.type_inv.packet k).fits) (omega arith) (omega arith) c.word_at-pair.ensures l.invariant.1,
    )

pub loop-k-preserved : goal.loop-k-preserved
loop-k-preserved c =
    let a = c.args in
    let l = c.loop-k in
    let next : 2 * a.first + (l.k + 1) ≡ 2 * a.first + l.k + 1 = omega arith in (
      simp length-set l.invariant.0,
      rw next
          (unpack_turn 16 (drop 4 a.packet.now) l.out _ (2 * a.first + l.k) (2 * (a.first + 32)) _ (omega arith)
          (to_z-of_z {w = w32} (sfits_of c.sign16.type_inv) ∙ c.sign16.ensures ∙ c.loop-i.invariant.1 l.k (omega arith))
          l.invariant.1),
    )

pub returns : goal.returns
returns c =
    let a = c.args in
    let l = c.loop-round in
    unpack_end 16 (drop 4 a.packet.now) l.out _ (2 * a.first + 8 * l.round) (2 * (a.first + 32)) (omega arith)
    (rw (add-zero (2 * a.first)) at l.invariant.3)
