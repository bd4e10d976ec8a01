-- One sample more of each half is joined.
use Rattle.std.proofs.Common.{sym, ◌∙◌, arith}
use borrow.Author.Rules.{sfits_of}
use mir.Facts.{to_z-of_z}
use Rattle.samples.proofs.Joined.{both_begin, both_turn, both_end}
use Rattle.samples.proofs.fitting.all_fit.Goals as goal

pub loop-i-init : goal.loop-i-init
loop-i-init c = both_begin c.args.samples.now _ (omega arith)

pub loop-i-preserved : goal.loop-i-preserved
loop-i-preserved c =
    let l = c.loop-i in
    let one = rw (to_z-of_z (sfits_of c.above-arg-1.given)) at c.above-first.ensures in
    let other = rw (to_z-of_z (sfits_of c.above-arg-in-loop-i-1.given)) at c.above-second.ensures in
    both_turn c.args.samples.now _ l.first l.second l.i c.above-first.result c.above-second.result c.loop-i-test.true one other
    ∙ l.invariant

pub returns : goal.returns
returns c =
    let l = c.loop-i in
    sym (both_end c.args.samples.now _ l.first l.second l.i c.loop-i-test.false) ∙ l.invariant
