-- At the end nothing is left to store, or no place is.
use Rattle.std.proofs.Common.{refl, arith}
use lib.ListN.{length-set}
use Rattle.wire.proofs.Stores.{copy_turn, copy_end}
use Rattle.wire.proofs.bytes.copy.Goals as goal

pub loop-i-preserved : goal.loop-i-preserved
loop-i-preserved c =
    let l = c.loop-i in
    (simp length-set l.invariant.0, copy_turn _ _ _ _ l.i _ (omega arith) refl l.invariant.1)

pub returns : goal.returns
returns c =
    let l = c.loop-i in
    copy_end _ _ _ _ l.i (omega arith) l.invariant.1
