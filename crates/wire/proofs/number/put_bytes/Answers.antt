-- At the end nothing is left to store, or no place is.
use Rattle.std.proofs.Common.{arith}
use lib.ListN.{length-set}
use Rattle.wire.proofs.Numbers.{put_turn, put_end}
use Rattle.wire.proofs.number.put_bytes.Goals as goal

pub loop-i-preserved : goal.loop-i-preserved
loop-i-preserved c =
    let a = c.args in
    let l = c.loop-i in
    (simp length-set l.invariant.0, put_turn l.dst _ a.at a.n l.i l.rest (omega arith) l.invariant.1)

pub returns : goal.returns
returns c =
    let a = c.args in
    let l = c.loop-i in
    put_end l.dst _ a.at a.n l.i l.rest (omega arith) l.invariant.1
