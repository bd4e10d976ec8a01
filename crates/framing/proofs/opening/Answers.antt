-- Byte after byte.
use Rattle.std.proofs.Common.{◌≡◌, ◌++◌, take, get_or, arith}
use lib.ListN.{length-set}
use Rattle.wire.proofs.Held.{hold_turn}
use Rattle.framing.proofs.FirstTen.{ten_held}
use Rattle.framing.proofs.opening.Goals as goal

pub loop-i-preserved : goal.loop-i-preserved
loop-i-preserved c =
    let a = c.args in
    let l = c.loop-i in (
      simp length-set l.invariant.0,
      hold_turn (λ j b. b ≡ get_or (take a.had a.held.now ++ a.host.now) j 0) l.ten l.i _ (omega (arith, l.invariant.0)) c.byte_of.ensures l.invariant.1,
    )

pub returns : goal.returns
returns c =
    let a = c.args in
    let l = c.loop-i in
    ten_held l.ten (take a.had a.held.now ++ a.host.now) l.invariant.0 (λ j ten. l.invariant.1 j (omega arith))
