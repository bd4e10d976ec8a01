use Rattle.std.proofs.Common.{arith}
use Rattle.lines.proofs.Texts.{nothing_stored, numbers_turn, numbers_end}
use Rattle.lines.proofs.text.put_numbers.Goals as goal

pub loop-n-init : goal.loop-n-init
loop-n-init c = nothing_stored _ _

pub put_number-to-requires : goal.put_number-to-requires
put_number-to-requires c = omega (arith, c.loop-n.invariant.short)

pub loop-n-preserved : goal.loop-n-preserved
loop-n-preserved c = numbers_turn _ _ _ _ _ c.loop-n.n-index _ _ (omega arith) c.loop-n.invariant c.put_number-to.ensures

pub returns : goal.returns
returns c = numbers_end _ _ _ _ c.loop-n.n-index _ (omega arith) (omega arith) c.loop-n.invariant
