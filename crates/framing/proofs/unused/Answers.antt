-- Four windows reach from the place to the end.
use Rattle.std.proofs.Common.{refl, arith}
use Rattle.framing.proofs.Zeros.{four_windows}
use Rattle.framing.proofs.unused.Goals as goal

pub returns-then-from-eq0 : goal.returns-then-from-eq0
returns-then-from-eq0 c =
    rw c.if-from-eq0.true
    (four_windows c.args.held.now (omega arith) 0 16 32 c.window.result c.window-then-from-eq0.result
    c.window-then-from-eq0-2.result c.window-then-from-eq0-3.result (omega arith) refl refl
    c.window.ensures c.window-then-from-eq0.ensures c.window-then-from-eq0-2.ensures c.window-then-from-eq0-3.ensures)

pub returns : goal.returns
returns c =
    four_windows c.args.held.now (omega arith) c.args.from c.min-second.result c.min-third.result
    c.window-2.result c.window-3.result c.window-4.result c.window-5.result (omega arith)
    c.min-second.ensures c.min-third.ensures
    c.window-2.ensures c.window-3.ensures c.window-4.ensures c.window-5.ensures
