-- Which two bytes make the header goes by how many are held already.
use Rattle.std.proofs.Common.{sym, ◌∙◌, arith}
use Rattle.framing.proofs.Headers.{ahead_bare, ahead_sent, ahead_half, ahead_held}
use Rattle.framing.proofs.total_ahead.Goals as goal

pub returns-then-host-saturating_sub : goal.returns-then-host-saturating_sub
returns-then-host-saturating_sub c =
    let a = c.args in
    sym (ahead_bare a.held.now a.host.now a.had (omega arith))

pub returns-in-0 : goal.returns-in-0
returns-in-0 c =
    let a = c.args in
    c.announced_by.ensures ∙ ahead_sent a.held.now a.host.now a.had _ c.in-0.is (omega arith) (omega arith) c.header.ensures

pub returns-in-1 : goal.returns-in-1
returns-in-1 c =
    let a = c.args in
    c.announced_by-in-1.ensures ∙ ahead_half a.held.now a.host.now a.had _ c.in-1.is (omega arith) (omega arith) c.header-in-1.ensures

pub returns-in_default : goal.returns-in_default
returns-in_default c =
    let a = c.args in
    c.announced_by-in_default.ensures
    ∙ ahead_held a.held.now a.host.now a.had _ (omega arith) (omega arith) c.header-in_default.ensures
