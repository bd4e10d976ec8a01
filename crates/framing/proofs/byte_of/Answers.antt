-- A byte held, a byte sent, or past the last.
use Rattle.std.proofs.Common.{sym, arith}
use Rattle.framing.proofs.FirstTen.{joined_held, joined_sent, past_sent}
use Rattle.framing.proofs.byte_of.Goals as goal

pub returns-then-i-had : goal.returns-then-i-had
returns-then-i-had c =
    let a = c.args in
    sym (joined_held a.held.now a.host.now a.had a.i c.if-i-had.true (omega arith))

pub returns-then-host-i : goal.returns-then-host-i
returns-then-host-i c =
    let a = c.args in
    let sent = c.if-i-had.false in
    sym (past_sent a.held.now a.host.now a.had a.i (omega (arith, sent)) (omega arith) c.if-host-i.true)

pub returns : goal.returns
returns c =
    let a = c.args in
    let sent = c.if-i-had.false in
    sym (joined_sent a.held.now a.host.now a.had a.i (omega (arith, sent)) (omega arith))
