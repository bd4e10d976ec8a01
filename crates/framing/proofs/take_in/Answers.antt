-- The total that is known beforehand says how many bytes one call takes. Those of a message that they do not finish are stored,
-- and one that they finish is read where it lies.
use Rattle.std.proofs.Common.{refl, arith}
use Rattle.framing.proofs.Whole.{no_store, still_open, came_last}
use Rattle.framing.proofs.take_in.Goals as goal

pub returns-then-held-ne64 : goal.returns-then-held-ne64
returns-then-held-ne64 c =
    let a = c.args in
    no_store a.held.now a.host.now a.had (λ e. omega arith)

pub returns-then-host-missing : goal.returns-then-host-missing
returns-then-host-missing c =
    let a = c.args in
    rw c.copy.ensures
    (still_open a.held.now a.host.now a.had c.total_ahead-total.result (omega arith) c.total_ahead-total.ensures
    (omega (arith, c.saturating_sub-missing.ensures)))

pub returns-then-had-eq0 : goal.returns-then-had-eq0
returns-then-had-eq0 c =
    let a = c.args in
    let total = c.total_ahead-total.result in
    came_last a.held.now a.host.now a.had total (omega arith) c.total_ahead-total.ensures
    c.first_ten.result total total (omega arith) (omega arith)
    (omega (arith, c.saturating_sub-missing.ensures)) (rw c.if-had-eq0.true c.first_ten.ensures)

pub returns : goal.returns
returns c =
    let a = c.args in
    came_last a.held.now a.host.now a.had c.total_ahead-total.result (omega arith) c.total_ahead-total.ensures
    c.opening.result c.saturating_sub-missing.result _ c.saturating_sub-missing.ensures refl (omega arith) c.opening.ensures
