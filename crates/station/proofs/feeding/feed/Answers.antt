-- A refused call returns the box given, also the bytes held.
use Rattle.std.proofs.Common.{◌≡◌, ◌≤◌, sym, ap, length}
use Rattle.std.proofs.lemmas.Result.{err_from_is_err_and}
use Rattle.station.specs.Feeding.{FedHeld}
use Rattle.station.proofs.Calls.{returned}
use Rattle.station.proofs.feeding.feed.Goals as goal

pub returns-in_err-fed : goal.returns-in_err-fed
returns-in_err-fed c =
    let a = c.args in
    let p = err_from_is_err_and c.from_residual.result c.from_residual.ensures.1 in
    let told = rw c.parts.ensures at c.in_err-fed.ensures.0 in
    let fails = rw c.parts.ensures at c.in_err-fed.ensures.1 in
    let wrote = rw c.parts.ensures at c.in_err-fed.ensures.3 in
    rw (p.1, p.2) (returned a.s a.host.now (length a.reply.now) c.in_err-fed.field-0.0 told fails, fails, wrote)
