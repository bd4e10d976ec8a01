-- The box's held bytes are fed where they lie, and the rest is written back where the call was not refused.
use Rattle.std.proofs.Common.{◌≡◌, ap, sym, ◌∙◌, arith, length, Ok, Err}
use borrow.Author.Tests.{leb-true, leb-false}
use Rattle.station.specs.declared.Parts.{Parts}
use Rattle.station.specs.Feeding.{FedHeld, held_says}
use Rattle.boxdoor.proofs.Lent.{Read, read_of}
use Rattle.boxdoor.proofs.Fed.{Lent, feed_done, feed_refused, replied_whole, feed_broken, replied_broken, low_code, high_code}
use Rattle.boxdoor.proofs.feeding.skvornela_feed.Goals as goal

pub returns-in-Ok : goal.returns-in-Ok
returns-in-Ok c =
    let a = c.args in
    let r = length a.reply.now in
    let p = c.parts_of-parts.result in
    let l : Lent a.state.now a.host.now r =
    record {
      box = read_of a.state.now p c.if-state-eq-LENGTH.true c.parts_of-parts.ensures;
      held = c.feed_held.new.held;
      back = held_says p (Ok c.in-Ok.f);
      told = c.in-Ok.ensures.0;
      kept = c.in-Ok.ensures.2;
    } in
    rw c.code.ensures (
      feed_done a.state.now a.host.now r l _ (low_code a.state.now a.host.now r l c.in-Ok.ensures.1) c.put_parts.ensures,
      replied_whole a.state.now a.host.now r l a.reply.now _ c.in-Ok.ensures.3,
    )

pub returns-in-Err : goal.returns-in-Err
returns-in-Err c =
    let a = c.args in
    let r = length a.reply.now in
    let p = c.parts_of-parts.result in
    let l : Lent a.state.now a.host.now r =
    record {
      box = read_of a.state.now p c.if-state-eq-LENGTH.true c.parts_of-parts.ensures;
      held = c.feed_held.new.held;
      back = held_says p (Err c.in-Err.refusal);
      told = c.in-Err.ensures.0;
      kept = c.in-Err.ensures.2;
    } in
    rw c.from.ensures (
      feed_refused a.state.now a.host.now r l (high_code a.state.now a.host.now r l c.in-Err.ensures.1),
      replied_whole a.state.now a.host.now r l a.reply.now _ c.in-Err.ensures.3,
    )

pub returns : goal.returns
returns c =
    let a = c.args in (
      feed_broken a.state.now a.host.now _ c.if-state-eq-LENGTH.false,
      replied_broken a.state.now a.host.now a.reply.now _ c.if-state-eq-LENGTH.false,
    )
