-- The box is valid, so there is a reply; it lies within its array, and the part that was written is the box's reply.
use Rattle.std.proofs.Common.{refl, sym, ◌∙◌}
use Rattle.std.proofs.Math.Seq.{length-take-le}
use native.Mathlib.Nat.{le_refl}
use Rattle.station.specs.Station.{box_of}
use Rattle.station.proofs.Calls.{not_refused, ok_of}
use Rattle.session.proofs.Calls.{reply_is, put_together}
use Rattle.session.proofs.feed_once.Goals as goal

pub unwrap-fed-requires : goal.unwrap-fed-requires
unwrap-fed-requires c =
    let a = c.args in
    ok_of c.feed_held.result
    (c.feed_held.ensures.1 ∙ not_refused (box_of a.parts.settings a.held.now a.parts.taken) a.host.now 64 c.requires (le_refl 64))

pub slice_bounds-reply-end : goal.slice_bounds-reply-end
slice_bounds-reply-end c =
    let whole = put_together c.args.parts _ _ _ (rw c.unwrap-fed.ensures at c.feed_held.ensures.0) c.feed_held.ensures.2 in
    (reply_is _ _ _ _ _ refl whole c.feed_held.ensures.3).inside

pub slice_bounds-write_reply-end : goal.slice_bounds-write_reply-end
slice_bounds-write_reply-end c =
    let whole = put_together c.args.parts _ _ _ (rw c.unwrap-fed.ensures at c.feed_held.ensures.0) c.feed_held.ensures.2 in
    sym (length-take-le _ _ (reply_is _ _ _ _ _ refl whole c.feed_held.ensures.3).inside)

pub write_reply-requires : goal.write_reply-requires
write_reply-requires c =
    let whole = put_together c.args.parts _ _ _ (rw c.unwrap-fed.ensures at c.feed_held.ensures.0) c.feed_held.ensures.2 in
    rw c.box_of-before.ensures (reply_is _ _ _ _ _ refl whole c.feed_held.ensures.3).bytes
