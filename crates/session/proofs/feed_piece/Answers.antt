use Rattle.std.proofs.Common.{◌<◌, length, rules}
use Rattle.session.proofs.Pieces.{begins, ends, turns}
use Rattle.session.proofs.feed_piece.Goals as goal

pub loop-rest-init : goal.loop-rest-init
loop-rest-init c = rw c.parts-parts.ensures (begins _ _ c.requires.valid)

pub feed_once-requires : goal.feed_once-requires
feed_once-requires c = c.loop-rest.invariant.valid

-- what a call did whose reply was written
pub slice_bounds-rest-count : goal.slice_bounds-rest-count
slice_bounds-rest-count c =
    let more : 0 < length c.loop-rest.rest.now = search rules in
    (turns _ _ _ _ c.loop-rest.invariant more _ c.in_ok-fed.ensures).inside

pub slice_bounds-rest-start : goal.slice_bounds-rest-start
slice_bounds-rest-start c =
    let more : 0 < length c.loop-rest.rest.now = search rules in
    (turns _ _ _ _ c.loop-rest.invariant more _ c.in_ok-fed.ensures).inside

pub loop-rest-smaller : goal.loop-rest-smaller
loop-rest-smaller c =
    let more : 0 < length c.loop-rest.rest.now = search rules in
    (turns _ _ _ _ c.loop-rest.invariant more _ c.in_ok-fed.ensures).less

pub loop-rest-preserved : goal.loop-rest-preserved
loop-rest-preserved c =
    let more : 0 < length c.loop-rest.rest.now = search rules in
    (turns _ _ _ _ c.loop-rest.invariant more _ c.in_ok-fed.ensures).going

pub returns : goal.returns
returns c = rw c.box_of.ensures (ends _ _ _ _ c.loop-rest.invariant (search rules))
