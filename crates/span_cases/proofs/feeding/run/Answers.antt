use Rattle.std.proofs.Common.{◌<◌, length, refl, arith, rules}
use Rattle.spans.specs.Eating.{eaten_told}
use Rattle.spans.proofs.Eats.{is_ok}
use Rattle.span_cases.proofs.Steps.{all_left, steps}
use Rattle.span_cases.proofs.feeding.run.Goals as goal

pub loop-rest-init : goal.loop-rest-init
loop-rest-init c = rw c.fresh-span.ensures (all_left _ (omega arith))

pub unwrap-e-requires : goal.unwrap-e-requires
unwrap-e-requires c =
    let more : 0 < length c.loop-rest.rest.now = search rules in
    let did = steps _ _ _ c.loop-rest.invariant more c.requires _ (eaten_told c.loop-rest.span c.hand_over.result) c.first.ensures c.hand_over.ensures in
    is_ok _ _ _ refl did.some

pub slice_bounds-rest-count : goal.slice_bounds-rest-count
slice_bounds-rest-count c =
    let more : 0 < length c.loop-rest.rest.now = search rules in
    (steps _ _ _ c.loop-rest.invariant more c.requires _ _ c.first.ensures (rw c.unwrap-e.ensures at c.hand_over.ensures)).inside

pub slice_bounds-rest-start : goal.slice_bounds-rest-start
slice_bounds-rest-start c =
    let more : 0 < length c.loop-rest.rest.now = search rules in
    (steps _ _ _ c.loop-rest.invariant more c.requires _ _ c.first.ensures (rw c.unwrap-e.ensures at c.hand_over.ensures)).inside

pub loop-rest-smaller : goal.loop-rest-smaller
loop-rest-smaller c =
    let more : 0 < length c.loop-rest.rest.now = search rules in
    (steps _ _ _ c.loop-rest.invariant more c.requires _ _ c.first.ensures (rw c.unwrap-e.ensures at c.hand_over.ensures)).less

pub loop-rest-preserved : goal.loop-rest-preserved
loop-rest-preserved c =
    let more : 0 < length c.loop-rest.rest.now = search rules in
    (steps _ _ _ c.loop-rest.invariant more c.requires _ _ c.first.ensures (rw c.unwrap-e.ensures at c.hand_over.ensures)).next
