use Rattle.std.proofs.Common.{◌<◌, length, rules}
use Rattle.span.proofs.Pieces.{begins, ends, some, turns}
use Rattle.span.proofs.hand_over.Goals as goal

pub loop-rest-init : goal.loop-rest-init
loop-rest-init c = (begins _ _ _ c.requires.0 (search rules), c.requires.1)

pub eat_some-requires : goal.eat_some-requires
eat_some-requires c =
    let more : 0 < length c.loop-rest.rest.now = search rules in
    (c.loop-rest.invariant.1, some _ _ _ _ c.loop-rest.invariant.0 more)

-- what a call did whose lines were written
pub slice_bounds-rest-count : goal.slice_bounds-rest-count
slice_bounds-rest-count c =
    let more : 0 < length c.loop-rest.rest.now = search rules in
    (turns _ _ _ _ c.loop-rest.invariant.0 more _ c.in_ok-eaten.ensures.eaten_value).inside

pub slice_bounds-rest-start : goal.slice_bounds-rest-start
slice_bounds-rest-start c =
    let more : 0 < length c.loop-rest.rest.now = search rules in
    (turns _ _ _ _ c.loop-rest.invariant.0 more _ c.in_ok-eaten.ensures.eaten_value).inside

pub loop-rest-smaller : goal.loop-rest-smaller
loop-rest-smaller c =
    let more : 0 < length c.loop-rest.rest.now = search rules in
    (turns _ _ _ _ c.loop-rest.invariant.0 more _ c.in_ok-eaten.ensures.eaten_value).less

pub loop-rest-preserved : goal.loop-rest-preserved
loop-rest-preserved c =
    let more : 0 < length c.loop-rest.rest.now = search rules in
    ((turns _ _ _ _ c.loop-rest.invariant.0 more _ c.in_ok-eaten.ensures.eaten_value).onward, c.eat_some.ensures.out_len)

pub returns-clause-span_value : goal.returns-clause-span_value
returns-clause-span_value c = ends _ _ _ _ c.loop-rest.invariant.0 (search rules)
