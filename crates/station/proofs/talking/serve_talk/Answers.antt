-- Each turn is one call; with 64 bytes of room it is not refused.
use Rattle.std.proofs.Common.{◌≡◌, ◌-◌, ◌+◌, leb, refl, ap, ◌∙◌, arith, length, drop, ℕ, List}
use Rattle.std.specs.Prelude.{Result, Ok, Err, is_err, IsOk, false}
use borrow.Rule.Slice.PartMut.{put_mid}
use lib.ListN.{length-drop}
use lib.Seq.{sets}
use Rattle.wire.proofs.Stores.{part_sets, rest_part, rest_long}
use Rattle.wire.proofs.Laws.{true_not_false}
use Rattle.station.specs.declared.Station.{Station}
use Rattle.station.specs.Station.{box_of}
use Rattle.station.specs.Feeding.{FedHeld, feeding_of, parts_of, held_says}
use Rattle.station.proofs.Calls.{feeding_within, not_refused, ok_of}
use Rattle.station.proofs.Talks.{none_left, none_more, no_room_lem, begins, ends, turns}
use Rattle.station.proofs.talking.serve_talk.Goals as goal

pub loop-init : goal.loop-init
loop-init c =
    let all : length c.args.host.now - 0 ≡ length c.args.host.now = omega arith in
    rw (c.parts-parts.ensures, all) (begins _ _ c.session_box-began.result c.session_box-began.ensures)

-- where nothing more is served the call ends
pub returns-then-host-i : goal.returns-then-host-i
returns-then-host-i c =
    let g = c.loop in
    let box : Station = box_of g.parts.settings g.held g.parts.taken in
    ends _ _ g.replies box g.i g.at _ g.invariant (none_more _ _ box (drop g.i c.args.host.now) (omega (arith, length-drop g.i c.args.host.now)))

pub overflow_sub-replies : goal.overflow_sub-replies
overflow_sub-replies c = c.loop.invariant.room

pub returns-then-replies-at-lt64 : goal.returns-then-replies-at-lt64
returns-then-replies-at-lt64 c =
    let g = c.loop in
    let box : Station = box_of g.parts.settings g.held g.parts.taken in
    ends _ _ g.replies box g.i g.at _ g.invariant (no_room_lem _ _ box (drop g.i c.args.host.now) c.if-replies-at-lt64.true)

pub returns : goal.returns
returns c =
    let g = c.loop in
    let box : Station = box_of g.parts.settings g.held g.parts.taken in
    ends _ _ g.replies box g.i g.at _ g.invariant (none_left _ _ box (drop g.i c.args.host.now) (omega arith))

pub feed_sound-requires : goal.feed_sound-requires
feed_sound-requires c = c.loop.invariant.sound

pub unwrap-f-requires : goal.unwrap-f-requires
unwrap-f-requires c =
    let g = c.loop in
    let box : Station = box_of g.parts.settings g.held g.parts.taken in
    let fails : is_err c.feed_sound.result
    ≡ leb 20 (feeding_of box (drop g.i c.args.host.now) (length g.replies - g.at)).fed.code =
    rw (rest_part g.i c.args.host.now, rest_long g.at g.replies) at c.feed_sound.ensures.1 in
    ok_of c.feed_sound.result
    (fails ∙ not_refused box (drop g.i c.args.host.now) (length g.replies - g.at) g.invariant.sound c.if-replies-at-lt64.false)

pub overflow_add-i : goal.overflow_add-i
overflow_add-i c =
    let g = c.loop in
    let box : Station = box_of g.parts.settings g.held g.parts.taken in
    let rest = drop g.i c.args.host.now in
    let room = length g.replies - g.at in
    let told : held_says g.parts (Ok c.unwrap-f.result) ≡ parts_of (feeding_of box rest room).fed =
    rw (c.unwrap-f.ensures, rest_part g.i c.args.host.now, rest_long g.at g.replies) at c.feed_sound.ensures.0 in
    omega (
      arith,
      ap (λ (f : FedHeld). f.consumed) told,
      (feeding_within box rest room).consumed,
      length-drop g.i c.args.host.now,
      g.invariant.inside,
      c.well_formed,
    )

pub overflow_add-at : goal.overflow_add-at
overflow_add-at c =
    let g = c.loop in
    let box : Station = box_of g.parts.settings g.held g.parts.taken in
    let rest = drop g.i c.args.host.now in
    let room = length g.replies - g.at in
    let told : held_says g.parts (Ok c.unwrap-f.result) ≡ parts_of (feeding_of box rest room).fed =
    rw (c.unwrap-f.ensures, rest_part g.i c.args.host.now, rest_long g.at g.replies) at c.feed_sound.ensures.0 in
    let bound = feeding_within box rest room in
    omega (
      arith,
      ap (λ (f : FedHeld). f.wrote) told,
      bound.wrote,
      bound.fits,
      g.invariant.long,
      g.invariant.room,
      c.well_formed,
    )

pub loop-preserved : goal.loop-preserved
loop-preserved c =
    let g = c.loop in
    let box : Station = box_of g.parts.settings g.held g.parts.taken in
    let host = c.args.host.now in
    let rest = drop g.i host in
    let room = length g.replies - g.at in
    let told : held_says g.parts (Ok c.unwrap-f.result) ≡ parts_of (feeding_of box rest room).fed =
    rw (c.unwrap-f.ensures, rest_part g.i host, rest_long g.at g.replies) at c.feed_sound.ensures.0 in
    let kept : c.feed_sound.new.held ≡ (feeding_of box rest room).fed.station.store.held =
    rw (rest_part g.i host, rest_long g.at g.replies) at c.feed_sound.ensures.2 in
    let stored : put_mid g.at room g.replies c.feed_sound.new.reply ≡ sets g.replies g.at (feeding_of box rest room).bytes =
    ap (λ (v : List ℕ). put_mid g.at room g.replies v)
    (rw (rest_part g.i host, rest_long g.at g.replies) at c.feed_sound.ensures.3)
    ∙ part_sets g.at room g.replies (feeding_of box rest room).bytes (omega (arith, g.invariant.room)) in
    let down : length host - (g.counter + 1) ≡ length host - g.counter - 1 = omega arith in
    rw down
    (turns host _ g.replies _ box g.i g.at (length host - g.counter) (feeding_of box rest room) refl g.invariant (omega arith)
    (omega arith) c.if-replies-at-lt64.false stored (held_says g.parts (Ok c.unwrap-f.result)) c.feed_sound.new.held told kept)
