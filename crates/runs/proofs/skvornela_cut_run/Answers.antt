-- Each turn cuts one packet, or ends.
use Rattle.std.proofs.Common.{◌≡◌, ◌+◌, ◌-◌, refl, sym, ap, ◌∙◌, arith, length, take, drop, ℕ, List, ℤ, Ok, Err}
use borrow.Rule.Slice.PartMut.{put_mid}
use lib.Seq.{sets}
use Rattle.wire.proofs.Stores.{part_sets, rest_long}
use Rattle.wire.proofs.Refusals.{done_no_refusal}
use Rattle.station.specs.declared.Station.{Station}
use Rattle.cutting.specs.Cutting.{Cut, Cutting, cutting_of, cut_says}
use Rattle.runs.specs.Cutting.{ran}
use Rattle.runs.proofs.Turns.{one_more}
use Rattle.runs.proofs.Cuts.{none_cut, Under, no_samples, no_bytes, begins, over, refused, turns}
use Rattle.runs.proofs.skvornela_cut_run.Goals as goal

pub returns-then-n-eq0 : goal.returns-then-n-eq0
returns-then-n-eq0 c = no_samples _ _ _ _ _ c.if-n-eq0.true

pub returns-then-total-eq0 : goal.returns-then-total-eq0
returns-then-total-eq0 c = no_bytes _ _ _ _ _ c.if-n-eq0.false c.if-total-eq0.true

pub loop-count-init : goal.loop-count-init
loop-count-init c =
    let all : c.min-packets.result - 0 ≡ c.min-packets.result = omega arith in
    rw all (begins _ _ c.if-n-eq0.false c.if-total-eq0.false c.started-s.ensures c.min-packets.ensures)

pub overflow_add-end : goal.overflow_add-end
overflow_add-end c =
    let g = c.loop-count in
    omega (arith, one_more (c.min-packets.result - g.count) c.args.n (omega arith), g.invariant.sampled, c.well_formed)

pub slice_bounds-cut_packet-end : goal.slice_bounds-cut_packet-end
slice_bounds-cut_packet-end c =
    let g = c.loop-count in
    omega (arith, one_more (c.min-packets.result - g.count) c.args.n (omega arith), g.invariant.sampled)

pub slice_bounds-cut_packet-count-in-loop-count : goal.slice_bounds-cut_packet-count-in-loop-count
slice_bounds-cut_packet-count-in-loop-count c = omega (arith, c.loop-count.invariant.roomy)

pub slice_bounds-cut_packet-start-in-loop-count : goal.slice_bounds-cut_packet-start-in-loop-count
slice_bounds-cut_packet-start-in-loop-count c = omega (arith, c.loop-count.invariant.roomy)

-- a refused packet leaves the lent bytes
pub returns-in_default : goal.returns-in_default
returns-in_default c =
    let g = c.loop-count in
    let zs : List ℤ = take c.args.n (drop g.i c.args.samples.now) in
    let room = length g.out - g.at in
    let next : g.i + c.args.n - g.i ≡ c.args.n = omega arith in
    let told : cut_says g.s (Err c.in_default.field-0) ≡ (cutting_of g.s zs room).cut =
    rw (next, rest_long g.at g.out) at c.in_default.ensures.0 in
    let bad : (cutting_of g.s zs room).cut.code ≡ 1 → ⊥ =
    λ e. done_no_refusal c.in_default.field-0 (sym (ap (λ (r : Cut). r.code) told ∙ e)) in
    let stored : put_mid g.at room g.out c.cut_packet.new.packet ≡ sets g.out g.at (cutting_of g.s zs room).bytes =
    ap (λ (v : List ℕ). put_mid g.at room g.out v) (rw (next, rest_long g.at g.out) at c.in_default.ensures.1)
    ∙ part_sets g.at room g.out (cutting_of g.s zs room).bytes (omega (arith, g.invariant.roomy)) in
    ap (λ (v : List ℕ). ran g.count v) (stored ∙ ap (λ (v : List ℕ). sets g.out g.at v) (none_cut g.s zs room bad))
    ∙ refused g.invariant (cutting_of g.s zs room) (omega arith) refl bad

pub overflow_add-at : goal.overflow_add-at
overflow_add-at c =
    let g = c.loop-count in
    omega (
      arith,
      one_more (c.min-packets.result - g.count) c.args.total (omega arith),
      g.invariant.roomy,
      g.invariant.long,
      c.well_formed,
    )

pub loop-count-preserved : goal.loop-count-preserved
loop-count-preserved c =
    let g = c.loop-count in
    let zs : List ℤ = take c.args.n (drop g.i c.args.samples.now) in
    let room = length g.out - g.at in
    let next : g.i + c.args.n - g.i ≡ c.args.n = omega arith in
    let told : cut_says g.s (Ok c.in-Ok.cut) ≡ (cutting_of g.s zs room).cut =
    rw (next, rest_long g.at g.out) at c.in-Ok.ensures.0 in
    let stored : put_mid g.at room g.out c.cut_packet.new.packet ≡ sets g.out g.at (cutting_of g.s zs room).bytes =
    ap (λ (v : List ℕ). put_mid g.at room g.out v) (rw (next, rest_long g.at g.out) at c.in-Ok.ensures.1)
    ∙ part_sets g.at room g.out (cutting_of g.s zs room).bytes (omega (arith, g.invariant.roomy)) in
    let down : c.min-packets.result - (g.count + 1) ≡ c.min-packets.result - g.count - 1 = omega arith in
    rw down
    (turns g.invariant (cutting_of g.s zs room) (omega arith) refl _ (cut_says g.s (Ok c.in-Ok.cut)) told refl stored)

pub returns : goal.returns
returns c =
    let all : c.min-packets.result ≡ c.loop-count.count = omega arith in
    rw all (over c.loop-count.invariant (omega arith))
