-- The step leads to a position past the last one, or the packet is taken there.
use Rattle.std.proofs.Common.{refl, sym, ap, ◌∙◌, arith}
use Rattle.packets.specs.Forms.{whole_of}
use Rattle.packets.proofs.Forms.{same_is}
use Rattle.reader.specs.Reading.{heard_at}
use Rattle.reader.proofs.Reading as reading
use Rattle.reader.proofs.Going.{going, further}
use Rattle.reader.proofs.next.Goals as goal

pub position_after-position-requires : goal.position_after-position-requires
position_after-position-requires c =
    let g = going c.args.r c.args.packet.now c.requires in
    (omega (arith, (reading.heard_within c.args.r g.fine g.begun).0), omega (arith, g.later, c.number_in.ensures))

pub returns-then-position-gt-LAST : goal.returns-then-position-gt-LAST
returns-then-position-gt-LAST c =
    let g = going c.args.r c.args.packet.now c.requires in
    let q = further c.args.r c.args.packet.now _ _ g c.number_in.ensures c.position_after-position.ensures in
    reading.past c.args.r c.args.packet.now g.fine (reading.a_packet c.args.packet.now g.some) g.later g.begun g.same _ q.leads c.if-position-gt-LAST.true

pub overflow_sub-missed-2 : goal.overflow_sub-missed-2
overflow_sub-missed-2 c =
    let q = further c.args.r c.args.packet.now _ _ (going c.args.r c.args.packet.now c.requires) c.number_in.ensures c.position_after-position.ensures in
    omega (arith, q.above)

pub overflow_add-r : goal.overflow_add-r
overflow_add-r c =
    let q = further c.args.r c.args.packet.now _ _ (going c.args.r c.args.packet.now c.requires) c.number_in.ensures c.position_after-position.ensures in
    omega (arith, q.above, q.near, q.few, q.within)

pub heard_at-requires : goal.heard_at-requires
heard_at-requires c =
    let g = going c.args.r c.args.packet.now c.requires in
    let few = rw (same_is (whole_of c.args.packet.now) c.args.r.form g.same) at (reading.pairs_few c.args.packet.now) in
    (reading.sound_count c.args.r g.fine, omega arith, few)

pub returns : goal.returns
returns c =
    let g = going c.args.r c.args.packet.now c.requires in
    let q = further c.args.r c.args.packet.now _ _ g c.number_in.ensures c.position_after-position.ensures in
    c.heard_at.ensures
    ∙ ap (heard_at c.args.r.channels c.position_after-position.result _ _) (sym (same_is (whole_of c.args.packet.now) c.args.r.form g.same))
    ∙ reading.next c.args.r c.args.packet.now g.fine (reading.a_packet c.args.packet.now g.some) g.later g.begun g.same _ q.leads (omega arith) _ refl
