-- A packet that does not go on: each answer is the one that the checks of `reading_of` give, in their order; `Reading` has a law for
-- each.
use Rattle.std.proofs.Common.{◌≡◌, sym, ap, ◌∙◌, arith}
use Rattle.std.proofs.lemmas.Result.{err_from_is_err_and}
use borrow.Author.Tests.{not-true, not-false}
use Rattle.packets.specs.Numbers.{number_in}
use Rattle.reader.specs.Reading.{heard_at}
use Rattle.packets.proofs.Forms.{found_ok, found_err}
use Rattle.packets.specs.Forms.{whole_of}
use Rattle.wire.proofs.Laws.{true_not_false}
use Rattle.reader.proofs.Reading.{no_packet, pairs_few, sound_count, broken, no_slice, first, unbegun, changed}
use Rattle.reader.proofs.Going.{other_form}
use Rattle.reader.proofs.read.Goals as goal

pub returns-then-not-is_sound : goal.returns-then-not-is_sound
returns-then-not-is_sound c = broken _ _ (sym c.is_sound.ensures ∙ c.if-not-is_sound.true)

pub returns-in_err-form : goal.returns-in_err-form
returns-in_err-form c =
    let up = err_from_is_err_and c.from_residual.result c.from_residual.ensures.1 in
    let none = found_err (whole_of c.args.packet.now) _ _ _ c.whole.ensures (sym c.ok_or.ensures.value ∙ c.in_err-form.was) in
    rw (up.1, up.2, none.1) (no_slice c.args.r c.args.packet.now (sym c.is_sound.ensures ∙ c.if-not-is_sound.false) none.0)

pub heard_at-requires : goal.heard_at-requires
heard_at-requires c =
    let form = found_ok (whole_of c.args.packet.now) _ _ _ c.whole.ensures (sym c.ok_or.ensures.value ∙ c.in_ok-form.was) in
    (sound_count c.args.r (sym c.is_sound.ensures ∙ c.if-not-is_sound.false), omega arith, rw form.1 (pairs_few c.args.packet.now))

pub returns-then-number_in-eq0 : goal.returns-then-number_in-eq0
returns-then-number_in-eq0 c =
    let form = found_ok (whole_of c.args.packet.now) _ _ _ c.whole.ensures (sym c.ok_or.ensures.value ∙ c.in_ok-form.was) in
    c.heard_at.ensures
    ∙ ap (heard_at c.args.r.channels 0 0 0) form.1
    ∙ first c.args.r c.args.packet.now (sym c.is_sound.ensures ∙ c.if-not-is_sound.false) form.0 (sym c.number_in.ensures ∙ c.if-number_in-eq0.true)

pub returns-then-not-r : goal.returns-then-not-r
returns-then-not-r c =
    let form = found_ok (whole_of c.args.packet.now) _ _ _ c.whole.ensures (sym c.ok_or.ensures.value ∙ c.in_ok-form.was) in
    unbegun c.args.r c.args.packet.now (sym c.is_sound.ensures ∙ c.if-not-is_sound.false) form.0 (λ z. c.if-number_in-eq0.false (c.number_in.ensures ∙ z))
    (not-true _ c.if-not-r.true)

pub returns : goal.returns
returns c =
    let form = found_ok (whole_of c.args.packet.now) _ _ _ c.whole.ensures (sym c.ok_or.ensures.value ∙ c.in_ok-form.was) in
    let fine = sym c.is_sound.ensures ∙ c.if-not-is_sound.false in
    let later : number_in c.args.packet.now ≡ 0 → ⊥ = λ z. c.if-number_in-eq0.false (c.number_in.ensures ∙ z) in
    let stops = sym c.goes_on.ensures ∙ c.if-goes_on.false in
    let begun = not-false _ c.if-not-r.false in
    let some : (whole_of c.args.packet.now).pairs ≡ 0 → ⊥ = λ z. true_not_false (sym form.0 ∙ no_packet c.args.packet.now z) in
    changed c.args.r c.args.packet.now fine form.0 later begun (other_form _ _ stops fine some later begun)
