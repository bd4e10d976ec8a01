-- A valid box waits for more bytes, or answers a finished message.
use Rattle.std.proofs.Common.{refl, sym, ap, ◌∙◌, true, false, length, replicate, ℕ, List}
use Rattle.std.proofs.lemmas.Result.{err_from_is_err_and}
use Rattle.std.specs.Prelude.{Ok, Err}
use Rattle.framing.specs.Telling.{Took}
use Rattle.framing.proofs.Whole.{says_open, says_ended}
use Rattle.station.specs.declared.Station.{Station}
use Rattle.station.specs.Feeding.{Fed, parts_of}
use Rattle.station.specs.Station.{box_of}
use Rattle.station.specs.Inside.{opened, opened_message}
use Rattle.station.proofs.Valid.{valid_store}
use Rattle.station.proofs.Opened.{waits, answers, same_held}
use Rattle.station.proofs.Answers.{out_short, out_whole}
use Rattle.station.proofs.feeding.feed_sound.Goals as goal

-- the bytes held after a call
abbrev held_of : Fed → List ℕ
held_of f = f.station.store.held

-- what a call took, where it finished the message with these ten bytes
abbrev ended : List ℕ → ℕ → ℕ → Took
ended ten count taken = record { opening = ten; count = count; taken = taken; finished = true }

pub returns-in_default : goal.returns-in_default
returns-in_default c =
    let a = c.args in
    let t = c.take_in-took in
    let box : Station = box_of a.parts.settings a.held.now a.parts.taken in
    let took : Took = record { opening = replicate 10 0; count = t.result.count; taken = t.result.taken; finished = false } in
    let told = sym (says_open t.result c.in_default.is) ∙ t.ensures.0 in
    rw (← waits box a.host.now (length a.reply.now) took t.new.held c.requires told t.ensures.1 refl)
    (refl, refl, refl, refl)

pub returns-in_err-answered : goal.returns-in_err-answered
returns-in_err-answered c =
    let a = c.args in
    let t = c.take_in-took in
    let ten = c.in-Some.opening in
    let box : Station = box_of a.parts.settings a.held.now a.parts.taken in
    let took = ended ten t.result.count t.result.taken in
    let told = sym (says_ended t.result ten c.in-Some.is) ∙ t.ensures.0 in
    let short =
    out_short box (opened took) a.reply.now _ (Err c.in_err-answered.field-0.0) (opened_message ten) refl
    c.in_err-answered.ensures.0 c.in_err-answered.ensures.1 c.in_err-answered.ensures.2 c.in_err-answered.field-0.0 refl in
    let p = err_from_is_err_and c.from_residual.result c.from_residual.ensures.1 in
    rw (p.1, p.2, ← answers box a.host.now (length a.reply.now) took t.new.held c.requires told t.ensures.1 refl) (
      ap parts_of short.0,
      short.1,
      same_held box a.host.now (length a.reply.now) took t.new.held c.requires told t.ensures.1 refl ∙ ap held_of short.0,
      short.2,
    )

pub clear-requires : goal.clear-requires
clear-requires c =
    let a = c.args in
    let t = c.take_in-took in
    let ten = c.in-Some.opening in
    let box : Station = box_of a.parts.settings a.held.now a.parts.taken in
    let took = ended ten t.result.count t.result.taken in
    let told = sym (says_ended t.result ten c.in-Some.is) ∙ t.ensures.0 in
    rw (same_held box a.host.now (length a.reply.now) took t.new.held c.requires told t.ensures.1 refl)
    (valid_store box.settings box.store c.requires)

pub returns : goal.returns
returns c =
    let a = c.args in
    let t = c.take_in-took in
    let ten = c.in-Some.opening in
    let box : Station = box_of a.parts.settings a.held.now a.parts.taken in
    let took = ended ten t.result.count t.result.taken in
    let told = sym (says_ended t.result ten c.in-Some.is) ∙ t.ensures.0 in
    let whole =
    out_whole box (opened took) a.reply.now _ (Ok c.in_ok-answered.answered) (opened_message ten) refl
    c.in_ok-answered.ensures.0 c.in_ok-answered.ensures.1 c.in_ok-answered.ensures.2 c.in_ok-answered.answered refl in
    rw (← answers box a.host.now (length a.reply.now) took t.new.held c.requires told t.ensures.1 refl)
    (ap parts_of whole.0, whole.1, c.clear.ensures ∙ ap held_of whole.0, whole.2)
