-- The box's held bytes are lent where they lie, and its word is told as numbers.
use Rattle.std.proofs.Common.{refl, Ok, Err}
use Rattle.station.specs.Station.{tuning_says}
use Rattle.boxdoor.proofs.Fed.{word_whole, word_broken}
use Rattle.boxdoor.proofs.Lent.{lent_is, read_of}
use Rattle.boxdoor.proofs.feeding.skvornela_word.Goals as goal

pub returns-in-Ok : goal.returns-in-Ok
returns-in-Ok c =
    let a = c.args in
    word_whole a.state.now a.channel _ (tuning_says (Ok c.in-Ok.kept)) c.if-state-eq-LENGTH.true
    (lent_is a.state.now (read_of a.state.now c.parts_of-parts.result c.if-state-eq-LENGTH.true c.parts_of-parts.ensures))
    c.in-Ok.ensures refl

pub returns-in-Err : goal.returns-in-Err
returns-in-Err c =
    let a = c.args in
    rw c.from.ensures
    (word_whole a.state.now a.channel _ (tuning_says (Err c.in-Err.why)) c.if-state-eq-LENGTH.true
    (lent_is a.state.now (read_of a.state.now c.parts_of-parts.result c.if-state-eq-LENGTH.true c.parts_of-parts.ensures))
    c.in-Err.ensures refl)

pub returns : goal.returns
returns c = word_broken _ _ c.if-state-eq-LENGTH.false
