use Rattle.std.proofs.Common.{refl, sym}
use Rattle.std.proofs.lemmas.Result.{err_from_is_err_and}
use Rattle.headwords.proofs.Words.{found, missing}
use Rattle.headwords.proofs.Heads.{names_by_lem}
use Rattle.headwords.proofs.with_names.Goals as goal

pub returns-in_err-serial : goal.returns-in_err-serial
returns-in_err-serial c =
    let p = err_from_is_err_and c.from_residual.result c.from_residual.ensures.1 in
    let serial = missing _ _ _ _ c.serial_of.ensures c.in_err-serial.ensures.value in
    rw (p.1, p.2, serial.1) (sym (names_by_lem _ _ _ serial.0 refl))

pub returns-in_err-clock : goal.returns-in_err-clock
returns-in_err-clock c =
    let p = err_from_is_err_and c.from_residual-in_err-clock.result c.from_residual-in_err-clock.ensures.1 in
    let serial = found _ _ _ _ c.serial_of.ensures c.in_ok-serial.ensures.value in
    let clock = missing _ _ _ _ c.clock_of.ensures c.in_err-clock.ensures.value in
    rw (p.1, p.2, clock.1) (sym (names_by_lem _ _ _ serial.0 clock.0))

pub returns : goal.returns
returns c =
    let serial = found _ _ _ _ c.serial_of.ensures c.in_ok-serial.ensures.value in
    let clock = found _ _ _ _ c.clock_of.ensures c.in_ok-clock.ensures.value in
    rw (serial.1, clock.1) (sym (names_by_lem _ _ _ serial.0 clock.0))
