use Rattle.std.proofs.Common.{refl, sym, subst}
use Rattle.std.proofs.lemmas.Result.{err_from_is_err_and}
use Rattle.headwords.specs.Words.{Fit}
use Rattle.headwords.proofs.Words.{found, missing}
use Rattle.headwords.proofs.Heads.{plain_by_lem, plain_fit}
use Rattle.headwords.proofs.plain.Goals as goal

pub returns-in_err-divisor : goal.returns-in_err-divisor
returns-in_err-divisor c =
    let p = err_from_is_err_and c.from_residual.result c.from_residual.ensures.1 in
    let d = missing _ _ _ _ c.divisor_of.ensures c.in_err-divisor.ensures.value in
    rw (p.1, p.2, d.1) (sym (plain_by_lem _ _ _ _ d.0 refl refl refl), tt)

pub returns-in_err-frequency : goal.returns-in_err-frequency
returns-in_err-frequency c =
    let p = err_from_is_err_and c.from_residual-in_err-frequency.result c.from_residual-in_err-frequency.ensures.1 in
    let d = found _ _ _ _ c.divisor_of.ensures c.in_ok-divisor.ensures.value in
    let hz = missing _ _ _ _ c.frequency_of.ensures c.in_err-frequency.ensures.value in
    rw (p.1, p.2, hz.1) (sym (plain_by_lem _ _ _ _ d.0 hz.0 refl refl), tt)

pub returns-in_err-mode : goal.returns-in_err-mode
returns-in_err-mode c =
    let p = err_from_is_err_and c.from_residual-in_err-mode.result c.from_residual-in_err-mode.ensures.1 in
    let d = found _ _ _ _ c.divisor_of.ensures c.in_ok-divisor.ensures.value in
    let hz = found _ _ _ _ c.frequency_of.ensures c.in_ok-frequency.ensures.value in
    let bits = missing _ _ _ _ c.mode_of.ensures c.in_err-mode.ensures.value in
    rw (p.1, p.2, bits.1) (sym (plain_by_lem _ _ _ _ d.0 hz.0 bits.0 refl), tt)

pub returns-in_err-size : goal.returns-in_err-size
returns-in_err-size c =
    let p = err_from_is_err_and c.from_residual-in_err-size.result c.from_residual-in_err-size.ensures.1 in
    let d = found _ _ _ _ c.divisor_of.ensures c.in_ok-divisor.ensures.value in
    let hz = found _ _ _ _ c.frequency_of.ensures c.in_ok-frequency.ensures.value in
    let bits = found _ _ _ _ c.mode_of.ensures c.in_ok-mode.ensures.value in
    let size = missing _ _ _ _ c.size_of.ensures c.in_err-size.ensures.value in
    rw (p.1, p.2, size.1) (sym (plain_by_lem _ _ _ _ d.0 hz.0 bits.0 size.0), tt)

pub returns : goal.returns
returns c =
    let d = found _ _ _ _ c.divisor_of.ensures c.in_ok-divisor.ensures.value in
    let hz = found _ _ _ _ c.frequency_of.ensures c.in_ok-frequency.ensures.value in
    let bits = found _ _ _ _ c.mode_of.ensures c.in_ok-mode.ensures.value in
    let size = found _ _ _ _ c.size_of.ensures c.in_ok-size.ensures.value in
    let whole = plain_by_lem _ _ _ _ d.0 hz.0 bits.0 size.0 in
    rw (d.1, hz.1, bits.1, size.1) (sym whole, subst Fit whole (plain_fit _ _ _ _))
