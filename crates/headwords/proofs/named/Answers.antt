-- Where the four words make a head, two more make another of it.
use Rattle.std.proofs.Common.{ℕ, ◌<◌, sym, ap, subst, ◌∙◌, get_or, arith}
use Rattle.std.proofs.lemmas.Result.{err_from_is_err_and}
use Rattle.headwords.specs.Words.{Worded, behind, Fit}
use Rattle.headwords.proofs.Heads.{names_fit}
use Rattle.headwords.proofs.named.Goals as goal

pub returns-in_err-h : goal.returns-in_err-h
returns-in_err-h c =
    let p = err_from_is_err_and c.from_residual.result c.from_residual.ensures.1 in
    rw (p.1, p.2) (ap (λ (x : Worded). behind x c.args.serial.now c.args.clock.now) c.in_err-h.ensures.0, tt)

pub returns : goal.returns
returns c =
    let serial = c.args.serial.now in
    let clock = c.args.clock.now in
    let small : (k : ℕ) → get_or serial k 0 < 256 = λ k. omega (arith, c.type_inv.serial k) in (
      c.with_names.ensures ∙ ap (λ (x : Worded). behind x serial clock) c.in_ok-h.ensures.0,
      subst Fit (sym c.with_names.ensures) (names_fit _ _ _ c.in_ok-h.ensures.1 small),
    )
