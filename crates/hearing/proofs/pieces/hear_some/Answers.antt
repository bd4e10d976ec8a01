-- Each of the three ways leads where all leads.
use Rattle.std.proofs.Common.{◌≡◌, ◌+◌, ◌<◌, sym, ap, subst, ◌∙◌, arith}
use Rattle.hearing.specs.declared.Tally.{Tally}
use Rattle.hearing.specs.Hearing.{Reach, settled}
use Rattle.hearing.specs.Inside.{Sane, Goes}
use Rattle.hearing.proofs.Heard.{sane_taking, sane_less}
use Rattle.hearing.proofs.Reaches.{settled_at}
use Rattle.hearing.proofs.Goings.{goes_skip, goes_byte, taken_some}
use Rattle.hearing.proofs.pieces.hear_some.Goals as goal

pub returns-then-k-gt0 : goal.returns-then-k-gt0
returns-then-k-gt0 c =
    let a = c.args in
    let n = c.skippable-k.result in (
      subst (λ (u : Tally). Goes a.f a.t a.piece.now a.at (record { at = a.at + n; code = 0; tally = u })) (sym c.skip.ensures)
          (goes_skip a.f a.t a.piece.now a.at n (omega arith) (c.skippable-k.ensures.1 c.if-k-gt0.true) c.requires.2),
      omega arith,
    )

pub settle-requires : goal.settle-requires
settle-requires c =
    let a = c.args in (
      subst (Sane 0) (sym c.take_byte.ensures) (sane_taking 0 a.t _ (sane_less 1 (omega arith) c.requires.2)),
      subst (λ (u : Tally). 0 < u.came) (sym c.take_byte.ensures) (taken_some a.t _),
    )

pub returns : goal.returns
returns c =
    let a = c.args in
    let came = c.settle.ensures ∙ ap (settled (a.at + 1) a.f) c.take_byte.ensures in
    let there : c.settle.result.at ≡ a.at + 1 = ap (λ (r : Reach). r.at) came ∙ settled_at (a.at + 1) a.f _ in
    (subst (Goes a.f a.t a.piece.now a.at) (sym came) (goes_byte a.f a.t a.piece.now a.at c.requires.1 c.requires.2), omega (arith, there))
