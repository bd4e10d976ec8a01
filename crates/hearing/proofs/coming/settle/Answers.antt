-- By what the bytes come to, and by whether the open capture ends.
use Rattle.std.proofs.Common.{refl, sym, ap, ◌∙◌, arith}
use borrow.Author.Tests.{ne_eqb}
use Rattle.hearing.specs.declared.Tally.{Tally}
use Rattle.hearing.proofs.Heard.{settled_by}
use Rattle.hearing.proofs.Stops.{from_ten}
use Rattle.wire.specs.Refusal.{refusal_code}
use Rattle.hearing.proofs.coming.settle.Goals as goal

pub returns-then-not-whole : goal.returns-then-not-whole
returns-then-not-whole c = sym (settled_by _ _ _ (sym (rw c.if-not-whole.true at c.in-Ok.ensures)) refl)

pub returns-then-closes : goal.returns-then-closes
returns-then-closes c =
    sym (settled_by _ _ _ (sym (rw c.if-not-whole.false at c.in-Ok.ensures)) (sym c.closes.ensures ∙ c.if-closes.true))

pub returns-else-closes : goal.returns-else-closes
returns-else-closes c =
    ap (λ (x : Tally). record { at = c.args.n; code = 0; tally = x }) c.accept.ensures
    ∙ sym (settled_by _ _ _ (sym (rw c.if-not-whole.false at c.in-Ok.ensures)) (sym c.closes.ensures ∙ c.if-closes.false))

pub returns-in-Err : goal.returns-in-Err
returns-in-Err c =
    let high = from_ten c.in-Err.r in
    let code = refusal_code c.in-Err.r in
    sym
    (settled_by _ _ _ (sym c.in-Err.ensures) refl
    ∙ rw (ne_eqb code 0 (λ z. omega (arith, high)), ne_eqb code 1 (λ z. omega (arith, high))))
