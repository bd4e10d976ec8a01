-- Each test that fails says no, and the last is the answer.
use Rattle.std.proofs.Common.{refl, sym, ◌∙◌}
use borrow.Author.Tests.{lt-leb, le-leb}
use Rattle.lines.proofs.Dues.{sized_by}
use Rattle.lines.proofs.telling.is_sized.Goals as goal

pub returns-then-d-gt-LAST : goal.returns-then-d-gt-LAST
returns-then-d-gt-LAST c = sym (sized_by c.args.d (lt-leb _ _ c.if-d-gt-LAST.true) refl refl refl refl)

pub returns-then-d-gt256 : goal.returns-then-d-gt256
returns-then-d-gt256 c =
    sym (sized_by c.args.d (le-leb _ _ c.if-d-gt-LAST.false) (lt-leb _ _ c.if-d-gt256.true) refl refl refl)

pub returns-then-d-gt625 : goal.returns-then-d-gt625
returns-then-d-gt625 c =
    sym
    (sized_by c.args.d (le-leb _ _ c.if-d-gt-LAST.false) (le-leb _ _ c.if-d-gt256.false) (lt-leb _ _ c.if-d-gt625.true) refl refl)

pub returns-then-not-is_clock : goal.returns-then-not-is_clock
returns-then-not-is_clock c =
    sym
    (sized_by c.args.d (le-leb _ _ c.if-d-gt-LAST.false) (le-leb _ _ c.if-d-gt256.false) (le-leb _ _ c.if-d-gt625.false)
    (sym c.is_clock.ensures ∙ c.if-not-is_clock.true) refl)

pub returns : goal.returns
returns c =
    sym
    (sized_by c.args.d (le-leb _ _ c.if-d-gt-LAST.false) (le-leb _ _ c.if-d-gt256.false) (le-leb _ _ c.if-d-gt625.false)
    (sym c.is_clock.ensures ∙ c.if-not-is_clock.false) refl)
