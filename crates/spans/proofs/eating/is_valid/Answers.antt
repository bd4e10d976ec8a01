-- A span that has stopped is valid; of any other, count and head decide.
use Rattle.std.proofs.Common.{refl, sym, ◌∙◌}
use Rattle.spans.proofs.Eats.{valid_by}
use Rattle.spans.proofs.eating.is_valid.Goals as goal

pub returns-then-s : goal.returns-then-s
returns-then-s c = sym (valid_by _ c.if-s.true refl refl)

pub returns-then-not-in_range : goal.returns-then-not-in_range
returns-then-not-in_range c = sym (valid_by _ c.if-s.false (sym c.in_range.ensures ∙ c.if-not-in_range.true) refl)

pub returns : goal.returns
returns c =
    sym (valid_by _ c.if-s.false (sym c.in_range.ensures ∙ c.if-not-in_range.false) (sym c.head_ok.ensures))
