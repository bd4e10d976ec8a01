-- An achieved rate is nearest to its own D, so that no other D can have it.
use Rattle.std.proofs.Common.{sym, ◌∙◌}
use Rattle.rates.proofs.Rates.{none_near, none_achieved, some_achieved}
use Rattle.rates.proofs.table.d_of.Goals as goal

pub returns-in_err-d : goal.returns-in_err-d
returns-in_err-d c = c.from_residual.ensures ∙ none_near c.args.rate (sym c.in_err-d.was ∙ c.nearest.ensures)

pub returns-in_err-achieved : goal.returns-in_err-achieved
returns-in_err-achieved c =
    c.from_residual-in_err-achieved.ensures
    ∙ none_achieved c.args.rate c.in_ok-d.d (sym c.in_ok-d.was ∙ c.nearest.ensures) (sym c.in_err-achieved.was ∙ c.achieved.ensures)

pub returns : goal.returns
returns c =
    c.then_some.ensures
    ∙ some_achieved c.args.rate c.in_ok-d.d (sym c.in_ok-d.was ∙ c.nearest.ensures) c.in_ok-achieved.field-0
    (sym c.in_ok-achieved.was ∙ c.achieved.ensures)
