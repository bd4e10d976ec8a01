-- The nearest D is a D, and has an achieved rate.
use Rattle.std.proofs.Common.{sym, ◌∙◌}
use Rattle.replies.proofs.Recognised.{none_near, rate_achieved}
use Rattle.replies.proofs.awaited.achieved_for.Goals as goal

pub returns-in_err-nearest : goal.returns-in_err-nearest
returns-in_err-nearest c = c.from_residual.ensures ∙ none_near c.args.hz (sym c.in_err-nearest.was ∙ c.nearest.ensures)

pub returns : goal.returns
returns c = c.achieved.ensures ∙ rate_achieved c.args.hz _ (sym c.in_ok-nearest.was ∙ c.nearest.ensures)
