-- A rate of the table has a D, and no other has one.
use Rattle.std.proofs.Common.{◌≡◌, ℕ, Bool, true, false, Some, None, is_some, ap, refl, ◌∙◌, ltb}
use Rattle.wire.specs.Choice.{pick}
use Rattle.rates.specs.Table.{d_of}
use Rattle.rates.proofs.Rates.{rate_listed}
use Rattle.replies.proofs.awaited.could_say.Goals as goal

some_by : (b : Bool) (d : ℕ) → is_some (pick b (Some d) None) ≡ b
some_by true d = refl
some_by false d = refl

pub returns-in-AskRate : goal.returns-in-AskRate
returns-in-AskRate c =
    let n = c.args.n in
    rw c.in-AskRate.is
    (c.is_some.ensures ∙ ap is_some c.d_of.ensures ∙ some_by (ltb 0 (d_of n)) (d_of n) ∙ rate_listed n)
