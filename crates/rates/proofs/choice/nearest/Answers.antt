-- The nearer of the two D on both sides of the quotient is the one that the search of the definition finds.
use Rattle.std.proofs.Common.{◌≡◌, ℕ, true, Some, None, sym, ◌∙◌}
use Rattle.wire.specs.Choice.{pick}
use Rattle.rates.specs.Rate.{may_ask, nearest_of}
use Rattle.rates.proofs.Choosing.{nearest_here, nearest_next}
use Rattle.rates.proofs.choice.nearest.Goals as goal

-- a D that is the nearest is the answer
the_answer : (rate d : ℕ) → may_ask rate ≡ true → nearest_of rate ≡ d → Some d ≡ pick (may_ask rate) (Some (nearest_of rate)) None
the_answer rate d asked is = rw (asked, is)

pub returns-then-above-d : goal.returns-then-above-d
returns-then-above-d c =
    let asked : may_ask c.args.rate ≡ true = sym c.may_ask.ensures ∙ c.if-not-may_ask.false in
    the_answer c.args.rate _ asked (nearest_here c.args.rate asked c.if-above-d.true)

pub returns : goal.returns
returns c =
    let asked : may_ask c.args.rate ≡ true = sym c.may_ask.ensures ∙ c.if-not-may_ask.false in
    the_answer c.args.rate _ asked (nearest_next c.args.rate asked c.if-above-d.false)
