-- The number at the place D less ten is the rule's, by `table_rule`.
use Rattle.std.proofs.Common.{◌≡◌, ℕ, ◌-◌, true, Some, get_or, sym, ap, ◌∙◌, arith}
use Rattle.wire.proofs.Laws.{within_low, within_high}
use Rattle.rates.specs.Rate.{is_d, rate_of}
use Rattle.rates.specs.Entries.{entries}
use Rattle.rates.proofs.Rates.{table_rule}
use Rattle.rates.proofs.table.achieved.Goals as goal

-- the entry at that place is the achieved rate
entry : (d : ℕ) → is_d d ≡ true → get_or entries (d - 10) 0 ≡ rate_of d
entry d is =
    let low = within_low 10 625 d is in
    let high = within_high 10 625 d is in
    table_rule (d - 10) (omega (arith, high)) ∙ ap rate_of (omega (arith, low))

pub returns : goal.returns
unfolding entries
returns c =
    let d = c.args.d in
    let is : is_d d ≡ true = sym c.is_d.ensures ∙ c.if-not-is_d.false in
    rw is (ap Some (entry d is))
