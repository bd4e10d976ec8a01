use Rattle.std.proofs.Common.{refl, ◌∙◌}
use Rattle.rates.specs.Rate.{is_d}
use Rattle.headwords.proofs.Words.{tested, not_tested}
use Rattle.headwords.proofs.divisor_of.Goals as goal

pub returns-in_err-d : goal.returns-in_err-d
returns-in_err-d c = rw c.from_residual.ensures (not_tested c.args.word.now is_d c.in_err-d.ensures refl)

pub returns : goal.returns
returns c = c.then_some.ensures ∙ tested c.args.word.now is_d c.in_ok-d.ensures c.is_d.ensures
