use Rattle.std.proofs.Common.{refl, ◌∙◌}
use Rattle.tuning.specs.Bands.{in_bands}
use Rattle.headwords.proofs.Words.{tested, not_tested}
use Rattle.headwords.proofs.frequency_of.Goals as goal

pub returns-in_err-hz : goal.returns-in_err-hz
returns-in_err-hz c = rw c.from_residual.ensures (not_tested c.args.word.now in_bands c.in_err-hz.ensures refl)

pub returns : goal.returns
returns c = c.then_some.ensures ∙ tested c.args.word.now in_bands c.in_ok-hz.ensures c.in_bands.ensures
