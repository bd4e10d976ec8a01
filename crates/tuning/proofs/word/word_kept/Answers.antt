-- The answer is the definition's.
use Rattle.std.proofs.Common.{◌∙◌}
use Rattle.tuning.proofs.Words.{kept_by}
use Rattle.tuning.proofs.word.word_kept.Goals as goal

pub returns : goal.returns
returns c = c.unwrap_or.ensures ∙ kept_by c.args.hz c.args.clock c.word_of.result c.word_of.ensures
