use Rattle.std.proofs.Common.{◌∙◌}
use Rattle.headwords.proofs.Words.{same_is}
use Rattle.headwords.proofs.is_same.Goals as goal

pub returns : goal.returns
returns c = c.eq.ensures ∙ same_is c.args.word.now c.args.other.now
