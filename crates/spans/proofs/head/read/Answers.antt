use Rattle.std.proofs.Common.{◌∙◌}
use Rattle.heads.proofs.Codes.{said_code, code_said}
use Rattle.spans.proofs.head.read.Goals as goal

pub returns : goal.returns
returns c = said_code c.read_head.result ∙ code_said c.read_head.result c.args.s.now c.read_head.ensures
