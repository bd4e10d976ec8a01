-- Each arm knows what comes last.
use Rattle.std.proofs.Common.{arith}
use Rattle.lines.specs.Lines.{refusal_line, end_line}
use Rattle.lines.proofs.Texts.{stored_within}
use Rattle.lines.proofs.Dues.{one_line}
use Rattle.lines.proofs.telling.put_ending.Goals as goal

pub returns-in-Refusal : goal.returns-in-Refusal
returns-in-Refusal c = rw c.in-Refusal.is (one_line (refusal_line _ _) c.put_line.ensures)

pub returns-in-Captures : goal.returns-in-Captures
returns-in-Captures c =
    rw c.in-Captures.is (stored_within 44 (omega arith) (one_line (end_line _) c.put_line-in-Captures.ensures))
