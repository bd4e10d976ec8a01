-- The word, the numbers and the line's end, one behind the other.
use Rattle.lines.proofs.Texts.{line_stored}
use Rattle.lines.proofs.text.put_line.Goals as goal

pub returns : goal.returns
returns c = line_stored _ _ _ _ _ _ _ _ c.copy.ensures c.put_numbers-to.ensures c.put.ensures
