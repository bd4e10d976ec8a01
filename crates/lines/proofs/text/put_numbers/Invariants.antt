-- After so many turns the text of the first numbers is stored.
use Rattle.std.proofs.Common.{◌*◌, take}
use Rattle.lines.specs.Lines.{numbers_text}
use Rattle.lines.specs.Inside.{Stored}
use Rattle.lines.proofs.text.put_numbers.Given as goal

abbrev pub invariant-loop-n : goal.invariant-loop-n
invariant-loop-n l = Stored (21 * l.n-index) l.initial.buf l.at (numbers_text (take l.n-index l.ns)) l.buf l.to
