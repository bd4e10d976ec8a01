use Rattle.std.proofs.Common.{refl}
use Rattle.lines.specs.Lines.{decimal, digits_in}
use Rattle.moves.proofs.ToVersion2Way.moved.Goals as goal

pub returns : goal.returns
unfolding decimal digits_in
returns c = refl
