-- What is written is the moved head, and the rest of the first bytes.
use Rattle.std.proofs.Common.{arith}
use Rattle.moves.proofs.Firsts.{head_inside}
use Rattle.moves.proofs.write_moved.Goals as goal

pub slice_bounds-write_first-count : goal.slice_bounds-write_first-count
slice_bounds-write_first-count g c = omega (arith, c.head_length_in-behind.ensures, head_inside _ _ 26 c.requires.0.moves)

pub slice_bounds-write_first-start : goal.slice_bounds-write_first-start
slice_bounds-write_first-start g c = omega (arith, c.head_length_in-behind.ensures, head_inside _ _ 26 c.requires.0.moves)
