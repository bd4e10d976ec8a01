-- What the functions inside promise each other. Nothing of the documents rests on it.
use Rattle.std.specs.Prelude.{Result, Ok, Err}
use Rattle.wire.specs.Codes as Code
use Rattle.wire.specs.Refusal.{refusal_code}
use Rattle.wire.specs.declared.refusal.Refusal.{Refusal}
use Rattle.airdoor.specs.declared.shapes.Shape.{Shape as Found}
use Rattle.airdoor.specs.Shapes.{Shape, as_shape}

-- a shape that was found, or why there is none
abbrev pub shape_says : Result Found Refusal → Shape
shape_says (Ok s) = as_shape Code.done s.channels s.bits s.pairs s.numbers s.total
shape_says (Err e) = as_shape (refusal_code e) 0 0 0 0 0
