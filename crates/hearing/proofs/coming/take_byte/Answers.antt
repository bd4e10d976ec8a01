-- Field by field.
use Rattle.hearing.specs.Hearing.{taking_byte}
use Rattle.hearing.proofs.coming.take_byte.Goals as goal

pub returns : goal.returns
unfolding taking_byte
returns c = rw (c.field_with.ensures, c.field_with-2.ensures)
