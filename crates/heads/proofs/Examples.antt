-- The examples hold of the definitions, all of them by one computation over the table.
use lib.Dec.{T}
use Rattle.heads.specs.Head.{head_bytes, allowed_head, head_read_code, head_write_code}
use Rattle.heads.specs.Moving.{moving_code}
use Rattle.heads.specs.Examples.{examples, all_so}

pub examples_hold : T (all_so examples)
unfolding head_bytes allowed_head head_read_code head_write_code moving_code
examples_hold = tt
