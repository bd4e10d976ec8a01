use borrow.Author.Rules.{rules}
use Rattle.heads.proofs.allowed.is_head_serial.Statement.{statement}
use Rattle.heads.proofs.allowed.is_head_serial.Tie as tie

is-serial-requires : tie.Need-is_serial-requires
is-serial-requires c κs = search rules

returns : tie.Need-returns
returns c = rw c.is_serial.ensures

pub is_head_serial_spec : {M : Type 1} → statement M
is_head_serial_spec = tie.close (tie.spec is-serial-requires returns)
