use borrow.Author.Rules.{rules}
use Rattle.heads.proofs.allowed.names_well.Statement.{statement}
use Rattle.heads.proofs.allowed.names_well.Tie as tie

is-head-serial-requires : tie.Need-is_head_serial-requires
is-head-serial-requires c κs = search rules

is-clock-requires : tie.Need-is_clock-requires
is-clock-requires c κs = search rules

returns : tie.Need-returns
returns c = rw (c.is_head_serial.ensures, c.is_clock.ensures)

pub names_well_spec : {M : Type 1} → statement M
names_well_spec = tie.close (tie.spec is-head-serial-requires is-clock-requires returns)
