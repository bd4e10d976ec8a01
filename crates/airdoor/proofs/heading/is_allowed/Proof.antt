-- The two tests.
use borrow.Author.Rules.{rules}
use Rattle.airdoor.proofs.heading.is_allowed.Statement.{statement}
use Rattle.airdoor.proofs.heading.is_allowed.Tie as tie

is-mode-requires : tie.Need-is_mode-requires
is-mode-requires c κs = search rules

is-setup-requires : tie.Need-is_setup-requires
is-setup-requires c κs = search rules

returns : tie.Need-returns
returns c = rw (c.is_mode.ensures, c.is_setup.ensures)

pub is_allowed_spec : {M : Type 1} → statement M
is_allowed_spec = tie.close (tie.spec is-mode-requires is-setup-requires returns)
