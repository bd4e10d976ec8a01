-- Two where the second channel is open.
use mathlib.Core.Path.{sym, ◌∙◌}
use borrow.Author.Rules.{rules}
use Rattle.airdoor.proofs.Modes.{open_by}
use Rattle.airdoor.proofs.heading.channels_with.Statement.{statement}
use Rattle.airdoor.proofs.heading.channels_with.Tie as tie

is-open-requires : tie.Need-is_open-requires
is-open-requires c κs = search rules

returns : tie.Need-returns-then-is_open
returns c = sym (open_by c.args.setup (sym c.is_open.ensures ∙ c.if-is_open.true))

returns-2 : tie.Need-returns
returns-2 c = sym (open_by c.args.setup (sym c.is_open.ensures ∙ c.if-is_open.false))

pub channels_with_spec : {M : Type 1} → statement M
channels_with_spec = tie.close (tie.spec is-open-requires returns returns-2)
