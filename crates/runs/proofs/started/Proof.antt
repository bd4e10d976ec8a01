-- The settings are those of a fresh box, but that it runs, with the mode, the size and the channel setup.
use borrow.Author.Rules.{rules}
use Rattle.runs.proofs.started.Statement.{statement}
use Rattle.runs.proofs.started.Tie as tie

session-box-requires : tie.Need-session_box-station-requires
session-box-requires c κs = search rules

returns : tie.Need-returns
returns c = rw c.session_box-station.ensures

pub started_spec : {M : Type 1} → statement M
started_spec = tie.close (tie.spec session-box-requires returns)
