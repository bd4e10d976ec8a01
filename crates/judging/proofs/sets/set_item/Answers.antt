-- An item that is not one of the readers' stores nothing.
use Rattle.std.proofs.Common.{rules}
use Rattle.judging.proofs.Parts.{set_else}
use Rattle.judging.proofs.sets.set_item.Goals as goal

pub returns-in_default : goal.returns-in_default
returns-in_default c = search (rules, set_else)
