use mathlib.Core.Path.{ap, ◌∙◌}
use Rattle.heads.specs.Head.{head_length}
use borrow.Author.Rules.{rules}
use Rattle.heads.proofs.reading.head_length_in.Statement.{statement}
use Rattle.heads.proofs.reading.head_length_in.Tie as tie

version-in-requires : tie.Need-version_in-requires
version-in-requires c κs = search rules

head-length-requires : tie.Need-head_length-requires
head-length-requires c κs = search rules

returns : tie.Need-returns
returns c = c.head_length.ensures ∙ ap head_length c.version_in.ensures

pub head_length_in_spec : {M : Type 1} → statement M
head_length_in_spec = tie.close (tie.spec version-in-requires head-length-requires returns)
