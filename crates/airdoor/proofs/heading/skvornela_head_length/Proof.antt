-- A version that there is has a length.
use mathlib.Core.Path.{sym, ◌∙◌}
use borrow.Author.Rules.{rules}
use Rattle.airdoor.proofs.Modes.{length_by}
use Rattle.airdoor.proofs.heading.skvornela_head_length.Statement.{statement}
use Rattle.airdoor.proofs.heading.skvornela_head_length.Tie as tie

is-head-version-requires : tie.Need-is_head_version-requires
is-head-version-requires c κs = search rules

head-length-requires : tie.Need-head_length-requires
head-length-requires c κs = search rules

returns : tie.Need-returns-then-is_head_version
returns c =
    let told = c in
    let version = told.args.version in
    c.head_length.ensures ∙ sym (length_by version (sym told.is_head_version.ensures ∙ c.if-is_head_version.true))

returns-2 : tie.Need-returns
returns-2 c =
    let told = c in
    sym (length_by told.args.version (sym told.is_head_version.ensures ∙ c.if-is_head_version.false))

pub skvornela_head_length_spec : {M : Type 1} → statement M
skvornela_head_length_spec =
    tie.close (tie.spec is-head-version-requires head-length-requires returns returns-2)
