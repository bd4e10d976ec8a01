-- The byte where mode and setup are allowed, and else 16.
use mathlib.Core.Path.{◌≡◌, sym, ◌∙◌}
use mathlib.Core.Bool.{true, ◌&&◌}
use borrow.Author.Rules.{rules}
use Rattle.items.specs.Settings.{is_mode, is_setup}
use Rattle.airdoor.proofs.Modes.{head_mode_by}
use Rattle.airdoor.proofs.heading.skvornela_head_mode.Statement.{statement}
use Rattle.airdoor.proofs.heading.skvornela_head_mode.Tie as tie

-- mode and setup are allowed, from where the test has passed
allowed : (c : tie.Then-is_allowed) → (let a = c.args in (is_mode a.mode && is_setup a.setup) ≡ true)
allowed c = sym c.is_allowed.ensures ∙ c.if-is_allowed.true

is-allowed-requires : tie.Need-is_allowed-requires
is-allowed-requires c κs = search rules

channels-with-requires : tie.Need-channels_with-requires
channels-with-requires c κs = search rules

mode-with-requires : tie.Need-mode_with-requires
mode-with-requires c κs = search rules

returns : tie.Need-returns-then-is_allowed
returns c =
    let tested = c in
    let a = tested.args in
    rw (c.mode_with.ensures, c.channels_with.ensures) (sym (head_mode_by a.mode a.setup (allowed tested.before.before)))

returns-2 : tie.Need-returns
returns-2 c =
    let a = c.args in
    sym (head_mode_by a.mode a.setup (sym c.is_allowed.ensures ∙ c.if-is_allowed.false))

pub skvornela_head_mode_spec : {M : Type 1} → statement M
skvornela_head_mode_spec =
    tie.close (tie.spec is-allowed-requires channels-with-requires mode-with-requires returns returns-2)
