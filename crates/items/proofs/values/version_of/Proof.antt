-- `items::values::version_of` meets its contract: the table's four rows, and nothing past them.
use Prim.Native.Nat.{ℕ, zero, suc, ◌≤◌, ◌<◌}
use mathlib.Core.Path.{◌≡◌, refl, sym, ap, ◌∙◌}
use mathlib.Core.List.{[], ◌∷◌}
use native.Mathlib.Omega.{arith}
use lib.ListN.{get_or}
use lib.ListN.{get_or-eq_default}
use borrow.Author.Rules.{rules}
use borrow.Author.Tests.{ltb-true, ltb-false}
use Rattle.wire.specs.Number.{number}
use Rattle.items.specs.Items.{version_table}
use Rattle.items.proofs.values.version_of.Statement.{statement}
use Rattle.items.proofs.values.version_of.Tie as tie

row : (id : ℕ) → id < 4 → get_or (0x0064 ∷ 0x006B ∷ 0x0066 ∷ 0x0701 ∷ []) id 0 ≡ number (get_or version_table id [])
row zero h = refl
row (suc zero) h = refl
row (suc (suc zero)) h = refl
row (suc (suc (suc zero))) h = refl
row (suc (suc (suc (suc n)))) h = absurd (omega arith)

is-version-requires : tie.Need-is_version-requires
is-version-requires c κs = search rules

-- an id of a version is below four
below : (c : tie.Then-is_version) → c.args.id < 4
below c = ltb-true c.args.id 4 (sym c.is_version.ensures ∙ c.if-is_version.true)

mul-result : tie.Need-offset_bounds-id
mul-result c = search rules

array-read-result : tie.Need-bounds-id
array-read-result c = omega (arith, below c.before)

returns : tie.Need-returns-then-is_version
returns c = row c.args.id (below c.before.before)

returns-2 : tie.Need-returns
returns-2 c =
    let id = c.args.id in
    let past : 4 ≤ id = ltb-false id 4 (sym c.is_version.ensures ∙ c.if-is_version.false) in
    sym (ap number (get_or-eq_default version_table [] past))

pub version_of_spec : {M : Type 1} → statement M
version_of_spec =
    tie.close (tie.spec is-version-requires mul-result array-read-result returns returns-2)
