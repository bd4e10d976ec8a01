-- `boxdoor::states::channel_at` meets its contract: each number is a field of the bytes.
use Prim.Native.Nat.{ℕ, ◌+◌, ◌<◌}
use lib.ListN.{get_or}
use Rattle.wire.proofs.Numbers.{field_below}
use mathlib.Core.Path.{refl}
use native.Mathlib.Omega.{arith}
use borrow.Author.Rules.{rules}
use Rattle.boxdoor.proofs.states.channel_at.Statement.{statement}
use Rattle.boxdoor.proofs.states.channel_at.Tie as tie

-- what is lent is bytes
are_bytes_lem : (c : tie.After-shared_slice_known-1) (k : ℕ) → get_or c.args.b.now k 0 < 256
are_bytes_lem c k = omega (arith, c.shared_slice_known-1.given k)

number-at-requires : tie.Need-number_at-requires
number-at-requires c κs = search rules

add-number-at : tie.Need-overflow_add-at
add-number-at c = search rules

number-at-requires-2 : tie.Need-number_at-requires-2
number-at-requires-2 c κs = search rules

cast-t6 : tie.Need-overflow_cast-result
cast-t6 c =
    let lent = c in
    let a = lent.args in
    omega (arith, c.number_at-2.ensures, field_below (a.at + 8) 4 a.b.now (are_bytes_lem lent.before.before))

add-t7 : tie.Need-overflow_add-result
add-t7 c = search rules

shared-slice-read-t9 : tie.Need-bounds-b-at
shared-slice-read-t9 c = search rules

cast-t10 : tie.Need-overflow_cast-result-2
cast-t10 c =
    let lent = c in
    omega (arith, are_bytes_lem lent.before.before.before (lent.args.at + 12))

returns : tie.Need-returns
returns c = rw (c.number_at.ensures, c.number_at-2.ensures) refl

pub channel_at_spec : {M : Type 1} → statement M
channel_at_spec =
    tie.close
    (tie.spec
    number-at-requires
    add-number-at
    number-at-requires-2
    cast-t6
    add-t7
    shared-slice-read-t9
    cast-t10
    returns)
