-- Each field is below its power of 256, so the casts lose nothing.
use Prim.Native.Nat.{ℕ, ◌<◌, ◌^◌}
use mathlib.Core.Path.{ap, ◌∙◌}
use native.Mathlib.Omega.{arith}
use lib.Dec.{eqb}
use Rattle.wire.specs.Choice.{pick}
use Rattle.wire.specs.Number.{field}
use Rattle.wire.proofs.Numbers.{field_below}
use Rattle.heads.specs.Head.{unknown, nominal}
use borrow.Author.Rules.{rules}
use Rattle.heads.proofs.reading.head_in.Statement.{statement}
use Rattle.heads.proofs.reading.head_in.Tie as tie

below : (c : tie.After-shared_slice_known-1) (at n : ℕ) → field at n c.args.s.now < 256 ^ n
below c at n = field_below at n _ (λ k. omega (arith, c.shared_slice_known-1.given k))

version-in-requires : tie.Need-version_in-version-requires
version-in-requires c κs = search rules

number-at-requires : tie.Need-number_at-requires
number-at-requires c κs = search rules

cast-t4 : tie.Need-overflow_cast-result
cast-t4 c = omega (arith, c.number_at.ensures, below c.before.before 5 2)

number-at-requires-2 : tie.Need-number_at-requires-2
number-at-requires-2 c κs = search rules

number-at-requires-3 : tie.Need-number_at-requires-3
number-at-requires-3 c κs = search rules

cast-t7 : tie.Need-overflow_cast-result-2
cast-t7 c = omega (arith, c.number_at-3.ensures, below c.before.before.before.before 12 1)

number-at-requires-4 : tie.Need-number_at-requires-4
number-at-requires-4 c κs = search rules

cast-t9 : tie.Need-overflow_cast-result-3
cast-t9 c = omega (arith, c.number_at-4.ensures, below c.before.before.before.before.before 13 1)

serial-in-requires : tie.Need-serial_in-requires
serial-in-requires c κs = search rules

clock-in-requires : tie.Need-clock_in-requires
clock-in-requires c κs = search rules

returns : tie.Need-returns
returns c =
    let size = c in
    let mode = size in
    let frequency = mode in
    let divisor = frequency in
    let version = divisor in
    let s = version.args.s in
    let serial = c.serial_in.ensures
    ∙ ap (λ (v : ℕ). pick (eqb v 2) (field 14 8 s.now) unknown) version.version_in-version.ensures in
    let clock = c.clock_in.ensures ∙ ap (λ (v : ℕ). pick (eqb v 2) (field 22 4 s.now) nominal) version.version_in-version.ensures in
    rw (
      serial,
      clock,
      version.version_in-version.ensures,
      divisor.number_at.ensures,
      frequency.number_at-2.ensures,
      mode.number_at-3.ensures,
      size.number_at-4.ensures,
    )

pub head_in_spec : {M : Type 1} → statement M
head_in_spec =
    tie.close
    (tie.spec
    version-in-requires
    number-at-requires
    cast-t4
    number-at-requires-2
    number-at-requires-3
    cast-t7
    number-at-requires-4
    cast-t9
    serial-in-requires
    clock-in-requires
    returns)
