-- `samples::packing::code24` meets its contract: a sample lifted by half a turn of 2 ^ 24 is whole, and half a turn more
-- gives its 24 bits.
use Prim.Native.Nat.{◌<◌}
use mathlib.Core.Path.{◌≡◌, refl}
use mathlib.Core.Bool.{true}
use native.Mathlib.Omega.{arith}
use borrow.Author.Rules.{rules}
use lib.IntN.{ℤ, pos, ◌+ℤ◌}
use lib.ListN.{get_or}
use lib.Signed.{mag}
use mir.Syntax.{w32}
use mir.Val.{to_z, of_z}
use Rattle.packets.specs.Samples.{is_sample}
use Rattle.packets.proofs.Narrowed.{sample_small, narrowed_24}
use Rattle.samples.proofs.Codes.{lifted, lifted_below, half_fits, half_is, turned}
use Rattle.samples.proofs.Written.{sample_at_lem}
use Rattle.samples.proofs.packing.code24.Statement.{statement}
use Rattle.samples.proofs.packing.code24.Tie as tie

abbrev sample : tie.After-above-1 → ℤ
sample c = get_or c.args.samples.now c.args.at (pos 0)

is_sample_lem : (c : tie.After-above-1) → is_sample (sample c) ≡ true
is_sample_lem c = sample_at_lem c.args.samples.now c.args.at c.requires.0 c.requires.1

small : (c : tie.After-above-1) → mag (sample c) < 8_388_608
small c = sample_small (sample c) (is_sample_lem c)

above : (c : tie.After-above-1) → to_z w32 (of_z w32 (to_z w32 (of_z w32 (sample c)) +ℤ pos 8_388_608)) ≡ pos (lifted 8_388_608 (sample c))
above c = half_is 8_388_608 (sample c) (small c) (omega arith)

mul-above : tie.Need-offset_bounds-samples-at
mul-above c = search rules

shared-slice-copy-out-above : tie.Need-bounds-samples-at
shared-slice-copy-out-above c = search rules

add-above : tie.Need-overflow_add-above
add-above c = half_fits 8_388_608 (sample c) (small c) (omega arith)

cast-above : tie.Need-overflow_cast-above
cast-above c = rw (above c) (tt, omega (arith, lifted_below 8_388_608 (sample c) (small c)))

add-result : tie.Need-overflow_add-result
add-result c = rw (above c) (omega (arith, lifted_below 8_388_608 (sample c) (small c)))

returns : tie.Need-returns
returns c = rw (above c, narrowed_24 (sample c) (is_sample_lem c)) (turned 24 8_388_608 refl (sample c) (small c), omega arith)

pub code24_spec : {M : Type 1} → statement M
code24_spec = tie.close (tie.spec mul-above shared-slice-copy-out-above add-above cast-above add-result returns)
