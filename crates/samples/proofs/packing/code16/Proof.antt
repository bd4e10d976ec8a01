-- `samples::packing::code16` meets its contract: the shift rounds down, and what is sent of a sample is lifted as in `code24`, by
-- half a turn of 2 ^ 16.
use Prim.Native.Nat.{◌<◌}
use mathlib.Core.Path.{◌≡◌, refl, ap, ◌∙◌}
use mathlib.Core.Bool.{true}
use native.Mathlib.Omega.{arith}
use borrow.Author.Rules.{rules, sfits_of}
use lib.IntN.{ℤ, pos, ◌+ℤ◌}
use lib.ListN.{get_or}
use lib.Signed.{mag, le_z, shr_z}
use mir.Syntax.{w32}
use mir.Val.{to_z, of_z}
use mir.Facts.{to_z-of_z}
use Rattle.wire.specs.Signed.{minus, coded}
use Rattle.packets.specs.Samples.{is_sample, at_most, rounded, narrowed}
use Rattle.samples.proofs.Codes.{lifted, lifted_below, half_fits, half_is, turned}
use Rattle.samples.proofs.Codes.{raised_fits, rounded_fits, rounded_low, sixteen_small}
use Rattle.samples.proofs.Written.{sample_at_lem}
use Rattle.samples.proofs.packing.code16.Statement.{statement}
use Rattle.samples.proofs.packing.code16.Tie as tie

-- the sample
abbrev sample : tie.After-hold16-arg-1 → ℤ
sample c = get_or c.args.samples.now c.args.at (pos 0)

is_sample_lem : (c : tie.After-hold16-arg-1) → is_sample (sample c) ≡ true
is_sample_lem c = sample_at_lem c.args.samples.now c.args.at c.requires.0 c.requires.1

-- the sample, with 128 added, and divided, as the machine has them
itself : (c : tie.After-hold16-arg-1) → to_z w32 (of_z w32 (sample c)) ≡ sample c
itself c = to_z-of_z {w = w32} {z = sample c} (sfits_of c.hold16-arg-1.given)

raised : (c : tie.After-hold16-arg-1) → to_z w32 (of_z w32 (to_z w32 (of_z w32 (sample c)) +ℤ pos 128)) ≡ sample c +ℤ pos 128
raised c = rw (itself c) (to_z-of_z (raised_fits (sample c) (is_sample_lem c)))

divided : (c : tie.After-hold16-arg-1)
    → to_z w32 (of_z w32 (shr_z (to_z w32 (of_z w32 (to_z w32 (of_z w32 (sample c)) +ℤ pos 128))) 256)) ≡ rounded 16 (sample c)
divided c = rw (raised c) (to_z-of_z (rounded_fits (sample c) (is_sample_lem c)))

-- what `hold16` gives is what is sent of the sample
sent_is : (c : tie.After-hold16-sent) → c.hold16-sent.result ≡ narrowed 16 (sample c.before)
sent_is c = c.hold16-sent.ensures ∙ ap (at_most 32_767) (divided c.before)

small : (c : tie.After-hold16-sent) → mag c.hold16-sent.result < 32_768
small c = rw (sent_is c) (sixteen_small (sample c.before) (is_sample_lem c.before))

-- and lifted by half a turn
above : (c : tie.After-hold16-sent)
    → to_z w32 (of_z w32 (to_z w32 (of_z w32 c.hold16-sent.result) +ℤ pos 32_768)) ≡ pos (lifted 32_768 c.hold16-sent.result)
above c = half_is 32_768 c.hold16-sent.result (small c) (omega arith)

mul-hold16 : tie.Need-offset_bounds-samples-at
mul-hold16 c = search rules

shared-slice-copy-out-hold16 : tie.Need-bounds-samples-at
shared-slice-copy-out-hold16 c = search rules

add-hold16 : tie.Need-overflow_add-samples
add-hold16 c = rw (itself c) (raised_fits (sample c) (is_sample_lem c))

hold16-requires : tie.Need-hold16-sent-requires
hold16-requires c κs = ap (le_z (minus 32_768)) (divided c) ∙ rounded_low (sample c) (is_sample_lem c)

add-above : tie.Need-overflow_add-above
add-above c = half_fits 32_768 c.hold16-sent.result (small c) (omega arith)

cast-above : tie.Need-overflow_cast-above
cast-above c = rw (above c) (tt, omega (arith, lifted_below 32_768 c.hold16-sent.result (small c)))

add-result : tie.Need-overflow_add-result
add-result c = rw (above c) (omega (arith, lifted_below 32_768 c.hold16-sent.result (small c)))

cast-result : tie.Need-overflow_cast-result
cast-result c = search rules

returns : tie.Need-returns
returns c = rw (above c) (turned 16 32_768 refl c.hold16-sent.result (small c) ∙ ap (coded 16) (sent_is c))

pub code16_spec : {M : Type 1} → statement M
code16_spec =
    tie.close
    (tie.spec
    mul-hold16
    shared-slice-copy-out-hold16
    add-hold16
    hold16-requires
    add-above
    cast-above
    add-result
    cast-result
    returns)
