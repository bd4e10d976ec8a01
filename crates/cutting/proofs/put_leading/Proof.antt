-- `cutting::put_leading` meets its contract: header and number are below 65,536, so that each has two bytes.
use Prim.Native.Nat.{◌/◌, ◌%◌}
use mathlib.Core.Path.{◌≡◌}
use native.Mathlib.Omega.{arith}
use borrow.Author.Rules.{rules}
use lib.ListN.{length-set}
use Rattle.cutting.proofs.put_leading.Statement.{statement}
use Rattle.cutting.proofs.put_leading.Tie as tie

cast-header-of : tie.Need-overflow_cast-total
cast-header-of c = search rules

header-of-requires : tie.Need-header_of-header-requires
header-of-requires c κs = search rules

number-at-position-requires : tie.Need-number_at_position-number-requires
number-at-position-requires c κs = search rules

cast-packet : tie.Need-overflow_cast-packet
cast-packet c = search rules

slice-write-packet : tie.Need-bounds-packet-0
slice-write-packet c = search rules

cast-packet-2 : tie.Need-overflow_cast-packet-2
cast-packet-2 c = search rules

slice-write-packet-2 : tie.Need-bounds-packet-1
slice-write-packet-2 c = simp length-set (omega arith)

cast-packet-3 : tie.Need-overflow_cast-packet-3
cast-packet-3 c = search rules

slice-write-packet-3 : tie.Need-bounds-packet-2
slice-write-packet-3 c = simp length-set (omega arith)

cast-packet-4 : tie.Need-overflow_cast-packet-4
cast-packet-4 c = search rules

slice-write-packet-4 : tie.Need-bounds-packet-3
slice-write-packet-4 c = search rules

same_length : tie.Need-shape_of-packet
same_length c = search rules

returns : tie.Need-returns
returns c =
    let header = c.header_of-header.result in
    let number = c.number_at_position-number.result in
    let first : header / 256 ≡ header / 256 % 256 = omega arith in
    let second : number / 256 ≡ number / 256 % 256 = omega arith in
    rw (first, second, c.header_of-header.ensures, c.number_at_position-number.ensures)

pub put_leading_spec : {M : Type 1} → statement M
put_leading_spec =
    tie.close
    (tie.spec
    cast-header-of
    header-of-requires
    number-at-position-requires
    cast-packet
    slice-write-packet
    cast-packet-2
    slice-write-packet-2
    cast-packet-3
    slice-write-packet-3
    cast-packet-4
    slice-write-packet-4
    same_length
    returns)
