-- The four bytes are the low ones of the number.
use Rattle.std.proofs.Common.{◌≡◌, ◌+◌, ◌-◌, ◌%◌, refl, ap, ◌∙◌, arith}
use lib.Seq.{sets}
use Rattle.std.specs.Int.{w32, to_le_bytes}
use Rattle.wire.proofs.Stores.{mid_whole}
use Rattle.wire.proofs.Words.{le_four}
use Rattle.wire.proofs.number.put_word.Goals as goal

pub returns : goal.returns
returns c =
    let a = c.args in
    let four : a.at + 4 - a.at ≡ 4 = omega arith in
    rw (four, c.copy_from_slice.ensures.after, c.to_le_bytes.ensures)
    (mid_whole a.at 4 a.dst.now (to_le_bytes w32 (a.v % 4294967296)) refl (omega (arith, c.requires)) ∙ ap (sets a.dst.now a.at) (le_four a.v))
