-- The number of eight bytes has these bytes, and a zero byte after them.
use Rattle.answers.proofs.Values.{serial_bytes}
use borrow.Author.Rules.{rules}
use Rattle.answers.proofs.value.serial_value.Statement.{statement}
use Rattle.answers.proofs.value.serial_value.Tie as tie

number-at-requires : tie.Need-number_at-requires
number-at-requires c κs = search rules

returns : tie.Need-returns
returns c =
    let s = c in
    serial_bytes s.args.serial.now s.requires (λ k. (c.shared_slice_known-1.given k).fits)
    c.number_at.result c.number_at.ensures

pub serial_value_spec : {M : Type 1} → statement M
serial_value_spec = tie.close (tie.spec number-at-requires returns)
