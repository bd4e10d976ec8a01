-- A space, and then the digits that `decimal` made.
use Rattle.std.proofs.Common.{sym, arith}
use Rattle.std.proofs.Math.Seq.{length-take-le}
use Rattle.lines.proofs.Texts.{few_digits, number_stored}
use Rattle.lines.proofs.text.put_number.Goals as goal

pub returns : goal.returns
returns c =
    let digits = c.decimal-k.ensures in
    let few = few_digits c.args.n c.decimal-k.result (omega arith) digits.len in
    number_stored _ _ _ _ _ _ _ c.put.ensures c.copy.ensures (sym (length-take-le _ _ (omega (arith, digits.in_bounds)))) few digits.len digits.digits
