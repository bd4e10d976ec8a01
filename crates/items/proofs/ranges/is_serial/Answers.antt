-- The bytes of a number below 256 ^ 8: there is no ninth.
use Rattle.std.proofs.Common.{◌^◌, ◌<◌, ap, ◌∙◌, arith}
use mathlib.Core.Bool.{and-true}
use borrow.Author.Tests.{lt-ltb}
use Rattle.items.specs.Settings.{all_serial}
use Rattle.items.proofs.Serials.{le_bytes}
use Rattle.items.proofs.ranges.is_serial.Goals as goal

pub returns : goal.returns
returns c =
    let n = c.args.n in
    let fits : n < 256 ^ 8 = omega arith in
    rw (lt-ltb n (256 ^ 8) fits, and-true) (c.all_serial.ensures ∙ ap all_serial (c.to_le_bytes.ensures ∙ le_bytes n))
