use Rattle.std.proofs.Common.{ℕ, ◌<◌, ◌≡◌, length, sym, ap, get_or, arith}
use mathlib.Core.Path.{◌∙◌}
use Rattle.items.specs.Settings.{holds_serial}
use Rattle.headwords.proofs.Words.{holds_there, serial_by}
use Rattle.headwords.proofs.serial_of.Goals as goal

pub returns : goal.returns
returns c =
    let word = c.args.word.now in
    let small : (k : ℕ) → get_or word k 0 < 256 = λ k. omega (arith, c.type_inv.word k) in
    let eight : length word ≡ 8 = omega arith in
    let good = c.is_serial.ensures ∙ ap holds_serial c.number_at-n.ensures ∙ holds_there word small eight in
    c.then_some.ensures ∙ serial_by word (sym c.is_same.ensures ∙ c.if-is_same.false) c.number_at-n.ensures good
