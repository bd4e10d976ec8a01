-- The text is made in a buffer of its own, and copied where it fits.
use Rattle.std.proofs.Common.{length, sym, ap, ◌∙◌, arith}
use Rattle.std.proofs.lemmas.List.Edits.{sets}
use Rattle.lines.specs.Lines.{text_of}
use Rattle.lines.specs.Due.{due_lines}
use Rattle.lines.proofs.Dues.{taken_back, telling_short, telling_whole, telling_refused, telling_sized}
use Rattle.lines.proofs.telling.tell.Goals as goal

pub returns-then-not-is_sized : goal.returns-then-not-is_sized
returns-then-not-is_sized c =
    let a = c.args in
    let says = telling_refused a.d (length a.out.now) (sym c.is_sized.ensures ∙ c.if-not-is_sized.true) in
    (rw says, rw says)

pub returns-then-out-n : goal.returns-then-out-n
returns-then-out-n c =
    let a = c.args in
    let n = length a.out.now in
    let says =
    telling_sized a.d n (sym c.is_sized.ensures ∙ c.if-not-is_sized.false)
    ∙ telling_short (text_of (due_lines a.d)) n _ c.put_due-n.ensures.ends c.if-out-n.true in
    (rw says, rw says)

pub returns : goal.returns
returns c =
    let a = c.args in
    let n = length a.out.now in
    let says =
    telling_sized a.d n (sym c.is_sized.ensures ∙ c.if-not-is_sized.false)
    ∙ telling_whole (text_of (due_lines a.d)) n _ c.put_due-n.ensures.ends c.if-out-n.false in
    (rw says, rw says (c.copy.ensures ∙ ap (sets a.out.now 0) (taken_back _ _ _ _ c.put_due-n.ensures (omega arith))))
