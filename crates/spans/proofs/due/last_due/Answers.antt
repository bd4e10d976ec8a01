-- By how many bytes have come, of the head and of the packet.
use Rattle.std.proofs.Common.{Some, sym, ap, ◌∙◌}
use borrow.Author.Tests.{eq-eqb, ne_eqb}
use Rattle.heads.specs.declared.Head.{Head}
use Rattle.lines.specs.declared.Ending.TheVariants.{Refusal, Captures}
use Rattle.spans.specs.Eating.{head_of}
use Rattle.spans.specs.Inside.{due_now}
use Rattle.spans.proofs.Eats.{due_sized, due_is}
use Rattle.spans.proofs.due.last_due.Goals as goal

pub returns-then-t-eq0 : goal.returns-then-t-eq0
returns-then-t-eq0 c =
    let s = c.args.s in
    let t = s.tally in
    let whole = sym c.lacks.ensures ∙ c.if-lacks.false in
    let due = c.ended_due.ensures ∙ ap (λ (x : Head). due_now x t (Some (Captures t.captures))) c.head_in-h.ensures in
    due_is due (rw (whole, eq-eqb _ 0 c.if-t-eq0.true)) (due_sized (head_of s) t _ (c.requires.1 whole) c.requires.0)

pub returns : goal.returns
returns c =
    let s = c.args.s in
    let t = s.tally in
    let whole = sym c.lacks.ensures ∙ c.if-lacks.false in
    let due = rw c.refusal_at.ensures at c.ended_due-2.ensures ∙ ap (λ (x : Head). due_now x t (Some (Refusal 30 t.begins))) c.head_in-h.ensures in
    due_is due (rw (whole, ne_eqb _ 0 c.if-t-eq0.false)) (due_sized (head_of s) t _ (c.requires.1 whole) c.requires.0)
