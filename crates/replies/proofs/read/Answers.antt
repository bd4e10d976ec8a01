-- 15 is checked first, then 16, then NAK.
use Rattle.std.proofs.Common.{sym, ◌∙◌}
use Rattle.replies.proofs.Answers.{read_closed, read_refused, read_nak}
use Rattle.replies.proofs.read.Goals as goal

pub returns-then-not-is_open : goal.returns-then-not-is_open
returns-then-not-is_open c = read_closed c.args.w c.args.bytes.now (sym c.is_open.ensures ∙ c.if-not-is_open.true)

pub returns-then-not-is_allowed : goal.returns-then-not-is_allowed
returns-then-not-is_allowed c =
    read_refused c.args.w c.args.bytes.now (sym c.is_open.ensures ∙ c.if-not-is_open.false) (sym c.is_allowed.ensures ∙ c.if-not-is_allowed.true)

pub returns-then-is_nak : goal.returns-then-is_nak
returns-then-is_nak c =
    read_nak c.args.w c.args.bytes.now (sym c.is_open.ensures ∙ c.if-not-is_open.false)
    (sym c.is_allowed.ensures ∙ c.if-not-is_allowed.false) (sym c.is_nak.ensures ∙ c.if-is_nak.true)
