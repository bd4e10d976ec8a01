-- A slice whose header is not its length's own is no packet.
use Rattle.std.proofs.Common.{sym, ◌∙◌}
use borrow.Author.Tests.{ne_eqb}
use Rattle.packets.proofs.Forms.{whole_found}
use Rattle.packets.proofs.whole.Goals as goal

pub returns-else-two_at-total : goal.returns-else-two_at-total
returns-else-two_at-total c =
    sym (whole_found c.args.packet.now ∙ rw (ne_eqb _ _ (λ e. c.if-two_at-total.false (c.two_at.ensures ∙ e))))
