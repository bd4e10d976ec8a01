-- 02 is the second, any other byte the first.
use mathlib.Core.Path.{refl}
use borrow.Author.Tests.{ne_eqb}
use Rattle.channels.proofs.channel_at.Statement.{statement}
use Rattle.channels.proofs.channel_at.Tie as tie

returns : tie.Need-returns-then-byte-eq-SECOND
returns c = rw c.if-byte-eq-SECOND.true refl

returns-2 : tie.Need-returns
returns-2 c = rw (ne_eqb _ 2 c.if-byte-eq-SECOND.false) refl

pub channel_at_spec : {M : Type 1} → statement M
channel_at_spec = tie.close (tie.spec returns returns-2)
