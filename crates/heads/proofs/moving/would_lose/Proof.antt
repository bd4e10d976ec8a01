use borrow.Author.Rules.{rules}
use Rattle.heads.proofs.moving.would_lose.Statement.{statement}
use Rattle.heads.proofs.moving.would_lose.Tie as tie

is-bare-requires : tie.Need-is_bare-requires
is-bare-requires c κs = search rules

returns : tie.Need-returns
returns c = rw c.is_bare.ensures

pub would_lose_spec : {M : Type 1} → statement M
would_lose_spec = tie.close (tie.spec is-bare-requires returns)
