-- The header's two bytes, and the eight behind it.
use Rattle.framing.proofs.FirstTen.{by_fields}
use Rattle.framing.proofs.first_ten.Goals as goal

pub returns : goal.returns
returns c =
    rw (c.put-2.ensures, c.put.ensures, c.number_at-2.ensures, c.number_at.ensures)
    (by_fields c.args.host.now (λ k. (c.type_inv.host k).fits))
