-- One behind the other.
use Rattle.wire.specs.Number.{bytes}
use Rattle.wire.proofs.Stores.{sets_then}
use borrow.Author.Rules.{rules}
use Rattle.heads.proofs.writing.put_rest.Statement.{statement}
use Rattle.heads.proofs.writing.put_rest.Tie as tie

put-requires : tie.Need-put-requires
put-requires c κs = search rules

put-requires-2 : tie.Need-put-requires-2
put-requires-2 c κs = search rules

same_length : tie.Need-shape_of-out
same_length c = search rules

returns : tie.Need-returns
returns c =
    let second = c in
    let first = second in
    let a = first.args in
    sets_then a.out.now 0 (bytes 8 a.serial) (bytes 4 a.clock) first.put.ensures second.put-2.ensures

pub put_rest_spec : {M : Type 1} → statement M
put_rest_spec = tie.close (tie.spec put-requires put-requires-2 same_length returns)
