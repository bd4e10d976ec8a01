-- Six fields fill the 34 bytes.
use Rattle.harvestdoor.proofs.Fields.{reader_stored}
use borrow.Author.Rules.{rules}
use Rattle.harvestdoor.proofs.states.put_reader.Statement.{statement}
use Rattle.harvestdoor.proofs.states.put_reader.Tie as tie

put-requires : tie.Need-put-requires
put-requires c κs = search rules

put-requires-2 : tie.Need-put-requires-2
put-requires-2 c κs = search rules

put-requires-3 : tie.Need-put-requires-3
put-requires-3 c κs = search rules

put-requires-4 : tie.Need-put-requires-4
put-requires-4 c κs = search rules

cast-put : tie.Need-overflow_cast-r
cast-put c = search rules

put-requires-5 : tie.Need-put-requires-5
put-requires-5 c κs = search rules

cast-put-2 : tie.Need-overflow_cast-r-2
cast-put-2 c = search rules

put-requires-6 : tie.Need-put-requires-6
put-requires-6 c κs = search rules

same_length : tie.Need-shape_of-b
same_length c = search rules

returns : tie.Need-returns
returns c =
    let sixth = c in
    let fifth = sixth in
    let fourth = fifth in
    let third = fourth in
    let second = third in
    let first = second in
    let start = first in
    reader_stored start.args.r start.args.b.now _ _ _ _ _ _ start.requires
    first.put.ensures second.put-2.ensures third.put-3.ensures fourth.put-4.ensures
    fifth.put-5.ensures sixth.put-6.ensures

pub put_reader_spec : {M : Type 1} → statement M
put_reader_spec =
    tie.close
    (tie.spec
    put-requires
    put-requires-2
    put-requires-3
    put-requires-4
    cast-put
    put-requires-5
    cast-put-2
    put-requires-6
    same_length
    returns)
