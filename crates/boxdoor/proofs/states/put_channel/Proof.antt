-- `boxdoor::states::put_channel` meets its contract: three fields, one behind the other.
use Rattle.boxdoor.proofs.Fields.{channel_stored}
use borrow.Author.Rules.{rules}
use Rattle.boxdoor.proofs.states.put_channel.Statement.{statement}
use Rattle.boxdoor.proofs.states.put_channel.Tie as tie

put-requires : tie.Need-put-requires
put-requires c κs = search rules

add-put : tie.Need-overflow_add-at
add-put c = search rules

cast-put : tie.Need-overflow_cast-c
cast-put c = search rules

put-requires-2 : tie.Need-put-requires-2
put-requires-2 c κs = search rules

add-put-2 : tie.Need-overflow_add-at-2
add-put-2 c = search rules

cast-put-2 : tie.Need-overflow_cast-c-2
cast-put-2 c = search rules

put-requires-3 : tie.Need-put-requires-3
put-requires-3 c κs = search rules

same_length : tie.Need-shape_of-b
same_length c = search rules

returns : tie.Need-returns
returns c =
    let third = c in
    let second = third in
    let first = second in
    channel_stored _ _ _ _ _ _ first.put.ensures second.put-2.ensures third.put-3.ensures

pub put_channel_spec : {M : Type 1} → statement M
put_channel_spec =
    tie.close
    (tie.spec
    put-requires
    add-put
    cast-put
    put-requires-2
    add-put-2
    cast-put-2
    put-requires-3
    same_length
    returns)
