-- Each number is a field of the bytes.
use Rattle.harvestdoor.specs.States.{reader_in}
use borrow.Author.Rules.{rules}
use Rattle.harvestdoor.proofs.states.reader_in.Statement.{statement}
use Rattle.harvestdoor.proofs.states.reader_in.Tie as tie

shared-slice-read-t3 : tie.Need-bounds-b-32
shared-slice-read-t3 c = search rules

shared-slice-read-t6 : tie.Need-bounds-b-33
shared-slice-read-t6 c = search rules

number-at-requires : tie.Need-number_at-requires
number-at-requires c κs = search rules

number-at-requires-2 : tie.Need-number_at-requires-2
number-at-requires-2 c κs = search rules

number-at-requires-3 : tie.Need-number_at-requires-3
number-at-requires-3 c κs = search rules

number-at-requires-4 : tie.Need-number_at-requires-4
number-at-requires-4 c κs = search rules

returns : tie.Need-returns
unfolding reader_in
returns c =
    let third = c in
    let second = third in
    rw (second.number_at.ensures, second.number_at-2.ensures, third.number_at-3.ensures, c.number_at-4.ensures)

pub reader_in_spec : {M : Type 1} → statement M
reader_in_spec =
    tie.close
    (tie.spec
    shared-slice-read-t3
    shared-slice-read-t6
    number-at-requires
    number-at-requires-2
    number-at-requires-3
    number-at-requires-4
    returns)
