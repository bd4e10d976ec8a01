-- Three stores.
use mathlib.Core.Path.{ap, ◌∙◌}
use mathlib.Core.List.{List}
use Prim.Native.Nat.{ℕ}
use lib.Seq.{sets}
use Rattle.wire.specs.Number.{bytes}
use Rattle.harvestdoor.specs.Inside.{next_bytes}
use borrow.Author.Rules.{rules}
use Rattle.harvestdoor.proofs.states.put_next.Statement.{statement}
use Rattle.harvestdoor.proofs.states.put_next.Tie as tie

put-requires : tie.Need-put-requires
put-requires c κs = search rules

put-requires-2 : tie.Need-put-requires-2
put-requires-2 c κs = search rules

put-requires-3 : tie.Need-put-requires-3
put-requires-3 c κs = search rules

same_length : tie.Need-shape_of-b
same_length c = search rules

returns : tie.Need-returns
unfolding next_bytes
returns c =
    let third = c in
    let second = third in
    let first = second in
    let a = first.args in
    third.put-3.ensures
    ∙ ap (λ (m : List ℕ). sets m 32 (bytes 1 1))
    (second.put-2.ensures ∙ ap (λ (m : List ℕ). sets m 24 (bytes 8 a.total)) first.put.ensures)

pub put_next_spec : {M : Type 1} → statement M
put_next_spec = tie.close (tie.spec put-requires put-requires-2 put-requires-3 same_length returns)
