-- The bytes are as many as a reader's, the count is one, and then a silent reader is written.
use Prim.Native.Nat.{ℕ}
use mathlib.Core.Path.{sym, ap, ◌∙◌}
use mathlib.Core.List.{List}
use Rattle.harvestdoor.specs.States.{reader_bytes}
use Rattle.harvestdoor.proofs.Heard.{made_short, made_by}
use borrow.Author.Rules.{rules}
use Rattle.harvestdoor.proofs.reading.skvornela_silent.Statement.{statement}
use Rattle.harvestdoor.proofs.reading.skvornela_silent.Tie as tie

returns : tie.Need-returns-then-state-ne-LENGTH
returns c = made_short _ _ c.if-state-ne-LENGTH.true

is-count-requires : tie.Need-is_count-requires
is-count-requires c κs = search rules

returns-2 : tie.Need-returns-then-not-is_count
returns-2 c =
    let n = c in
    sym (made_by _ _ n.if-state-ne-LENGTH.false (sym n.is_count.ensures ∙ c.if-not-is_count.true))

silent-requires : tie.Need-silent-requires
silent-requires c κs = search rules

put-reader-requires : tie.Need-put_reader-requires
put-reader-requires c κs = search rules

same_length : tie.Need-shape_of-state
same_length c = search rules

returns-3 : tie.Need-returns
returns-3 c =
    let put = c in
    let made = put in
    let told = made in
    let n = told in
    let bytes = put.put_reader.ensures ∙ ap reader_bytes made.silent.ensures in
    ap (λ (l : List ℕ). record { code = 1; state = l }) bytes
    ∙ sym (made_by _ _ n.if-state-ne-LENGTH.false (sym n.is_count.ensures ∙ told.if-not-is_count.false))

pub skvornela_silent_spec : {M : Type 1} → statement M
skvornela_silent_spec =
    tie.close
    (tie.spec
    returns
    is-count-requires
    returns-2
    silent-requires
    put-reader-requires
    same_length
    returns-3)
