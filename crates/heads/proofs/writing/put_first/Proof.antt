-- The first eight bytes are one number; the fields behind it are stored one behind the other.
use mathlib.Core.Path.{◌≡◌, ap, ◌∙◌}
use lib.ListN.{length}
use lib.Seq.{sets, length-sets}
use Rattle.heads.specs.Head.{fields_of, field_bytes}
use Rattle.heads.proofs.Codes.{first_stored}
use Rattle.heads.proofs.Words.{first_eight}
use borrow.Author.Rules.{rules}
use Rattle.heads.proofs.writing.put_first.Statement.{statement}
use Rattle.heads.proofs.writing.put_first.Tie as tie

cast-marked : tie.Need-overflow_cast-marked
cast-marked c = search rules

mul-marked : tie.Need-overflow_mul-marked
mul-marked c = search rules

add-marked : tie.Need-overflow_add-marked
add-marked c = search rules

cast-tuned : tie.Need-overflow_cast-tuned
cast-tuned c = search rules

mul-tuned : tie.Need-overflow_mul-tuned
mul-tuned c = search rules

add-tuned : tie.Need-overflow_add-tuned
add-tuned c = search rules

mul-put : tie.Need-overflow_mul-tuned-2
mul-put c = search rules

add-put : tie.Need-overflow_add-marked-2
add-put c = search rules

put-requires : tie.Need-put-requires
put-requires c κs = search rules

put-requires-2 : tie.Need-put-requires-2
put-requires-2 c κs = search rules

cast-put : tie.Need-overflow_cast-h
cast-put c = search rules

put-requires-3 : tie.Need-put-requires-3
put-requires-3 c κs = search rules

cast-put-2 : tie.Need-overflow_cast-h-2
cast-put-2 c = search rules

put-requires-4 : tie.Need-put-requires-4
put-requires-4 c κs = search rules

abbrev third : tie.After-put-4 → tie.After-put-3
third c = c.before.before.before.before.before

abbrev second : tie.After-put-4 → tie.After-put-2
second c = (third c).before.before.before.before.before

abbrev first : tie.After-put-4 → tie.After-put
first c = (second c).before.before.before.before.before

abbrev start : tie.After-put-4 → tie.Start
start c = (first c).before.before.before.before.before.before

stored : (c : tie.After-put-4) → c.put-4.new.dst ≡ sets (start c).args.out.now 0 (field_bytes 1 (fields_of (start c).args.h))
stored c =
    let a = (start c).args in
    let eight = ap (sets a.out.now 0) (first_eight a.h.version a.h.divisor a.h.frequency) in
    first_stored a.h a.out.now _ _ _ _ ((first c).put.ensures ∙ eight) (second c).put-2.ensures (third c).put-3.ensures
    c.put-4.ensures

same_length : tie.Need-shape_of-out
same_length c =
    let a = (start c.before.before).args in
    ap length (stored c.before.before) ∙ length-sets a.out.now 0 (field_bytes 1 (fields_of a.h))

returns : tie.Need-returns
returns c = stored c.before.before

pub put_first_spec : {M : Type 1} → statement M
put_first_spec =
    tie.close
    (tie.spec
    cast-marked
    mul-marked
    add-marked
    cast-tuned
    mul-tuned
    add-tuned
    mul-put
    add-put
    put-requires
    put-requires-2
    cast-put
    put-requires-3
    cast-put-2
    put-requires-4
    same_length
    returns)
