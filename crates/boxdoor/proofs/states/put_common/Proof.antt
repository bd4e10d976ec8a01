-- `boxdoor::states::put_common` meets its contract: seven fields, one behind the other.
use mathlib.Core.Path.{◌≡◌, ap, ◌∙◌}
use lib.ListN.{length}
use lib.Seq.{sets, length-sets}
use Rattle.boxdoor.specs.States.{common_from, common_bytes}
use Rattle.boxdoor.proofs.Fields.{common_stored}
use borrow.Author.Rules.{rules}
use Rattle.boxdoor.proofs.states.put_common.Statement.{statement}
use Rattle.boxdoor.proofs.states.put_common.Tie as tie

put-requires : tie.Need-put-requires
put-requires c κs = search rules

cast-put : tie.Need-overflow_cast-s
cast-put c = search rules

put-requires-2 : tie.Need-put-requires-2
put-requires-2 c κs = search rules

cast-put-2 : tie.Need-overflow_cast-s-2
cast-put-2 c = search rules

put-requires-3 : tie.Need-put-requires-3
put-requires-3 c κs = search rules

cast-put-3 : tie.Need-overflow_cast-s-3
cast-put-3 c = search rules

put-requires-4 : tie.Need-put-requires-4
put-requires-4 c κs = search rules

cast-put-4 : tie.Need-overflow_cast-s-4
cast-put-4 c = search rules

put-requires-5 : tie.Need-put-requires-5
put-requires-5 c κs = search rules

cast-put-5 : tie.Need-overflow_cast-s-5
cast-put-5 c = search rules

put-requires-6 : tie.Need-put-requires-6
put-requires-6 c κs = search rules

cast-put-6 : tie.Need-overflow_cast-s-6
cast-put-6 c = search rules

put-requires-7 : tie.Need-put-requires-7
put-requires-7 c κs = search rules

-- the stores on the way, from the last back
abbrev sixth : tie.After-put-7 → tie.After-put-6
sixth c = c.before.before.before.before.before

abbrev fifth : tie.After-put-7 → tie.After-put-5
fifth c = (sixth c).before.before.before.before.before

abbrev fourth : tie.After-put-7 → tie.After-put-4
fourth c = (fifth c).before.before.before.before.before

abbrev third : tie.After-put-7 → tie.After-put-3
third c = (fourth c).before.before.before.before.before

abbrev second : tie.After-put-7 → tie.After-put-2
second c = (third c).before.before.before.before.before

abbrev first : tie.After-put-7 → tie.After-put
first c = (second c).before.before.before.before.before

abbrev start : tie.After-put-7 → tie.Start
start c = (first c).before.before.before

stored : (c : tie.After-put-7) → c.put-7.new.dst ≡ sets (start c).args.b.now common_from (common_bytes (start c).args.s)
stored c =
    common_stored _ _ _ _ _ _ _ _ _ (first c).put.ensures (second c).put-2.ensures (third c).put-3.ensures (fourth c).put-4.ensures
    (fifth c).put-5.ensures (sixth c).put-6.ensures c.put-7.ensures

same_length : tie.Need-shape_of-b
same_length c =
    let a = (start c.before.before).args in
    ap length (stored c.before.before) ∙ length-sets a.b.now common_from (common_bytes a.s)

returns : tie.Need-returns
returns c = stored c.before.before

pub put_common_spec : {M : Type 1} → statement M
put_common_spec =
    tie.close
    (tie.spec
    put-requires
    cast-put
    put-requires-2
    cast-put-2
    put-requires-3
    cast-put-3
    put-requires-4
    cast-put-4
    put-requires-5
    cast-put-5
    put-requires-6
    cast-put-6
    put-requires-7
    same_length
    returns)
