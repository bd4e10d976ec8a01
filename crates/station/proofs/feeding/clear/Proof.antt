-- `station::feeding::clear` meets its contract: 64 zeros are stored; where nothing was kept, they stand there already.
-- Assumes nothing.
use mathlib.Core.Path.{◌∙◌, ap}
use native.Mathlib.Omega.{arith}
use lib.Seq.{sets}
use Rattle.wire.proofs.Stores.{sets_whole}
use Rattle.framing.specs.declared.Store.{Store}
use Rattle.framing.specs.Framing.{between}
use Rattle.framing.proofs.Leaving.{left_long, left_empty}
use borrow.Author.Rules.{rules}
use Rattle.station.proofs.feeding.clear.Statement.{statement}
use Rattle.station.proofs.feeding.clear.Tie as tie

between-requires : tie.Need-between-none-requires
between-requires c κs = search rules

copy-requires : tie.Need-copy-requires
copy-requires c κs = search rules

same_length : tie.Need-shape_of-held
same_length c = search rules

returns : tie.Need-returns-then-taken-gt0
returns c =
    let k = c in
    let b = k in
    let s = b in
    let held = s.args.held.now in
    k.copy.ensures
    ∙ ap (λ (t : Store). sets held 0 t.held) b.between-none.ensures
    ∙ sets_whole held between.held (omega (arith, left_long (record { held = held; taken = s.args.taken }) s.requires))

returns-2 : tie.Need-returns-else-taken-gt0
returns-2 c =
    let s = c in
    left_empty (record { held = s.args.held.now; taken = s.args.taken }) s.requires (omega arith)

pub clear_spec : {M : Type 1} → statement M
clear_spec = tie.close (tie.spec between-requires copy-requires same_length returns returns-2)
