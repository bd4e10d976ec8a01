-- The tests are the definition's list, whatever 0019's value is.
use Prim.Native.Nat.{ℕ}
use mathlib.Core.Path.{◌≡◌, refl}
use mathlib.Core.Bool.{Bool, true, false, ◌&&◌, ◌||◌, or-false, and-true, and-false}
use mathlib.Core.List.{[], ◌∷◌}
use lib.Dec.{eqb}
use Rattle.wire.specs.Choice.{pick, one_of}
use Rattle.channels.proofs.is_open.Statement.{statement}
use Rattle.channels.proofs.is_open.Tie as tie

by_setup : (channel : ℕ) (two : Bool)
    → (eqb channel 0x00 || (eqb channel 0x02 && two)) ≡ one_of channel (pick two (0x00 ∷ 0x02 ∷ []) (0x00 ∷ []))
by_setup channel true = rw (and-true (eqb channel 0x02), or-false (eqb channel 0x02)) refl
by_setup channel false = rw (and-false (eqb channel 0x02)) refl

returns : tie.Need-returns
returns c = by_setup c.args.channel (eqb c.args.setup 4)

pub is_open_spec : {M : Type 1} → statement M
is_open_spec = tie.close (tie.spec returns)
