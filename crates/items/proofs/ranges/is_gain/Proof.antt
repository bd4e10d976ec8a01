-- The arm's keys are the four gains as signed bytes.
use mathlib.Core.Path.{refl, sym}
use mathlib.Core.List.{[], ◌∷◌, map}
use Rattle.wire.specs.Signed.{coded}
use Rattle.items.specs.Settings.{gains}
use Rattle.items.proofs.Keys.{matched, unmatched}
use Rattle.items.proofs.ranges.is_gain.Statement.{statement}
use Rattle.items.proofs.ranges.is_gain.Tie as tie

returns : tie.Need-returns-in-0
returns c = sym (matched (0x00 ∷ 0xE2 ∷ 0xEC ∷ 0xF6 ∷ []) (map (coded 8) gains) c.args.byte refl c.in-0.is)

returns-2 : tie.Need-returns-in_default
returns-2 c = sym (unmatched (0x00 ∷ 0xE2 ∷ 0xEC ∷ 0xF6 ∷ []) (map (coded 8) gains) c.args.byte refl c.in_default.in_default-own.rest.1)

pub is_gain_spec : {M : Type 1} → statement M
is_gain_spec = tie.close (tie.spec returns returns-2)
