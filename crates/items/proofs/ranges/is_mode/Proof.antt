-- The arm's keys are the definition's list.
use mathlib.Core.Path.{refl, sym}
use mathlib.Core.List.{[], ◌∷◌}
use Rattle.items.proofs.Keys.{matched, unmatched}
use Rattle.items.proofs.ranges.is_mode.Statement.{statement}
use Rattle.items.proofs.ranges.is_mode.Tie as tie

returns : tie.Need-returns-in-128
returns c = sym (matched (0x00 ∷ 0x80 ∷ []) (0x80 ∷ 0x00 ∷ []) c.args.byte refl c.in-128.is)

returns-2 : tie.Need-returns-in_default
returns-2 c = sym (unmatched (0x00 ∷ 0x80 ∷ []) (0x80 ∷ 0x00 ∷ []) c.args.byte refl c.in_default.in_default-own.rest.1)

pub is_mode_spec : {M : Type 1} → statement M
is_mode_spec = tie.close (tie.spec returns returns-2)
