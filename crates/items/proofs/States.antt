-- The status byte, and the three ways that a set of the state goes: it stops the box, finds it running, or starts it.
use Prim.Native.Nat.{ℕ}
use mathlib.Core.Path.{◌≡◌, refl}
use mathlib.Core.Bool.{Bool, true, false}
use mathlib.Core.List.{[], ◌∷◌}
use lib.Dec.{eqb}
use Rattle.wire.specs.Number.{bytes}
use Rattle.wire.proofs.Laws.{pick_keeps}
use Rattle.items.specs.declared.Settings.{Settings}
use Rattle.items.specs.Settings.{with_running, with_mode, with_count}
use Rattle.items.specs.Items.{status_byte, idle, state_to}

-- the status is a number of one byte
pub status_bytes : (running : Bool) → status_byte running ∷ [] ≡ bytes 1 (status_byte running)
status_bytes true = refl
status_bytes false = refl

pub state_ways : (P : Settings → Type 0) (byte mode : ℕ) (s : Settings)
    → (eqb byte idle ≡ true → P (with_running false s))
    → (eqb byte idle ≡ false → s.running ≡ true → P s)
    → (eqb byte idle ≡ false → s.running ≡ false → P (with_count 0 (with_mode mode (with_running true s))))
    → P (state_to byte mode s)
state_ways P byte mode s stops stays starts =
    pick_keeps P (eqb byte idle) _ _ stops (λ i. pick_keeps P s.running _ _ (stays i) (starts i))
