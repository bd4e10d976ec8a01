-- A step leads to the first position above that has the number: positions with one number lie 65,535 apart. Assumes nothing.
use Prim.Native.Nat.{ℕ, zero, suc, ◌+◌, ◌*◌, ◌%◌, ◌≤◌, ◌<◌}
use mathlib.Core.Path.{◌≡◌}
use native.Mathlib.Omega.{arith}
use native.Mathlib.Decide.{dec_lt}
use Rattle.packets.specs.Numbers.{number_at, step_of}
use Rattle.packets.proofs.Numbers.{step_above, step_not_above}

pub step_to_lem : (p q t n : ℕ) → q ≡ 65_535 * n + t → 0 < t → t ≤ 65_535 → p < q → q ≤ p + 65_535 → q ≡ p + step_of (number_at p) t
step_to_lem zero q t n has some few above near = omega (arith, step_above 0 t some)
step_to_lem (suc p) q t n has some few above near =
    elim (dec_lt (p % 65_535 + 1) t) [
      | yes l ↦ omega (arith, step_above (p % 65_535 + 1) t l)
      | no l ↦ omega (arith, step_not_above (p % 65_535 + 1) t (omega arith))
    ]
