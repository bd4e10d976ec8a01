-- Steps, over plain positions: from a position to a later one at most 65,535 further on, the numbers give the position.
use Prim.Native.Nat.{ℕ, ◌+◌, ◌<◌, ◌≤◌}
use mathlib.Core.Path.{◌≡◌}
use native.Mathlib.Omega.{arith}
use Rattle.packets.specs.Numbers.{number_at, step_of}
use Rattle.packets.proofs.Numbers.{step_not_above, step_between}

pub position_is_exact : (p q : ℕ) → p < q → q ≤ p + 65_535 → p + step_of (number_at p) (number_at q) ≡ q
position_is_exact p q h l = omega (arith, step_between p q h (omega arith))

-- "A repeated number reads as a full turn; hence the premise "once each"."
pub repeated_is_a_turn : (n : ℕ) → step_of n n ≡ 65_535
repeated_is_a_turn n = omega (arith, step_not_above n n (omega arith))
