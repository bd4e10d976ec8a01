-- Packet numbers: what the number at a position is, and that the step from one number to a later one, at most 65,535
-- positions on, is the distance of the positions. Assumes nothing.
use Prim.Native.Nat.{ℕ, zero, suc, ◌+◌, ◌*◌, ◌-◌, ◌%◌, ◌≤◌, ◌<◌}
use mathlib.Core.Path.{◌≡◌, refl, sym, ap, ◌∙◌}
use mathlib.Core.List.{List, [], ◌∷◌}
use native.Mathlib.Omega.{arith}
use native.Mathlib.Decide.{dec_lt}
use lib.ListN.{get_or}
use borrow.Author.Tests.{lt-ltb, le-ltb}
use Rattle.wire.specs.Number.{field}
use Rattle.packets.specs.Numbers.{number_at, step_of}

-- "at position p of 1 or more, ((p - 1) mod 65,535) + 1"
pub number_after : (p : ℕ) → 0 < p → number_at p ≡ (p - 1) % 65_535 + 1
number_after zero h = omega arith
number_after (suc p) h = omega arith

-- a number is 16 bits wide
pub number_le : (p : ℕ) → number_at p ≤ 65_535
number_le zero = omega arith
number_le (suc p) = omega arith

-- only position 0 has number 0
pub number_zero : (p : ℕ) → number_at p ≡ 0 → p ≡ 0
number_zero zero h = refl
number_zero (suc p) h = omega arith

pub step_above : (s t : ℕ) → s < t → step_of s t ≡ t - s
step_above s t h = simp (lt-ltb s t h)

pub step_not_above : (s t : ℕ) → t ≤ s → step_of s t ≡ t + 65_535 - s
step_not_above s t h = simp (le-ltb s t h)

-- "From number s to number t above 0 the step is t - s, and 65,535 more if t is not above s": from position p to position q
-- the step is the distance, while the distance is at most a full turn.
pub step_between : (p q : ℕ) → p < q → q - p ≤ 65_535 → step_of (number_at p) (number_at q) ≡ q - p
step_between p zero l h = omega arith
step_between zero (suc q) l h = omega (arith, step_above 0 (q % 65_535 + 1) (omega arith))
step_between (suc p) (suc q) l h =
    elim (dec_lt (p % 65_535) (q % 65_535)) [
      | yes w ↦ omega (arith, step_above (p % 65_535 + 1) (q % 65_535 + 1) (omega arith))
      | no w ↦ omega (arith, step_not_above (p % 65_535 + 1) (q % 65_535 + 1) (omega arith))
    ]

-- the number that a step leads to is the number at the position that it leads to
pub number_step : (p n : ℕ) → 0 < n → n ≤ 65_535 → number_at (p + step_of (number_at p) n) ≡ n
number_step zero n some small =
    let go : 0 + step_of 0 n ≡ suc (n - 1) = omega (arith, step_above 0 n some) in
    rw go (omega arith)
number_step (suc p) n some small = elim (dec_lt (p % 65_535 + 1) n) [ yes l ↦ up l | no l ↦ over (omega arith) ]
  where
    up : p % 65_535 + 1 < n → number_at (suc p + step_of (p % 65_535 + 1) n) ≡ n
    up l =
        let go : suc p + step_of (p % 65_535 + 1) n ≡ suc (p + (n - (p % 65_535 + 1))) = omega (arith, step_above (p % 65_535 + 1) n l) in
        rw go (omega arith)

    over : n ≤ p % 65_535 + 1 → number_at (suc p + step_of (p % 65_535 + 1) n) ≡ n
    over l =
        let go : suc p + step_of (p % 65_535 + 1) n ≡ suc (p + (n + 65_535 - (p % 65_535 + 1)))
        = omega (arith, step_not_above (p % 65_535 + 1) n l) in
        rw go (omega arith)

-- ---- the two bytes of a 16-bit field

pub field_two : (s : List ℕ) (at : ℕ) → field at 2 s ≡ get_or s at 0 + 256 * get_or s (at + 1) 0
field_two [] zero = refl
field_two (a ∷ []) zero = omega arith
field_two (a ∷ b ∷ s) zero = omega arith
field_two [] (suc at) = refl
field_two (a ∷ s) (suc at) =
    let next : suc at + 1 ≡ suc (at + 1) = omega arith in
    field_two s at ∙ sym (ap (λ (k : ℕ). get_or s at 0 + 256 * get_or (a ∷ s) k 0) next)
