-- Whole numbers of either sign, and their quotients rounded down. Assumes nothing.
use Prim.Native.Nat.{ℕ, zero, suc, ◌+◌, ◌*◌, ◌-◌, ◌/◌, ◌%◌, ◌≤◌, ◌<◌}
use mathlib.Core.Path.{◌≡◌, refl, sym, ap, subst, ◌∙◌}
use native.Mathlib.Nat.{add-zero, suc-mul, mod-lt, div-add-mod'}
use native.Mathlib.Nat.{div-eq_of_lt, div-eq_of_lt-le, div-eq-sub-div, add-div_right, mul-add-div_right}
use native.Mathlib.Numerals.{add-one}
use native.Mathlib.Decide.{dec_lt}
use native.Mathlib.Omega.{arith}
use lib.IntN.{ℤ, pos, negsuc, neg_ℤ, suc_ℤ, sub_ℕ, ◌+ℤ◌, ◌-ℤ◌, ◌*ℤ◌, +ℤ_assoc, +ℤ_comm, +ℤ-neg_ℤ_cancel}
use lib.Signed.{shr_z}
use borrow.Author.Tests.{lt-ltb, le-ltb}

-- ---- a less b, both not negative

pub sub_high : (a b : ℕ) → a < b → sub_ℕ a b ≡ negsuc (b - suc a)
sub_high a b l = rw (lt-ltb a b l)

pub sub_low : (a b : ℕ) → b ≤ a → sub_ℕ a b ≡ pos (a - b)
sub_low a b l = rw (le-ltb a b l)

pub less_sub : (a b : ℕ) → pos a -ℤ pos b ≡ sub_ℕ a b
less_sub a zero = ap pos (omega arith) ∙ sym (sub_low a 0 (omega arith))
less_sub a (suc b) = refl

-- h added to a number below zero, which stays below it or not
pub by_sum : (P : ℤ → Type 0) (h n : ℕ) → (h ≤ n → P (negsuc (n - h))) → (n < h → P (pos (h - suc n))) → P (negsuc n +ℤ pos h)
by_sum P h n low high =
    elim (dec_lt n h) [
      | yes l ↦ subst P (sym (sub_low h (suc n) l)) (high l)
      | no l ↦ subst P (sym (sub_high h (suc n) (omega arith) ∙ ap negsuc (omega arith))) (low (omega arith))
    ]

-- from z + h = q + r: q - z is h - r
pub balance : (q z h r : ℤ) → z +ℤ h ≡ q +ℤ r → q -ℤ z ≡ h -ℤ r
balance q z h r e =
    let moved : q ≡ (h -ℤ r) +ℤ z
    = sym (+ℤ-neg_ℤ_cancel q r) ∙ ap (λ (x : ℤ). x -ℤ r) (sym e) ∙ +ℤ_assoc z h (neg_ℤ r) ∙ +ℤ_comm z (h -ℤ r) in
    ap (λ (x : ℤ). x -ℤ z) moved ∙ +ℤ-neg_ℤ_cancel (h -ℤ r) z

-- ---- the quotient rounded down

module _ (m : ℕ) (some : 0 < m) where
  -- its remainder is not negative, and below the divisor
  pub floor : (z : ℤ) → (r : ℕ) × ((r < m) × (z ≡ shr_z z m *ℤ pos m +ℤ pos r))
  floor (pos n) = (n % m, (mod-lt n some, ap pos (sym (div-add-mod' n m))))
  floor (negsuc n) =
      let low : n % m < m = mod-lt n some in
      let parts : n / m * m + n % m ≡ n = div-add-mod' n m in
      let turn : suc (n / m) * m ≡ suc (n / m * m + (m - 1)) = suc-mul (n / m) m ∙ omega arith in (
        m - suc (n % m),
        (omega arith, sym (rw (turn, lt-ltb (m - suc (n % m)) (suc (n / m * m + (m - 1))) (omega arith)) (ap negsuc (omega arith)))),
      )

  -- a divisor more is one more
  pub shift_on : (z : ℤ) → shr_z (z +ℤ pos m) m ≡ suc_ℤ (shr_z z m)
  shift_on (pos n) = ap pos (add-div_right n some ∙ add-one (n / m))
  shift_on (negsuc n) =
      by_sum (λ y. shr_z y m ≡ suc_ℤ (negsuc (n / m))) m n low high
    where
      low : m ≤ n → negsuc ((n - m) / m) ≡ suc_ℤ (negsuc (n / m))
      low l = rw (div-eq-sub-div some l, add-one ((n - m) / m))

      high : n < m → pos ((m - suc n) / m) ≡ suc_ℤ (negsuc (n / m))
      high l = rw (div-eq_of_lt l, div-eq_of_lt {n = m - suc n} {m = m} (omega arith))

  -- the only one: a multiple of the divisor, and less than a divisor more, gives it back
  pub floor_one : (q : ℤ) (r : ℕ) → r < m → shr_z (q *ℤ pos m +ℤ pos r) m ≡ q
  floor_one (pos n) r l = ap pos (mul-add-div_right some n r ∙ rw (div-eq_of_lt l) (add-zero n))
  floor_one (negsuc n) r l =
      let more : suc n * m ≡ n * m + m = suc-mul n m in
      let up : (n + 1) * m ≡ n * m + m = rw (add-one n) more in
      let low : (suc n * m - 1 - r) / m ≡ n = div-eq_of_lt-le m (omega arith) (omega arith) in
      ap (λ (y : ℤ). shr_z (y +ℤ pos r) m) (below_zero (suc n * m) (omega arith))
      ∙ by_sum (λ y. shr_z y m ≡ negsuc n) r (suc n * m - 1) (λ _. ap negsuc low) (λ h. absurd (omega arith))
    where
      below_zero : (p : ℕ) → 0 < p → neg_ℤ (pos p) ≡ negsuc (p - 1)
      below_zero zero h = absurd (omega arith)
      below_zero (suc p) h = ap negsuc (omega arith)
