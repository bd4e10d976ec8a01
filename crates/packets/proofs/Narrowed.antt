-- What is sent of a sample at a width: it fits the width, at 24 bits it is the sample, and below the hold it is the quotient.
-- Assumes nothing.
use Prim.Native.Nat.{ℕ, suc, ◌+◌, ◌*◌, ◌-◌, ◌/◌, ◌^◌, ◌≤◌, ◌<◌, min}
use mathlib.Core.Path.{◌≡◌, refl, sym, ap, ◌∙◌}
use mathlib.Core.Bool.{true}
use native.Mathlib.Nat.{div-lt_iff_lt-mul, le-div_iff_mul-le, lt_of_le_of_lt, sub-le, min-eq_left, min-eq_right}
use native.Mathlib.Omega.{arith}
use lib.Dec.{leb}
use lib.IntN.{ℤ, pos, negsuc}
use lib.Pow.{pow_pos, pow_mono, pow-add}
use lib.Signed.{mag, le_z, lt_z, shr_z}
use borrow.Author.Tests.{leb-true, ltb-true}
use Rattle.wire.proofs.Laws.{and_left, never}
use Rattle.packets.specs.Samples.{is_sample, scale_at, half_at, top_at, at_most, rounded, narrowed}
use Rattle.packets.specs.Rounding.{held_from}
use Rattle.packets.proofs.Quotients.{by_sum}

-- a sample is below half a turn of 24 bits, whichever its sign
pub sample_small : (z : ℤ) → is_sample z ≡ true → mag z < 8_388_608
sample_small (pos n) s = omega (arith, leb-true n 8_388_607 s)
sample_small (negsuc n) s = omega (arith, leb-true n 8_388_607 (and_left (leb n 8_388_607) true s))

-- ---- a quotient by m, held at t - 1

module _ (m t : ℕ) (some : 0 < m) where
  min_kept : (n : ℕ) → n < t * m → min (n / m) (t - 1) ≡ n / m
  min_kept n l = let low : n / m < t = (div-lt_iff_lt-mul some).1 l in min-eq_left (omega arith)

  min_full : (n : ℕ) → t * m ≤ n → min (n / m) (t - 1) ≡ t - 1
  min_full n l = let high : t ≤ n / m = (le-div_iff_mul-le some).1 l in min-eq_right (omega arith)

-- ---- at every width

min_small : (a t : ℕ) → 0 < t → min a (t - 1) < t
min_small a t h = omega arith

below_sum : (n h w : ℕ) → n < w - h → n + h < w
below_sum n h w l = omega arith

above_sum : (n h w : ℕ) → w - h ≤ n → w ≤ n + h
above_sum n h w l = omega arith

half_left : (n m w : ℕ) → n < m / 2 → m ≤ w → m / 2 - suc n < w
half_left n m w l most = omega arith

module _ (bits : ℕ) (some : 1 ≤ bits) (most : bits ≤ 24) where
  -- the greatest number and one more, scaled, is 2 ^ 23
  pub scaled_top : 2 ^ (bits - 1) * scale_at bits ≡ 8_388_608
  scaled_top =
      let all : (bits - 1) + (24 - bits) ≡ 23 = omega arith in
      sym (pow-add 2 (bits - 1) (24 - bits)) ∙ ap (λ (n : ℕ). 2 ^ n) all

  pub scale_most : scale_at bits ≤ 8_388_608
  scale_most = pow_mono {i = 24 - bits} {j = 23} (omega arith)

  -- what is sent of a sample fits the width
  pub narrowed_small : (z : ℤ) → is_sample z ≡ true → mag (narrowed bits z) < 2 ^ (bits - 1)
  narrowed_small (pos n) s = min_small ((n + half_at bits) / scale_at bits) (2 ^ (bits - 1)) (pow_pos (bits - 1))
  narrowed_small (negsuc n) s =
      let h : n < 2 ^ (bits - 1) * scale_at bits = rw scaled_top (sample_small (negsuc n) s) in
      by_sum (λ y. mag (at_most (top_at bits) (shr_z y (scale_at bits))) < 2 ^ (bits - 1)) (half_at bits) n
      (λ l. (div-lt_iff_lt-mul (pow_pos (24 - bits))).1 (lt_of_le_of_lt (sub-le n (half_at bits)) h))
      (λ l. min_small ((half_at bits - suc n) / scale_at bits) (2 ^ (bits - 1)) (pow_pos (bits - 1)))

  -- below the samples that are held it is the quotient
  pub unheld : (z : ℤ) → lt_z z (pos (held_from bits)) ≡ true → narrowed bits z ≡ rounded bits z
  unheld (pos n) b =
      let low : n + half_at bits < 2 ^ (bits - 1) * scale_at bits
      = rw scaled_top (below_sum n (half_at bits) 8_388_608 (ltb-true n (held_from bits) b)) in
      ap pos (min_kept (scale_at bits) (2 ^ (bits - 1)) (pow_pos (24 - bits)) (n + half_at bits) low)
  unheld (negsuc n) b = by_sum (λ y. at_most (top_at bits) (shr_z y (scale_at bits)) ≡ shr_z y (scale_at bits)) (half_at bits) n (λ l. refl) high
    where
      high : n < half_at bits → pos (min ((half_at bits - suc n) / scale_at bits) (top_at bits)) ≡ pos ((half_at bits - suc n) / scale_at bits)
      high l =
          let low : half_at bits - suc n < 2 ^ (bits - 1) * scale_at bits
          = rw scaled_top (half_left n (scale_at bits) 8_388_608 l scale_most) in
          ap pos (min_kept (scale_at bits) (2 ^ (bits - 1)) (pow_pos (24 - bits)) (half_at bits - suc n) low)

  -- from there on it is the greatest number
  pub held_top : (z : ℤ) → le_z (pos (held_from bits)) z ≡ true → narrowed bits z ≡ pos (top_at bits)
  held_top (pos n) a =
      let high : 2 ^ (bits - 1) * scale_at bits ≤ n + half_at bits
      = rw scaled_top (above_sum n (half_at bits) 8_388_608 (leb-true (held_from bits) n a)) in
      ap pos (min_full (scale_at bits) (2 ^ (bits - 1)) (pow_pos (24 - bits)) (n + half_at bits) high)
  held_top (negsuc n) a = never a

-- at 24 bits a sample is sent as it is
pub narrowed_24 : (z : ℤ) → is_sample z ≡ true → narrowed 24 z ≡ z
narrowed_24 (pos n) s = ap pos (omega (arith, sample_small (pos n) s))
narrowed_24 (negsuc n) s =
    by_sum (λ y. at_most 8_388_607 (shr_z y 1) ≡ negsuc n) 0 n (λ l. ap negsuc (omega arith)) (λ l. absurd (omega arith))
