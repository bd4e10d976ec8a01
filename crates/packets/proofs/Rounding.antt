-- What is sent of a sample lies near it, and other rules send something else: request No. 3 of document 02. Assumes nothing.
use Prim.Native.Nat.{ℕ, zero, suc, ◌+◌, ◌*◌, ◌-◌, ◌/◌, ◌^◌, ◌≤◌, ◌<◌}
use mathlib.Core.Path.{◌≡◌, refl, sym, ap, ◌∙◌}
use mathlib.Core.Bool.{true}
use native.Mathlib.Nat.{pow-succ', suc-mul}
use native.Mathlib.Decide.{dec_lt}
use native.Mathlib.Omega.{arith}
use lib.Dec.{T, leb}
use lib.IntN.{ℤ, pos, negsuc, ◌+ℤ◌, ◌-ℤ◌, ◌*ℤ◌, +ℤ_assoc, +ℤ_comm, -ℤ-+ℤ_cancel}
use lib.Pow.{pow_pos}
use lib.Signed.{le_z, lt_z, shr_z}
use borrow.Author.Tests.{leb-true, le-leb}
use Rattle.wire.specs.Signed.{minus}
use Rattle.wire.proofs.Laws.{and_both, and_left, and_right, never}
use Rattle.packets.specs.Samples.{lies_in, is_sample, scale_at, half_at, top_at, rounded, narrowed}
use Rattle.packets.specs.Rounding.{error_of, error_at, held_from, LiesNear, wrong_rules, all_differ}
use Rattle.packets.proofs.Quotients.{sub_high, sub_low, less_sub, balance, floor, floor_one}
use Rattle.packets.proofs.Narrowed.{sample_small, scaled_top, scale_most, unheld, held_top}

-- ---- which side of -k a number lies

minus_above : (k n : ℕ) → le_z (minus k) (pos n) ≡ true
minus_above zero n = le-leb 0 n (omega arith)
minus_above (suc k) n = refl

minus_below : (k n : ℕ) → n < k → le_z (minus k) (negsuc n) ≡ true
minus_below zero n l = absurd (omega arith)
minus_below (suc k) n l = le-leb n k (omega arith)

minus_under : (k n : ℕ) → le_z (minus k) (negsuc n) ≡ true → n < k
minus_under zero n l = never l
minus_under (suc k) n l = omega (arith, leb-true n k l)

below_minus : (k n : ℕ) → k ≤ suc n → le_z (negsuc n) (minus k) ≡ true
below_minus zero n l = refl
below_minus (suc k) n l = le-leb k n (omega arith)

-- ---- near: half the scale less the remainder

near_half : (h r : ℕ) → r ≤ h + (h - 1) → lies_in (minus (h - 1)) (pos h) (pos h -ℤ pos r) ≡ true
near_half h r l =
    elim (dec_lt h r) [
      | yes more ↦ rw (less_sub h r, sub_high h r more) (and_both _ _ (minus_below (h - 1) (r - suc h) (omega arith)) refl)
      | no less ↦ rw (less_sub h r, sub_low h r (omega arith)) (and_both _ _ (minus_above (h - 1) (h - r)) (le-leb (h - r) h (omega arith)))
    ]

-- twice half the scale is the scale, but where the scale is 1
twice_half : (k : ℕ) → 2 ^ k ≤ suc (2 ^ k / 2 + (2 ^ k / 2 - 1))
twice_half zero = omega arith
twice_half (suc k) = rw (pow-succ' 2 k) (go (2 ^ k) (pow_pos k))
  where
    go : (p : ℕ) → 0 < p → 2 * p ≤ suc (2 * p / 2 + (2 * p / 2 - 1))
    go p l = omega arith

error_is : (bits : ℕ) (z : ℤ)
    → (r : ℕ) × ((r < scale_at bits) × (error_of (scale_at bits) (rounded bits) z ≡ pos (half_at bits) -ℤ pos r))
error_is bits z =
    let f = floor (scale_at bits) (pow_pos (24 - bits)) (z +ℤ pos (half_at bits)) in
    (f.0, (f.1.0, balance (rounded bits z *ℤ pos (scale_at bits)) z (pos (half_at bits)) (pos f.0) f.1.1))

module _ (bits : ℕ) (some : 1 ≤ bits) (most : bits ≤ 24) where
  nearby : (z : ℤ) → lt_z z (pos (held_from bits)) ≡ true → lies_in (minus (half_at bits - 1)) (pos (half_at bits)) (error_at bits z) ≡ true
  nearby z below =
      let e = error_is bits z in
      let few : e.0 ≤ half_at bits + (half_at bits - 1) = down e.0 (scale_at bits) (half_at bits) e.1.0 (twice_half (24 - bits)) in
      rw (unheld bits some most z below, e.1.1) (near_half (half_at bits) e.0 few)
    where
      down : (r m h : ℕ) → r < m → m ≤ suc (h + (h - 1)) → r ≤ h + (h - 1)
      down r m h l room = omega arith

-- ---- only: a number that lies so near leaves a remainder below the scale, so it is the quotient

-- what lies from -(h - 1) to h is h less a remainder
remainder : (h : ℕ) (e : ℤ) → lies_in (minus (h - 1)) (pos h) e ≡ true → (r : ℕ) × ((r ≤ h + (h - 1)) × (e +ℤ pos r ≡ pos h))
remainder h (pos n) l =
    let few : n ≤ h = leb-true n h (and_right (le_z (minus (h - 1)) (pos n)) (leb n h) l) in
    (h - n, (omega arith, ap pos (omega arith)))
remainder h (negsuc n) l =
    let few : n < h - 1 = minus_under (h - 1) n (and_left (le_z (minus (h - 1)) (negsuc n)) true l) in
    (h + suc n, (omega arith, sub_low (h + suc n) (suc n) (omega arith) ∙ ap pos (omega arith)))

module _ (bits : ℕ) (some : 1 ≤ bits) (most : bits ≤ 24) where
  only : (z r : ℤ) → lt_z z (pos (held_from bits)) ≡ true
      → lies_in (minus (half_at bits - 1)) (pos (half_at bits)) (r *ℤ pos (scale_at bits) -ℤ z) ≡ true → r ≡ narrowed bits z
  only z r below near =
      let scaled = r *ℤ pos (scale_at bits) in
      let e = remainder (half_at bits) (scaled -ℤ z) near in
      let sum : z +ℤ pos (half_at bits) ≡ scaled +ℤ pos e.0
      = ap (λ (x : ℤ). z +ℤ x) (sym e.1.1) ∙ sym (+ℤ_assoc z (scaled -ℤ z) (pos e.0))
      ∙ ap (λ (x : ℤ). x +ℤ pos e.0) (+ℤ_comm z (scaled -ℤ z) ∙ -ℤ-+ℤ_cancel scaled z) in
      let few : e.0 < scale_at bits = low (scale_at bits) e.0 (pow_pos (24 - bits)) e.1.0 in
      sym (unheld bits some most z below ∙ ap (λ (x : ℤ). shr_z x (scale_at bits)) sum
      ∙ floor_one (scale_at bits) (pow_pos (24 - bits)) r e.0 few)
    where
      low : (m r : ℕ) → 0 < m → r ≤ m / 2 + (m / 2 - 1) → r < m
      low m r l few = omega arith

-- ---- held: the greatest number scaled, which lies a whole scale below 2 ^ 23

held_error : (m n : ℕ) → m ≤ 8_388_608 → 0 < m → 8_388_608 - m / 2 ≤ n → n < 8_388_608
    → lies_in (minus (m - 1)) (minus (m - m / 2)) (pos (8_388_608 - m) -ℤ pos n) ≡ true
held_error m n few some low high =
    let k = n - suc (8_388_608 - m) in
    rw (less_sub (8_388_608 - m) n, sub_high (8_388_608 - m) n (omega arith))
    (and_both _ _ (minus_below (m - 1) k (omega arith)) (below_minus (m - m / 2) k (omega arith)))

module _ (bits : ℕ) (some : 1 ≤ bits) (most : bits ≤ 24) where
  scaled : top_at bits * scale_at bits ≡ 8_388_608 - scale_at bits
  scaled = one_less (2 ^ (bits - 1)) (scale_at bits) (pow_pos (bits - 1)) ∙ rw (scaled_top bits some most)
    where
      one_less : (t m : ℕ) → 0 < t → (t - 1) * m ≡ t * m - m
      one_less zero m l = absurd (omega arith)
      one_less (suc t) m l = let t_is : suc t - 1 ≡ t = omega arith in rw (suc-mul t m, t_is) (omega arith)

  at_the_top_lem : (z : ℤ) → is_sample z ≡ true → le_z (pos (held_from bits)) z ≡ true
      → (narrowed bits z ≡ pos (top_at bits))
      × (lies_in (minus (scale_at bits - 1)) (minus (scale_at bits - half_at bits)) (error_at bits z) ≡ true)
  at_the_top_lem (negsuc n) s above = never above
  at_the_top_lem (pos n) s above =
      let is = held_top bits some most (pos n) above in
      let few = scale_most bits some most in
      let error : error_at bits (pos n) ≡ pos (8_388_608 - scale_at bits) -ℤ pos n
      = ap (λ (x : ℤ). x *ℤ pos (scale_at bits) -ℤ pos n) is ∙ ap (λ (k : ℕ). pos k -ℤ pos n) scaled in (
        is,
        ap (lies_in (minus (scale_at bits - 1)) (minus (scale_at bits - half_at bits))) error
            ∙ held_error (scale_at bits) n few (pow_pos (24 - bits)) (leb-true (held_from bits) n above) (sample_small (pos n) s),
      )

  pub lies_near : LiesNear bits
  lies_near = record { nearby = nearby bits some most; only = only bits some most; at_the_top = at_the_top_lem }

-- at 16 bits, in 02's numbers
pub within_half : (z : ℤ) → lt_z z (pos 8_388_480) ≡ true → lies_in (minus 127) (pos 128) (error_at 16 z) ≡ true
within_half = (lies_near 16 (omega arith) (omega arith)).nearby

pub held_at_the_top : (z : ℤ) → is_sample z ≡ true → le_z (pos 8_388_480) z ≡ true
    → (narrowed 16 z ≡ pos 32_767) × (lies_in (minus 255) (minus 128) (error_at 16 z) ≡ true)
held_at_the_top = (lies_near 16 (omega arith) (omega arith)).at_the_top

-- ---- each of the rules that one might take for it sends something else of its witness

pub wrong_rules_fail : T (all_differ wrong_rules)
wrong_rules_fail = tt
