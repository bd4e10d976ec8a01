-- How far the rates of d, e, .. lie from a rate f: the mathematics of "nearest", over plain numbers. With f * d + above =
-- 20,000,000 and f = above + below, the exact rate of d lies above / d over f, and that of d + 1 lies below / (d + 1) under it.
use Prim.Native.Nat.{ℕ, suc, ◌+◌, ◌*◌, ◌-◌, ◌%◌, ◌≤◌, ◌<◌}
use mathlib.Core.Path.{◌≡◌, sym, ap, ◌∙◌}
use native.Mathlib.Nat.{mul-add, add-mul, mul-suc, mul_comm, mul_assoc, mul-one, mul_right_comm, mul-mod_right}
use native.Mathlib.Nat.{mul-le-mul_left, mul-le-mul_right, mul-pos, le_of_mul-le-mul_right, le_of_lt}
use native.Mathlib.Decide.{dec_lt}
use native.Mathlib.Omega.{arith}
use Rattle.rates.specs.Rate.{miss, Nearer}

-- a / b ≤ c / d and c / d ≤ x / y give a / b ≤ x / y
pub between : (a b c d x y : ℕ) → 0 < d → a * d ≤ c * b → c * y ≤ x * d → a * y ≤ x * b
between a b c d x y some p q =
    let first : a * y * d ≤ c * y * b = omega (arith, mul-le-mul_right y p, mul_right_comm a y d, mul_right_comm c y b) in
    let second : c * y * b ≤ x * b * d = omega (arith, mul-le-mul_right b q, mul_right_comm x b d) in
    let all : a * y * d ≤ x * b * d = omega arith in
    le_of_mul-le-mul_right all some

module _ (f d above below : ℕ) (whole : f * d + above ≡ 20000000) (parts : f ≡ above + below) (some : 0 < below) (pos : 0 < d) where
  -- how far off each D is, D-fold
  miss_here : miss f d ≡ above
  miss_here = omega arith

  miss_before : (e k : ℕ) → e + k ≡ d → miss f e ≡ above + f * k
  miss_before e k h = omega (arith, mul-add f e k, ap (λ (m : ℕ). f * m) h)

  miss_after : (e j : ℕ) → e ≡ d + suc j → miss f e ≡ below + f * j
  miss_after e j h = omega (arith, ap (λ (m : ℕ). f * m) h, mul-add f d (suc j), mul-suc f j)

  miss_next : miss f (d + 1) ≡ below
  miss_next = omega (arith, mul-add f d 1, mul-one f)

  -- d's rate is nearer than those of smaller D
  pub here_before : (e k : ℕ) → e + k ≡ d → 0 < k → Nearer f d e
  here_before e k h more =
      let low : e ≤ d = omega arith in
      let rate : 0 < f = omega arith in
      rw (miss_here, miss_before e k h)
      (omega (arith, add-mul above (f * k) d, mul-le-mul_left above low, mul-pos (mul-pos rate more) pos))

  -- and where it is nearer than that of d + 1, nearer than those of all greater D
  pub here_after : above * (d + 1) < below * d → (e j : ℕ) → e ≡ d + suc j → Nearer f d e
  here_after less e j h =
      let part : above ≤ f = omega arith in
      let turn : above * e ≡ above * d + (above * j + above)
      = ap (λ (m : ℕ). above * m) h ∙ omega (arith, mul-add above d (suc j), mul-suc above j) in
      let next : above * (d + 1) ≡ above * d + above = omega (arith, mul-add above d 1, mul-one above) in
      let more : f * j ≤ f * j * d = omega (arith, mul-le-mul_left (f * j) pos, mul-one (f * j)) in
      rw (miss_here, miss_after e j h)
      (omega (arith, turn, next, more, add-mul below (f * j) d, mul-le-mul_right j part))

  -- where the rate of d + 1 is nearer than d's, it is nearer than those of all smaller D
  pub next_before : below * d < above * (d + 1) → (e k : ℕ) → e + k ≡ d → Nearer f (d + 1) e
  next_before less e k h =
      let low : e ≤ d = omega arith in
      rw (miss_next, miss_before e k h) (omega (arith, add-mul above (f * k) (d + 1), mul-le-mul_left below low))

  -- and than those of all greater D
  pub next_after : (e j : ℕ) → e ≡ d + suc (suc j) → Nearer f (d + 1) e
  next_after e j h =
      let part : below ≤ f = omega arith in
      let rate : 0 < f = omega arith in
      let step : 0 < suc j = omega arith in
      let past : e ≡ d + 1 + suc j = omega arith in
      let turn : below * e ≡ below * (d + 1) + below * suc j = ap (λ (m : ℕ). below * m) past ∙ mul-add below (d + 1) (suc j) in
      let more : f * suc j * (d + 1) ≡ f * suc j * d + f * suc j = omega (arith, mul-add (f * suc j) d 1, mul-one (f * suc j)) in
      rw (miss_next, miss_after e (suc j) h)
      (omega (arith, turn, more, add-mul below (f * suc j) (d + 1), mul-le-mul_right (suc j) part, mul-pos (mul-pos rate step) pos))

  -- A tie would make 20,000,000 a multiple of 2 d (d + 1).
  pub tie : below * d ≡ above * (d + 1) → 20000000 % (2 * (d * (d + 1))) ≡ 0
  tie even =
      let split : above * (d + 1) ≡ above * d + above = omega (arith, mul-add above d 1, mul-one above) in
      let low : above ≤ below
      = elim (dec_lt below above) [ yes less ↦ omega (arith, mul-le-mul_right d (le_of_lt less)) | no less ↦ omega arith ] in
      let t : ℕ = below - above in
      let rest : above + t ≡ below = omega arith in
      let times : t * d ≡ above = omega (arith, add-mul above t d, ap (λ (m : ℕ). m * d) rest) in
      let twice : 20000000 ≡ 2 * (above * (d + 1)) = omega (arith, ap (λ (m : ℕ). m * d) parts, add-mul above below d) in
      let fold : above * (d + 1) ≡ d * (d + 1) * t
      = ap (λ (m : ℕ). m * (d + 1)) (sym times) ∙ mul_assoc t d (d + 1) ∙ mul_comm t (d * (d + 1)) in
      let multiple : 20000000 ≡ 2 * (d * (d + 1)) * t = twice ∙ ap (λ (m : ℕ). 2 * m) fold ∙ sym (mul_assoc 2 (d * (d + 1)) t) in
      ap (λ (m : ℕ). m % (2 * (d * (d + 1)))) multiple ∙ mul-mod_right (2 * (d * (d + 1))) t
