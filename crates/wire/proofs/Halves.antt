-- A quotient rounded to the nearest whole number, halves up.
-- Assumes nothing.
use Prim.Native.Nat.{ℕ, suc, ◌+◌, ◌*◌, ◌/◌, ◌≤◌, ◌<◌}
use mathlib.Core.Path.{◌≡◌, refl, sym, ap, ◌∙◌}
use mathlib.Core.Bool.{Bool, true, false, ◌&&◌}
use native.Mathlib.Nat.{div-mul-le_self, lt-mul-div-succ, le-div_iff_mul-le, div-lt_iff_lt-mul}
use native.Mathlib.Nat.{mul_comm, mul_assoc, mul-add, mul-suc, mul-le-mul_left}
use native.Mathlib.Omega.{arith}
use native.Mathlib.Decide.{dec_lt}
use lib.Dec.{leb, ltb, eqb}
use borrow.Author.Tests.{leb-true, leb-false, ltb-true, ltb-false, eq-eqb, ne_eqb}
use Rattle.wire.specs.Halves.{halves_up, apart, NearestUp}

-- A multiple of c that lies at most half of c above x, and less than half of c below, is the nearest of them.
half_nearest : (x c w : ℕ) → 2 * (c * w) ≤ 2 * x + c → 2 * x < 2 * (c * w) + c → NearestUp x c w
half_nearest x c w above below =
    record {
      nearest =
          λ v. elim (dec_lt v w) [
            | yes less ↦ omega (arith, lower v less)
            | no less ↦ elim (dec_lt w v) [ yes more ↦ omega (arith, higher v more) | no more ↦ omega (arith, same v (omega arith)) ]
          ];
      up = λ v e. elim (dec_lt w v) [ yes more ↦ omega (arith, higher v more) | no more ↦ omega arith ];
    }
  where
    lower : (v : ℕ) → v < w → c * v + c ≤ c * w
    lower v less =
        let next : c * suc v ≡ c * v + c = mul-suc c v in
        omega (arith, next, mul-le-mul_left c less)

    higher : (v : ℕ) → w < v → c * w + c ≤ c * v
    higher v more =
        let next : c * suc w ≡ c * w + c = mul-suc c w in
        omega (arith, next, mul-le-mul_left c more)

    same : (v : ℕ) → w ≡ v → c * w ≡ c * v
    same v e = ap (λ (n : ℕ). c * n) e

-- `halves_up` is the nearest whole number, halves up
pub half_up : (x c : ℕ) → 0 < c → NearestUp x c (halves_up x c)
half_up x c some =
    let w : ℕ = halves_up x c in
    let twice : 0 < 2 * c = omega arith in
    let whole : w * (2 * c) ≡ 2 * (c * w) = mul_comm w (2 * c) ∙ mul_assoc 2 c w in
    let next : 2 * c * (w + 1) ≡ 2 * (c * w) + 2 * c = mul-add (2 * c) w 1 ∙ omega (arith, mul_assoc 2 c w) in
    half_nearest x c w
    (omega (arith, whole, div-mul-le_self (2 * x + c) (2 * c)))
    (omega (arith, next, lt-mul-div-succ (2 * x + c) twice))

-- no two numbers are that
pub nearest_up_one : (x c v w : ℕ) → NearestUp x c v → NearestUp x c w → v ≡ w
nearest_up_one x c v w p q =
    let even : apart (c * w) x ≡ apart (c * v) x = omega (arith, p.nearest w, q.nearest v) in
    omega (arith, p.up w even, q.up v (sym even))

-- ---- a quotient told by a product, with no division

-- c-fold it is at most x, and c-fold the next number is more
quotient_is : (x c w : ℕ) → 0 < c → c * w ≤ x → x < c * w + c → w ≡ x / c
quotient_is x c w some low high =
    let at_least : w ≤ x / c = (le-div_iff_mul-le some).1 (omega (arith, mul_comm w c)) in
    let below : x / c < suc w = (div-lt_iff_lt-mul some).1 (omega (arith, mul_comm (suc w) c, mul-suc c w)) in
    omega arith

pub by_product : (x c w : ℕ) → 0 < c → (leb (c * w) x && ltb x (c * w + c)) ≡ eqb w (x / c)
by_product x c w some = go (leb (c * w) x) (ltb x (c * w + c)) refl refl
  where
    low : w ≡ x / c → c * w ≤ x
    low e = omega (arith, ap (λ (n : ℕ). c * n) e, mul_comm (x / c) c, div-mul-le_self x c)

    high : w ≡ x / c → x < c * w + c
    high e = omega (arith, ap (λ (n : ℕ). c * n) e, mul-add c (x / c) 1, lt-mul-div-succ x some)

    go : (p q : Bool) → leb (c * w) x ≡ p → ltb x (c * w + c) ≡ q → (p && q) ≡ eqb w (x / c)
    go true true l h = sym (eq-eqb w (x / c) (quotient_is x c w some (leb-true (c * w) x l) (ltb-true x (c * w + c) h)))
    go true false l h = sym (ne_eqb w (x / c) (λ e. omega (arith, high e, ltb-false x (c * w + c) h)))
    go false q l h = sym (ne_eqb w (x / c) (λ e. omega (arith, low e, leb-false (c * w) x l)))

-- rounded to the nearest, halves up: half a step more, rounded down
pub half_more : (x c : ℕ) → 0 < c → (x + c / 2) / c ≡ halves_up x c
half_more x c some =
    let w : ℕ = (x + c / 2) / c in
    let low : c * w ≤ x + c / 2 = omega (arith, mul_comm w c, div-mul-le_self (x + c / 2) c) in
    let high : x + c / 2 < c * w + c = omega (arith, mul-add c w 1, lt-mul-div-succ (x + c / 2) some) in
    let twice : 2 * c * w ≡ 2 * (c * w) = mul_assoc 2 c w in
    quotient_is (2 * x + c) (2 * c) w (omega arith) (omega (arith, twice, low)) (omega (arith, twice, high))
