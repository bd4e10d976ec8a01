-- Signed numbers in k bits: what is coded comes back.
use Prim.Native.Nat.{ℕ, suc, ◌+◌, ◌-◌, ◌^◌, ◌≤◌, ◌<◌}
use mathlib.Core.Path.{◌≡◌, ap, ◌∙◌}
use native.Mathlib.Omega.{arith}
use lib.IntN.{ℤ, pos, negsuc}
use lib.Signed.{mag}
use borrow.Author.Tests.{lt-ltb, le-ltb}
use Rattle.wire.specs.Signed.{coded, signed}

-- the power is twice its half
halves : (k : ℕ) → 1 ≤ k → 2 ^ k ≡ 2 ^ (k - 1) + 2 ^ (k - 1)
halves k h =
    let e : k ≡ suc (k - 1) = omega arith in
    ap (λ (n : ℕ). 2 ^ n) e ∙ omega arith

pub coded_below : (k : ℕ) (z : ℤ) → 1 ≤ k → mag z < 2 ^ (k - 1) → coded k z < 2 ^ k
coded_below k (pos n) some h = omega (arith, halves k some)
coded_below k (negsuc n) some h = omega (arith, halves k some)

pub signed_coded : (k : ℕ) (z : ℤ) → 1 ≤ k → mag z < 2 ^ (k - 1) → signed k (coded k z) ≡ z
signed_coded k (pos n) some h = simp (lt-ltb n (2 ^ (k - 1)) h)
signed_coded k (negsuc n) some h =
    simp (le-ltb (2 ^ k - suc n) (2 ^ (k - 1)) (omega (arith, halves k some))) (ap negsuc (omega (arith, halves k some)))
