-- The ids of versions one by one.
use Prim.Native.Nat.{ℕ, zero, suc, ◌≤◌, ◌<◌}
use mathlib.Core.Path.{◌≡◌}
use mathlib.Core.Bool.{true, false}
use native.Mathlib.Omega.{arith}
use borrow.Author.Tests.{ltb-true, ltb-false}
use Rattle.items.specs.Items.{is_version}

-- what 0, 1, 2 and 3 have, the id of every version has
pub version_has : (P : ℕ → Type 0) → P 0 → P 1 → P 2 → P 3 → (id : ℕ) → is_version id ≡ true → P id
version_has P a b c d zero e = a
version_has P a b c d (suc zero) e = b
version_has P a b c d (suc (suc zero)) e = c
version_has P a b c d (suc (suc (suc zero))) e = d
version_has P a b c d (suc (suc (suc (suc n)))) e = absurd (over (ltb-true (suc (suc (suc (suc n)))) 4 e))
  where
    over : suc (suc (suc (suc n))) < 4 → ⊥
    over h = omega arith

-- and what every later number has, every other id has
pub no_version_has : (P : ℕ → Type 0) → ((k : ℕ) → P (suc (suc (suc (suc k))))) → (id : ℕ) → is_version id ≡ false → P id
no_version_has P past id e = go id (ltb-false id 4 e)
  where
    go : (n : ℕ) → 4 ≤ n → P n
    go zero h = absurd (omega arith)
    go (suc zero) h = absurd (omega arith)
    go (suc (suc zero)) h = absurd (omega arith)
    go (suc (suc (suc zero))) h = absurd (omega arith)
    go (suc (suc (suc (suc k)))) h = past k
