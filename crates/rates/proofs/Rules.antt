-- A rule of a table, proved at all of its entries by one test that antt computes, one entry after the other.
use mathlib.Core.Path.{◌≡◌}
use mathlib.Core.Bool.{Bool, true, false, ◌&&◌}
use mathlib.Core.List.{List, [], ◌∷◌}
use Prim.Native.Nat.{ℕ, zero, suc, ◌+◌, ◌<◌}
use native.Mathlib.Nat.{add-zero, zero-add, le_of_suc-le-suc, not-suc-le-zero}
use native.Mathlib.Omega.{arith}
use lib.Dec.{T, ltb, ltb→lt}
use lib.ListN.{length, get_or}

both_left : (a b : Bool) → T (a && b) → T a
both_left true b t = tt
both_left false b t = t

both_right : (a b : Bool) → T (a && b) → T b
both_right true b t = t
both_right false b t = absurd t

-- the test passes at each entry and its place, counted from i
abbrev pub every : (ℕ → ℕ → Bool) → ℕ → List ℕ → Bool
every f i [] = true
every f i (x ∷ xs) = f i x && every f (suc i) xs

from : (f : ℕ → ℕ → Bool) (xs : List ℕ) (i : ℕ) → T (every f i xs) → (k : ℕ) → k < length xs → T (f (i + k) (get_or xs k 0))
from f [] i t k h = absurd (not-suc-le-zero h)
from f (x ∷ xs) i t zero h = rw (add-zero i) (both_left (f i x) (every f (suc i) xs) t)
from f (x ∷ xs) i t (suc k) h =
    let next : i + suc k ≡ suc i + k = omega arith in
    rw next (from f xs (suc i) (both_right (f i x) (every f (suc i) xs) t) k (le_of_suc-le-suc h))

pub at : (f : ℕ → ℕ → Bool) (xs : List ℕ) → T (every f 0 xs) → (k : ℕ) → k < length xs → T (f k (get_or xs k 0))
at f xs t k h = rw (zero-add k) at (from f xs 0 t k h)

-- the same, where the table's length is known by an equation
pub everywhere : (f : ℕ → ℕ → Bool) (n : ℕ) (xs : List ℕ) → T (every f 0 xs) → length xs ≡ n → (k : ℕ) → k < n → T (f k (get_or xs k 0))
everywhere f n xs t e k h = at f xs t k (rw e h)

-- each entry is below the one before it, and the first is below a bound
abbrev pub falls : ℕ → List ℕ → Bool
falls top [] = true
falls top (x ∷ xs) = ltb x top && falls x xs

below_top : (top : ℕ) (xs : List ℕ) → T (falls top xs) → (k : ℕ) → k < length xs → get_or xs k 0 < top
below_top top [] t k h = absurd (not-suc-le-zero h)
below_top top (x ∷ xs) t zero h = ltb→lt x top (both_left (ltb x top) (falls x xs) t)
below_top top (x ∷ xs) t (suc k) h =
    let first : x < top = ltb→lt x top (both_left (ltb x top) (falls x xs) t) in
    let later : get_or xs k 0 < x = below_top x xs (both_right (ltb x top) (falls x xs) t) k (le_of_suc-le-suc h) in
    omega arith

pub falling : (top : ℕ) (xs : List ℕ) → T (falls top xs) → (j k : ℕ) → j < k → k < length xs → get_or xs k 0 < get_or xs j 0
falling top [] t j k l h = absurd (not-suc-le-zero h)
falling top (x ∷ xs) t j zero l h = absurd (not-suc-le-zero l)
falling top (x ∷ xs) t zero (suc k) l h = below_top x xs (both_right (ltb x top) (falls x xs) t) k (le_of_suc-le-suc h)
falling top (x ∷ xs) t (suc j) (suc k) l h =
    falling x xs (both_right (ltb x top) (falls x xs) t) j k (le_of_suc-le-suc l) (le_of_suc-le-suc h)
