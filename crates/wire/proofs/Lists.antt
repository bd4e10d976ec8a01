-- Laws of lists of bytes: each of a part is a byte, and the test that two lists are the same.
use Prim.Native.Nat.{ℕ, zero, suc, ◌<◌}
use mathlib.Core.Path.{◌≡◌, refl, sym}
use mathlib.Core.Bool.{Bool, true, false}
use mathlib.Core.List.{List, [], ◌∷◌, ◌++◌}
use native.Mathlib.Omega.{arith}
use borrow.Author.Tests.{eqb-true, eq-eqb}
use lib.Dec.{eqb}
use lib.ListN.{get_or, take, drop, replicate}
use Rattle.wire.specs.Lists.{all_bytes, same}
use Rattle.wire.proofs.Laws.{never, and_left, and_right, and_both}

-- ---- each is a byte

pub bytes_append : (a b : List ℕ) → all_bytes a → all_bytes b → all_bytes (a ++ b)
bytes_append [] b p q = q
bytes_append (x ∷ a) b p q = (p.0, bytes_append a b p.1 q)

pub bytes_take : (n : ℕ) (l : List ℕ) → all_bytes l → all_bytes (take n l)
bytes_take zero l p = tt
bytes_take (suc n) [] p = tt
bytes_take (suc n) (x ∷ l) p = (p.0, bytes_take n l p.1)

pub bytes_drop : (n : ℕ) (l : List ℕ) → all_bytes l → all_bytes (drop n l)
bytes_drop zero l p = p
bytes_drop (suc n) [] p = tt
bytes_drop (suc n) (x ∷ l) p = bytes_drop n l p.1

pub bytes_zero : (n : ℕ) → all_bytes (replicate n 0)
bytes_zero zero = tt
bytes_zero (suc n) = (omega arith, bytes_zero n)

-- the byte at a place, zero past the end
pub byte_at : (l : List ℕ) → all_bytes l → (k : ℕ) → get_or l k 0 < 256
byte_at [] p k = omega arith
byte_at (x ∷ l) p zero = p.0
byte_at (x ∷ l) p (suc k) = byte_at l p.1 k

-- ---- two are the same

pub same_refl : (l : List ℕ) → same l l ≡ true
same_refl [] = refl
same_refl (a ∷ l) = and_both (eqb a a) (same l l) (eq-eqb a a refl) (same_refl l)

pub same_eq : (l m : List ℕ) → same l m ≡ true → l ≡ m
same_eq [] [] e = refl
same_eq [] (b ∷ m) e = never e
same_eq (a ∷ l) [] e = never e
same_eq (a ∷ l) (b ∷ m) e =
    let head : a ≡ b = eqb-true a b (and_left (eqb a b) (same l m) e) in
    let tail : l ≡ m = same_eq l m (and_right (eqb a b) (same l m) e) in
    rw (head, tail)

pub eq_same : (l m : List ℕ) → l ≡ m → same l m ≡ true
eq_same l m e = rw e (same_refl m)

pub ne_same : (l m : List ℕ) → (l ≡ m → ⊥) → same l m ≡ false
ne_same l m h = go (same l m) refl
  where
    go : (t : Bool) → same l m ≡ t → t ≡ false
    go true e = absurd (h (same_eq l m e))
    go false e = refl

-- a test that holds exactly where the lists are the same
pub same_test : (t : Bool) (l m : List ℕ) → (t ≡ true → l ≡ m) → (l ≡ m → t ≡ true) → t ≡ same l m
same_test true l m to from = sym (eq_same l m (to refl))
same_test false l m to from = sym (ne_same l m (λ is. never (from is)))
