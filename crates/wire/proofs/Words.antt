-- Numbers by words of four bytes. Assumes nothing.
use Prim.Native.Nat.{ℕ, zero, suc, ◌+◌, ◌*◌, ◌/◌, ◌%◌, ◌^◌, ◌≤◌, ◌<◌}
use mathlib.Core.Path.{◌≡◌, refl, ap, ◌∙◌}
use mathlib.Core.List.{List, [], ◌∷◌, ◌++◌}
use native.Mathlib.Nat.{zero-add, add-zero, suc-add, mul_assoc, pow-succ'}
use native.Mathlib.Omega.{arith}
use native.Mathlib.Numerals.{add-one}
use lib.ListN.{length, get_or, set}
use lib.Seq.{sets}
use Rattle.std.specs.Int.{w32, to_le_bytes}
use Rattle.wire.specs.Number.{number, bytes, field}
use Rattle.wire.proofs.Numbers.{field_step}

-- the field after a place: its first byte, and 256 times the field after that
pub field_on : (s : List ℕ) (at k n : ℕ) → at + k < length s → field (at + k) (suc n) s ≡ get_or s (at + k) 0 + 256 * field (at + suc k) n s
field_on s at k n h =
    let next : suc (at + k) ≡ at + suc k = omega arith in
    rw next at (field_step s (at + k) n h)

-- a field in two parts
pub field_split : (s : List ℕ) (at n m : ℕ) → at + n ≤ length s → field at (n + m) s ≡ field at n s + 256 ^ n * field (at + n) m s
field_split s at zero m h = rw (zero-add m, add-zero at) (omega arith)
field_split s at (suc n) m h =
    let here : at < length s = omega arith in
    let later = field_split s (suc at) n m (omega arith) in
    let place : suc at + n ≡ at + suc n = omega arith in
    let power : 256 ^ suc n * field (at + suc n) m s ≡ 256 * (256 ^ n * field (at + suc n) m s)
    = ap (λ (k : ℕ). k * field (at + suc n) m s) (pow-succ' 256 n) ∙ mul_assoc 256 (256 ^ n) (field (at + suc n) m s) in
    rw (suc-add n m, field_step s at (n + m) here, field_step s at n here)
    (omega (arith, later, ap (λ (k : ℕ). 256 ^ n * field k m s) place, power))

-- the four bytes at a place
pub field_four : (s : List ℕ) (at : ℕ) → at + 4 ≤ length s
    → number (get_or s at 0 ∷ get_or s (at + 1) 0 ∷ get_or s (at + 2) 0 ∷ get_or s (at + 3) 0 ∷ []) ≡ field at 4 s
field_four s at h =
    let first : field at 4 s ≡ get_or s at 0 + 256 * field (at + 1) 3 s = rw (add-one at) (field_step s at 3 (omega arith)) in
    omega (arith, first, field_on s at 1 2 (omega arith), field_on s at 2 1 (omega arith), field_on s at 3 0 (omega arith))

-- eight bytes are two words
pub field_eight : (s : List ℕ) (at : ℕ) → at + 8 ≤ length s → field at 4 s + 4294967296 * field (at + 4) 4 s ≡ field at 8 s
field_eight s at h =
    let first : field at 8 s ≡ get_or s at 0 + 256 * field (at + 1) 7 s = rw (add-one at) (field_step s at 7 (omega arith)) in
    let low : field at 4 s ≡ get_or s at 0 + 256 * field (at + 1) 3 s = rw (add-one at) (field_step s at 3 (omega arith)) in
    omega (
      arith,
      first,
      low,
      field_on s at 1 6 (omega arith),
      field_on s at 2 5 (omega arith),
      field_on s at 3 4 (omega arith),
      field_on s at 1 2 (omega arith),
      field_on s at 2 1 (omega arith),
      field_on s at 3 0 (omega arith),
    )

pub bytes_eight : (v : ℕ) → bytes 4 v ++ bytes 4 (v / 4294967296) ≡ bytes 8 v
bytes_eight v =
    let high : v / 4294967296 ≡ v / 256 / 256 / 256 / 256 = omega arith in
    rw high refl

-- four bytes stored one behind the other
pub word_put : (l : List ℕ) (at v : ℕ)
    → set (set (set (set l at (v % 256)) (at + 1) (v / 256 % 256)) (at + 2) (v / 65536 % 256)) (at + 3) (v / 16777216 % 256)
    ≡ sets l at (bytes 4 v)
word_put l at v =
    let one : at + 1 ≡ suc at = omega arith in
    let two : at + 2 ≡ suc (suc at) = omega arith in
    let three : at + 3 ≡ suc (suc (suc at)) = omega arith in
    let third : v / 65536 ≡ v / 256 / 256 = omega arith in
    let fourth : v / 16777216 ≡ v / 256 / 256 / 256 = omega arith in
    rw (one, two, three, third, fourth) refl

-- the low four bytes, as the library writes them
pub le_four : (v : ℕ) → to_le_bytes w32 (v % 4294967296) ≡ bytes 4 v
le_four v =
    let first : v % 4294967296 % 256 ≡ v % 256 = omega arith in
    let second : v % 4294967296 / 256 % 256 ≡ v / 256 % 256 = omega arith in
    let third : v % 4294967296 / 65536 % 256 ≡ v / 256 / 256 % 256 = omega arith in
    let fourth : v % 4294967296 / 16777216 % 256 ≡ v / 256 / 256 / 256 % 256 = omega arith in
    rw (first, second, third, fourth) refl

-- m bytes, and n more, as one number
pub bytes_join : (m n a b : ℕ) → a < 256 ^ m → bytes (m + n) (a + 256 ^ m * b) ≡ bytes m a ++ bytes n b
bytes_join zero n a b h =
    let same : a + 256 ^ 0 * b ≡ b = omega arith in
    rw (zero-add n, same) refl
bytes_join (suc m) n a b h =
    let power : 256 ^ suc m ≡ 256 * 256 ^ m = omega arith in
    let turn : 256 ^ suc m * b ≡ 256 * (256 ^ m * b) = ap (λ (k : ℕ). k * b) power ∙ mul_assoc 256 (256 ^ m) b in
    let low : (a + 256 ^ suc m * b) % 256 ≡ a % 256 = omega arith in
    let rest : (a + 256 ^ suc m * b) / 256 ≡ a / 256 + 256 ^ m * b = omega arith in
    let small : a / 256 < 256 ^ m = omega arith in
    rw (suc-add m n, low, rest) (ap (λ (l : List ℕ). a % 256 ∷ l) (bytes_join m n (a / 256) b small))
