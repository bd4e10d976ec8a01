-- Fields of a few bytes, as sums and as parts of each other. Assumes nothing.
use Prim.Native.Nat.{ℕ, ◌+◌, ◌*◌, ◌/◌, ◌%◌, ◌≤◌, ◌<◌}
use mathlib.Core.Path.{◌≡◌, refl, ap, ◌∙◌}
use mathlib.Core.List.{List, ◌++◌}
use native.Mathlib.Omega.{arith}
use native.Mathlib.Numerals.{add-one}
use lib.ListN.{length, get_or, take, drop}
use lib.Seq.{drop-drop}
use Rattle.wire.specs.Number.{number, bytes, field}
use Rattle.wire.proofs.Numbers.{field_step}
use Rattle.wire.proofs.Words.{field_on, bytes_join}

-- a field after the leading bytes is a field of the packet
pub field_drop : (lead at n : ℕ) (p : List ℕ) → field at n (drop lead p) ≡ field (lead + at) n p
field_drop lead at n p = ap (λ (l : List ℕ). number (take n l)) (drop-drop at lead p)

-- the word that ends with three bytes, without its lowest byte
pub field_high : (s : List ℕ) (at : ℕ) → ((k : ℕ) → get_or s k 0 < 256) → at < length s → field at 4 s / 256 ≡ field (at + 1) 3 s
field_high s at small h =
    let step : field at 4 s ≡ get_or s at 0 + 256 * field (at + 1) 3 s = rw (add-one at) (field_step s at 3 h) in
    omega (arith, step, small at)

-- the two halves of a word
pub field_halves : (s : List ℕ) (at : ℕ) → ((k : ℕ) → get_or s k 0 < 256) → at + 2 ≤ length s
    → (field at 4 s % 65_536 ≡ field at 2 s) × (field at 4 s / 65_536 ≡ field (at + 2) 2 s)
field_halves s at small h =
    let four : field at 4 s ≡ get_or s at 0 + 256 * field (at + 1) 3 s = rw (add-one at) (field_step s at 3 (omega arith)) in
    let two : field at 2 s ≡ get_or s at 0 + 256 * field (at + 1) 1 s = rw (add-one at) (field_step s at 1 (omega arith)) in
    let three : field (at + 1) 3 s ≡ get_or s (at + 1) 0 + 256 * field (at + 2) 2 s = field_on s at 1 2 (omega arith) in
    let one : field (at + 1) 1 s ≡ get_or s (at + 1) 0 + 256 * field (at + 2) 0 s = field_on s at 1 0 (omega arith) in
    (omega (arith, small at, small (at + 1)), omega (arith, small at, small (at + 1)))

-- ---- numbers side by side in one word

second_byte : (c : ℕ) → c % 65_536 / 256 % 256 ≡ c / 256 % 256
second_byte c =
    let low : c % 65_536 ≡ c % 256 + 256 * (c / 256 % 256) = omega arith in
    omega arith

-- four numbers of 24 bits in three words
pub bytes_four : (a b c d : ℕ) → a < 16_777_216 → b < 16_777_216 → c < 16_777_216
    → (bytes 4 (a + 16_777_216 * (b % 256)) ++ bytes 4 (b / 256 + 65_536 * (c % 65_536))) ++ bytes 4 (c / 65_536 + 256 * d)
    ≡ bytes 3 a ++ (bytes 3 b ++ (bytes 3 c ++ bytes 3 d))
bytes_four a b c d ha hb hc =
    let middle = bytes 4 (b / 256 + 65_536 * (c % 65_536)) in
    let last = bytes 4 (c / 65_536 + 256 * d) in
    let first_byte : b % 256 % 256 ≡ b % 256 = omega arith in
    let low_byte : c % 65_536 % 256 ≡ c % 256 = omega arith in
    let high_byte : c / 65_536 ≡ c / 256 / 256 = omega arith in
    let one = bytes 3 a ++ bytes 1 (b % 256) in
    let two = bytes 2 (b / 256) ++ bytes 2 (c % 65_536) in
    ap (λ (l : List ℕ). (l ++ middle) ++ last) (bytes_join 3 1 a (b % 256) ha)
    ∙ ap (λ (l : List ℕ). (one ++ l) ++ last) (bytes_join 2 2 (b / 256) (c % 65_536) (omega arith))
    ∙ ap (λ (l : List ℕ). (one ++ two) ++ l) (bytes_join 1 3 (c / 65_536) d (omega arith))
    ∙ rw (first_byte, low_byte, second_byte c, high_byte) refl
