-- Testing a serial byte by byte, and the eight bytes of one.
use Prim.Native.Nat.{ℕ, suc, ◌+◌, ◌≤◌, ◌<◌}
use mathlib.Core.Path.{◌≡◌, refl, sym, ◌∙◌}
use mathlib.Core.Bool.{Bool, ◌&&◌, and-true, and_assoc}
use mathlib.Core.List.{List, [], ◌∷◌}
use native.Mathlib.Omega.{arith}
use native.Mathlib.Numerals.{add-one}
use lib.ListN.{length, get_or, drop, drop_of_length-le}
use lib.Seq.{drop-cons}
use native.Mathlib.Nat.{div-div-eq-div-mul}
use Rattle.std.specs.Int.{to_le_bytes, w64}
use Rattle.wire.specs.Number.{bytes}
use Rattle.items.specs.Settings.{is_serial_byte, all_serial}

-- one byte more is tested
pub serial_turn : (l : List ℕ) (i : ℕ) (all b : Bool) → i < length l → b ≡ is_serial_byte (get_or l i 0)
    → all_serial l ≡ all && all_serial (drop i l) → all_serial l ≡ (all && b) && all_serial (drop (i + 1) l)
serial_turn l i all b h is so =
    so ∙ rw (drop-cons l i 0 h, add-one i, is) (sym (and_assoc all (is_serial_byte (get_or l i 0)) (all_serial (drop (suc i) l))))

-- all are
pub serial_end : (l : List ℕ) (i : ℕ) (all : Bool) → length l ≤ i → all_serial l ≡ all && all_serial (drop i l) → all ≡ all_serial l
serial_end l i all h so = sym (so ∙ rw (drop_of_length-le l h) (and-true all))

-- eight bytes one by one
pub eight : (l : List ℕ) → length l ≡ 8
    → get_or l 0 0 ∷ get_or l 1 0 ∷ get_or l 2 0 ∷ get_or l 3 0 ∷ get_or l 4 0 ∷ get_or l 5 0 ∷ get_or l 6 0 ∷ get_or l 7 0 ∷ [] ≡ l
eight l h =
    let at : (i : ℕ) → i < 8 → drop i l ≡ get_or l i 0 ∷ drop (suc i) l = λ i lt. drop-cons l i 0 (omega arith) in
    sym
    (at 0 (omega arith)
    ∙ rw (
      at 1 (omega arith),
      at 2 (omega arith),
      at 3 (omega arith),
      at 4 (omega arith),
      at 5 (omega arith),
      at 6 (omega arith),
      at 7 (omega arith),
      drop_of_length-le l {i = 8} (omega arith),
    ) refl)

-- the library's eight bytes of a number
pub le_bytes : (n : ℕ) → to_le_bytes w64 n ≡ bytes 8 n
le_bytes n = simp div-div-eq-div-mul
