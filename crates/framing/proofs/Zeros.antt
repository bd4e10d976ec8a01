-- "Unused places are zero", tested without an early return: the bytes are joined by `or`, which is zero where all of them are.
use Prim.Native.Nat.{ℕ, zero, suc, ◌+◌, ◌-◌, ◌≤◌, ◌<◌, min}
use mathlib.Core.Path.{◌≡◌, refl, ap}
use mathlib.Core.Bool.{Bool, true, false, ◌&&◌, and_assoc}
use mathlib.Core.List.{List, [], ◌∷◌}
use native.Mathlib.Decide.{dec_lt}
use native.Mathlib.Numerals.{add-one}
use native.Mathlib.Omega.{arith}
use borrow.Author.Tests.{eq-eqb, ne_eqb}
use lib.Bits.{bit_or, bit_and, or_add_and, and_le_l, and_le_r}
use lib.Dec.{eqb}
use lib.ListN.{length, get_or, take, drop, length-drop}
use lib.Seq.{drop-cons, take_all, take-nil}
use Rattle.framing.specs.Framing.{zeros}

pub or_zero : (a b : ℕ) → eqb (bit_or a b) 0 ≡ (eqb a 0 && eqb b 0)
or_zero a b =
    let sum : bit_or a b + bit_and a b ≡ a + b = or_add_and a b in
    let left : bit_and a b ≤ a = and_le_l a b in
    let right : bit_and a b ≤ b = and_le_r a b in
    elim (dec_lt 0 a) [
      | yes w ↦ rw (ne_eqb (bit_or a b) 0 (λ e. omega arith), ne_eqb a 0 (λ e. omega arith)) refl
      | no w ↦ elim (dec_lt 0 b) [
        | yes v ↦ rw (ne_eqb (bit_or a b) 0 (λ e. omega arith), eq-eqb a 0 (omega arith), ne_eqb b 0 (λ e. omega arith)) refl
        | no v ↦ rw (eq-eqb (bit_or a b) 0 (omega arith), eq-eqb a 0 (omega arith), eq-eqb b 0 (omega arith)) refl
      ]
    ]

-- one byte more joined, one fewer to come
pub zeros_next : (l : List ℕ) (i a : ℕ) (z : Bool) → i < length l → (eqb a 0 && zeros (drop i l)) ≡ z
    → (eqb (bit_or a (get_or l i 0)) 0 && zeros (drop (i + 1) l)) ≡ z
zeros_next l i a z more so = rw (or_zero a (get_or l i 0), and_assoc) (rw add-one (rw (drop-cons l i 0 more) at so))

-- ---- a list is zero where a window at its start is, and the rest from a place that the window reaches

absorbed : (n : ℕ) (l : List ℕ) → (zeros (take n l) && zeros l) ≡ zeros l
absorbed zero l = refl
absorbed (suc n) [] = refl
absorbed (suc n) (b ∷ l) = both (eqb b 0) (absorbed n l)
  where
    both : (x : Bool) → (zeros (take n l) && zeros l) ≡ zeros l → ((x && zeros (take n l)) && (x && zeros l)) ≡ (x && zeros l)
    both true h = h
    both false h = refl

reached : (n b : ℕ) (l : List ℕ) → b ≤ n → (zeros (take n l) && zeros (drop b l)) ≡ zeros l
reached n zero l h = absorbed n l
reached zero (suc b) l h = absurd (omega arith)
reached (suc n) (suc b) [] h = refl
reached (suc n) (suc b) (x ∷ l) h = rw and_assoc (ap (λ (z : Bool). eqb x 0 && z) (reached n b l (omega arith)))

pub windowed : (n a b : ℕ) (l : List ℕ) → a ≤ b → b ≤ a + n → (zeros (take n (drop a l)) && zeros (drop b l)) ≡ zeros (drop a l)
windowed n zero b l low high = reached n b l (omega arith)
windowed n (suc a) zero l low high = absurd (omega arith)
windowed n (suc a) (suc b) [] low high = rw (take-nil n) refl
windowed n (suc a) (suc b) (x ∷ l) low high = windowed n a b l (omega arith) (omega arith)

-- ---- the windows of a store

module _ (l : List ℕ) (long : length l ≡ 64) where
  -- the last stretch is looked at byte by byte
  pub last_places : (from : ℕ) → zeros (take (64 - from) (drop from l)) ≡ zeros (drop from l)
  last_places from = ap zeros (take_all (64 - from) (drop from l) (simp length-drop (omega arith)))

  pub four_windows : (from second third a b c d : ℕ) → from ≤ 48 → second ≡ min (from + 16) 48 → third ≡ min (from + 32) 48
      → eqb a 0 ≡ zeros (take 16 (drop from l)) → eqb b 0 ≡ zeros (take 16 (drop second l))
      → eqb c 0 ≡ zeros (take 16 (drop third l)) → eqb d 0 ≡ zeros (take 16 (drop 48 l))
      → eqb (bit_or (bit_or (bit_or a b) c) d) 0 ≡ zeros (drop from l)
  four_windows from second third a b c d low at_second at_third ea eb ec ed =
      let one = zeros (take 16 (drop from l)) in
      let two = zeros (take 16 (drop second l)) in
      let three = zeros (take 16 (drop third l)) in
      rw (or_zero (bit_or (bit_or a b) c) d, or_zero (bit_or a b) c, or_zero a b, ea, eb, ec, ed, last_places 48)
      (rw (and_assoc (one && two) three (zeros (drop 48 l)), windowed 16 third 48 l (omega arith) (omega arith))
      (rw (and_assoc one two (zeros (drop third l)), windowed 16 second third l (omega arith) (omega arith))
      (windowed 16 from second l (omega arith) (omega arith))))
