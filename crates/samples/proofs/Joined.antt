-- All are samples exactly if the numbers that tell how far each lies above the least sample, joined by `or`, are below 2 ^ 24;
-- and so in two parts that have all of them between them. Assumes nothing.
use Prim.Native.Nat.{ℕ, zero, suc, ◌+◌, ◌-◌, ◌%◌, ◌≤◌, ◌<◌}
use mathlib.Core.Path.{◌≡◌, refl, sym, ap, ◌∙◌}
use mathlib.Core.Bool.{Bool, true, false, ◌&&◌, and-true, and_assoc}
use mathlib.Core.List.{List, [], ◌∷◌}
use native.Mathlib.Nat.{add-zero}
use native.Mathlib.Decide.{dec_lt}
use native.Mathlib.Omega.{arith}
use lib.Bits.{bit_or, bit_and, or_add_and, or_lt, and_le_l, and_le_r}
use lib.Dec.{leb, ltb}
use lib.IntN.{ℤ, pos, negsuc}
use lib.ListN.{length, get_or, take, drop, drop_of_length-le}
use lib.Seq.{length-take-le, get_or-take, take-nil, drop-nil}
use lib.Signed.{mag}
use borrow.Author.Tests.{lt-ltb, le-ltb, le-leb, lt-leb}
use Rattle.packets.specs.Samples.{is_sample, all_samples}
use Rattle.samples.proofs.Codes.{lifted}
use Rattle.samples.proofs.Written.{from_here}

-- numbers joined by `or` are below 2 ^ 24 exactly if both are
or_below : (a b : ℕ) → ltb (bit_or a b) 16_777_216 ≡ ltb a 16_777_216 && ltb b 16_777_216
or_below a b =
    let sum : bit_or a b + bit_and a b ≡ a + b = or_add_and a b in
    let left : bit_and a b ≤ a = and_le_l a b in
    let right : bit_and a b ≤ b = and_le_r a b in
    elim (dec_lt a 16_777_216) [
      | yes u ↦ elim (dec_lt b 16_777_216) [
        | yes v ↦ rw (lt-ltb (bit_or a b) 16_777_216 (or_lt 24 a b u v), lt-ltb a 16_777_216 u, lt-ltb b 16_777_216 v) refl
        | no v ↦ rw (le-ltb (bit_or a b) 16_777_216 (omega arith), lt-ltb a 16_777_216 u, le-ltb b 16_777_216 (omega arith)) refl
      ]
      | no u ↦ rw (le-ltb (bit_or a b) 16_777_216 (omega arith), le-ltb a 16_777_216 (omega arith)) refl
    ]

-- two tests that pass on the same side of 8,388,607
alike : (n r : ℕ) → (n ≤ 8_388_607 → r < 16_777_216) → (8_388_607 < n → 16_777_216 ≤ r) → ltb r 16_777_216 ≡ leb n 8_388_607
alike n r inside outside =
    elim (dec_lt 8_388_607 n) [
      | yes o ↦ rw (le-ltb r 16_777_216 (outside o), lt-leb n 8_388_607 o) refl
      | no o ↦ let low : n ≤ 8_388_607 = omega arith in rw (lt-ltb r 16_777_216 (inside low), le-leb n 8_388_607 low) refl
    ]

-- z + 2 ^ 23, modulo 2 ^ 32, is below 2 ^ 24 exactly for a sample
pub lifted_sample : (z : ℤ) (r : ℕ) → mag z < 2_147_483_648 → r ≡ lifted 4_303_355_904 z % 4_294_967_296 → ltb r 16_777_216 ≡ is_sample z
lifted_sample (pos n) r fits is = alike n r (λ low. omega arith) (λ high. omega arith)
lifted_sample (negsuc n) r fits is = alike n r (λ low. omega arith) (λ high. omega arith) ∙ sym (and-true (leb n 8_388_607))

-- what was joined is below 2 ^ 24, and the rest are samples
abbrev joined_fit : ℕ → List ℤ → Bool
joined_fit a zs = ltb a 16_777_216 && all_samples zs

look_one : (zs : List ℤ) (i a b : ℕ) → i < length zs → ltb b 16_777_216 ≡ is_sample (get_or zs i (pos 0))
    → joined_fit (bit_or a b) (drop (i + 1) zs) ≡ joined_fit a (drop i zs)
look_one zs i a b h is =
    rw (or_below a b, is, from_here zs i h) (and_assoc (ltb a 16_777_216) (is_sample (get_or zs i (pos 0))) (all_samples (drop (i + 1) zs)))

look_end : (zs : List ℤ) (i a : ℕ) → length zs ≤ i → joined_fit a (drop i zs) ≡ ltb a 16_777_216
look_end zs i a h = rw (drop_of_length-le zs {i = i} h) (and-true (ltb a 16_777_216))

-- The first n, and those from the m-th on: all are samples exactly if all of both parts are.
both_parts : (zs : List ℤ) (n m : ℕ) → m ≤ n → all_samples (take n zs) && all_samples (drop m zs) ≡ all_samples zs
both_parts [] n m h = rw (take-nil n, drop-nil m) refl
both_parts (z ∷ zs) zero zero h = refl
both_parts (z ∷ zs) zero (suc m) h = absurd (omega arith)
both_parts (z ∷ zs) (suc n) zero h = again (is_sample z) (all_samples (take n zs)) (all_samples zs) (both_parts zs n zero (omega arith))
  where
    again : (s a b : Bool) → a && b ≡ b → s && a && (s && b) ≡ s && b
    again true a b e = e
    again false a b e = refl
both_parts (z ∷ zs) (suc n) (suc m) h =
    and_assoc (is_sample z) (all_samples (take n zs)) (all_samples (drop m zs))
    ∙ ap (λ (b : Bool). is_sample z && b) (both_parts zs n m (omega arith))

-- Two parts looked at side by side: those from the m-th on, and as many from the first on.
module _ (zs : List ℤ) (m : ℕ) where
  -- what was joined of each up to its i-th is below 2 ^ 24, and the rest of both are samples
  abbrev pub both_fit : ℕ → ℕ → ℕ → Bool
  both_fit a b i = joined_fit a (drop i (take (length zs - m) zs)) && joined_fit b (drop (m + i) zs)

  pub both_begin : m ≤ length zs - m → both_fit 0 0 0 ≡ all_samples zs
  both_begin h = rw (add-zero m) (both_parts zs (length zs - m) m h)

  as_many : length (take (length zs - m) zs) ≡ length zs - m
  as_many = length-take-le (length zs - m) zs (omega arith)

  pub both_turn : (a b i c d : ℕ) → i < length zs - m → ltb c 16_777_216 ≡ is_sample (get_or zs i (pos 0))
      → ltb d 16_777_216 ≡ is_sample (get_or zs (m + i) (pos 0)) → both_fit (bit_or a c) (bit_or b d) (i + 1) ≡ both_fit a b i
  both_turn a b i c d h is_c is_d =
      let next : m + (i + 1) ≡ m + i + 1 = omega arith in
      let first = look_one (take (length zs - m) zs) i a c (omega (arith, as_many)) (rw (get_or-take (length zs - m) zs i (pos 0) h) is_c) in
      rw (next, first, look_one zs (m + i) b d (omega arith) is_d) refl

  pub both_end : (a b i : ℕ) → length zs - m ≤ i → both_fit a b i ≡ ltb (bit_or a b) 16_777_216
  both_end a b i h =
      let first = look_end (take (length zs - m) zs) i a (omega (arith, as_many)) in
      rw (first, look_end zs (m + i) b (omega arith)) (sym (or_below a b))
