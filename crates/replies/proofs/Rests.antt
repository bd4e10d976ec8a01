-- Two lists of bytes compared from a place on: while what was compared is the same, the lists are the same as their rests are.
use Prim.Native.Nat.{ℕ, zero, suc, ◌+◌, ◌≤◌, ◌<◌}
use mathlib.Core.Path.{◌≡◌, refl, sym, ap, ◌∙◌}
use mathlib.Core.List.{List, [], ◌∷◌}
use native.Mathlib.Omega.{arith}
use lib.ListN.{length, get_or, take, drop, length-drop}
use lib.Seq.{drop-drop}
use borrow.Author.Tests.{eq-eqb}
use Rattle.wire.specs.Number.{bytes, field}
use Rattle.wire.specs.Lists.{same}
use Rattle.wire.proofs.Numbers.{field_bytes_lem}

-- behind a front that they share
same_behind : (k : ℕ) (l m : List ℕ) → k ≤ length l → k ≤ length m → take k l ≡ take k m → same l m ≡ same (drop k l) (drop k m)
same_behind zero l m p q e = refl
same_behind (suc k) [] m p q e = absurd (omega arith)
same_behind (suc k) (a ∷ l) [] p q e = absurd (omega arith)
same_behind (suc k) (a ∷ l) (b ∷ m) p q e =
    let head : a ≡ b = ap (λ (r : List ℕ). get_or r 0 0) e in
    rw (eq-eqb a b head) (same_behind k l m (omega arith) (omega arith) (ap (drop 1) e))

module _ (a b : List ℕ) (even : length a ≡ length b) where
  -- a word is passed
  pub word_turn : ((k : ℕ) → get_or a k 0 < 256) → ((k : ℕ) → get_or b k 0 < 256) → (i : ℕ) → i + 8 ≤ length a
      → field i 8 a ≡ field i 8 b → same (drop i a) (drop i b) ≡ same (drop (i + 8) a) (drop (i + 8) b)
  word_turn small_a small_b i room is =
      let front : take 8 (drop i a) ≡ take 8 (drop i b)
      = sym (field_bytes_lem i 8 a small_a room) ∙ ap (bytes 8) is ∙ field_bytes_lem i 8 b small_b (omega arith) in
      rw (← drop-drop 8 i a, ← drop-drop 8 i b)
      (same_behind 8 (drop i a) (drop i b) (simp length-drop (omega arith)) (simp length-drop (omega arith)) front)
