-- Laws of `sets`, the run of stores that the contracts speak of.
use Prim.Native.Nat.{ℕ, suc, ◌+◌, ◌-◌, ◌≤◌, ◌<◌, min}
use mathlib.Core.Path.{◌≡◌, refl, sym, ap, ◌∙◌}
use mathlib.Core.List.{List, [], ◌∷◌, ◌++◌, append_assoc, append-nil}
use native.Mathlib.Nat.{add-zero, add-suc, le_refl}
use native.Mathlib.Decide.{dec_lt}
use native.Mathlib.Numerals.{add-one}
use native.Mathlib.Omega.{arith}
use lib.ListN.{length, get_or, set, take, drop, length-take, length-drop, take-append-drop, drop_of_length-le}
use lib.Seq.{sets, drop-cons, drop-drop, sets-eq, set_out, take-set-le, drop-set-lt, drop-set-add, length-sets}
use lib.Seq.{take_all, take-append_seam, drop_at, length-take-le}
use borrow.Rule.Slice.PartMut.{mid_of, put_mid}

module _ {A : Type 0} where
  -- stores past the end store nothing
  pub sets_out : (l : List A) (i : ℕ) (vs : List A) → length l ≤ i → sets l i vs ≡ l
  sets_out l i [] h = refl
  sets_out l i (a ∷ vs) h = rw (set_out l i a h) (sets_out l (suc i) vs (omega arith))

  -- two runs, the second where the first ends, are one
  pub sets_append : (l : List A) (i : ℕ) (vs ws : List A) → sets (sets l i vs) (i + length vs) ws ≡ sets l i (vs ++ ws)
  sets_append l i [] ws = rw (add-zero i)
  sets_append l i (a ∷ vs) ws =
      let next : i + suc (length vs) ≡ suc i + length vs = omega arith in
      rw next (sets_append (set l i a) (suc i) vs ws)

  -- the same of lists that two calls leave
  pub sets_then : (l : List A) {l₁ l₂ : List A} (i : ℕ) (vs ws : List A)
      → l₁ ≡ sets l i vs → l₂ ≡ sets l₁ (i + length vs) ws → l₂ ≡ sets l i (vs ++ ws)
  sets_then l i vs ws first second = second ∙ rw first (sets_append l i vs ws)

  -- what stands before a run stays
  pub take_sets : (n : ℕ) (l : List A) (i : ℕ) (vs : List A) → n ≤ i → take n (sets l i vs) ≡ take n l
  take_sets n l i [] h = refl
  take_sets n l i (a ∷ vs) h = take_sets n (set l i a) (suc i) vs (omega arith) ∙ take-set-le n l i a h

  -- what stands after a run stays
  pub drop_sets : (n : ℕ) (l : List A) (i : ℕ) (vs : List A) → i + length vs ≤ n → drop n (sets l i vs) ≡ drop n l
  drop_sets n l i [] h = refl
  drop_sets n l i (a ∷ vs) h = drop_sets n (set l i a) (suc i) vs (omega arith) ∙ drop-set-lt n l i a (omega arith)

  -- a run within a part is a run within the whole
  pub drop_sets_add : (n : ℕ) (l : List A) (i : ℕ) (vs : List A) → drop n (sets l (n + i) vs) ≡ sets (drop n l) i vs
  drop_sets_add n l i [] = refl
  drop_sets_add n l i (a ∷ vs) =
      rw (← add-suc n i) (drop_sets_add n (set l (n + i) a) (suc i) vs ∙ ap (λ (r : List A). sets r (suc i) vs) (drop-set-add n l i a))

  -- the written part, taken back
  pub sets_taken : (l : List A) (i : ℕ) (vs : List A) → i + length vs ≤ length l → take (length vs) (drop i (sets l i vs)) ≡ vs
  sets_taken l i vs h =
      let front : length (take i l) ≡ i = length-take-le i l (omega arith) in
      rw (sets-eq vs l i h, append_assoc (take i l) vs (drop (i + length vs) l), drop_at (take i l) (vs ++ drop (i + length vs) l) i front)
      (take-append_seam vs (drop (i + length vs) l))

  -- a run as long as the list is the list
  pub sets_whole : (l vs : List A) → length vs ≡ length l → sets l 0 vs ≡ vs
  sets_whole l vs h =
      let none : drop (0 + length vs) l ≡ [] = drop_of_length-le l {i = 0 + length vs} (omega arith) in
      sets-eq vs l 0 (omega arith) ∙ rw none (append-nil vs)

  -- Writing through a part that goes on to the end of the slice is writing into the slice.
  pub part_sets : (a k : ℕ) (s vs : List A) → a + k ≡ length s → put_mid a k s (sets (mid_of a k s) 0 vs) ≡ sets s a vs
  part_sets a k s vs h =
      let short : length (drop a s) ≤ k = simp length-drop (omega arith) in
      let part : sets (drop a s) 0 vs ≡ drop a (sets s a vs) = sym (rw (add-zero a) at (drop_sets_add a s 0 vs)) in
      let before : take a s ≡ take a (sets s a vs) = sym (take_sets a s a vs (omega arith)) in
      rw (take_all k (drop a s) short, drop_of_length-le (drop a s) short, append-nil (sets (drop a s) 0 vs), part, before)
      (take-append-drop a (sets s a vs))

  -- Writing all of a part is writing into the slice.
  pub part_whole : (a k : ℕ) (s vs : List A) → length vs ≡ k → a + k ≤ length s → put_mid a k s (sets (mid_of a k s) 0 vs) ≡ sets s a vs
  part_whole a k s vs long room =
      let part : length (take k (drop a s)) ≡ k = length-take-le k (drop a s) (simp length-drop (omega arith)) in
      rw (sets_whole (take k (drop a s)) vs (long ∙ sym part), drop-drop k a s, sets-eq vs s a (omega arith), long)
      (sym (append_assoc (take a s) vs (drop (a + k) s)))

-- the rest of a list, as a part of it
pub rest_part : (i : ℕ) (l : List ℕ) → take (length l - i) (drop i l) ≡ drop i l
rest_part i l = take_all (length l - i) (drop i l) (simp length-drop (le_refl _))

pub rest_long : (i : ℕ) (l : List ℕ) → length (take (length l - i) (drop i l)) ≡ length l - i
rest_long i l = simp (length-take, length-drop) (omega arith)

-- ---- bytes copied as far as there is room

-- all of a part written anew
pub mid_whole : (a k : ℕ) (s vs : List ℕ) → length vs ≡ k → a + k ≤ length s → put_mid a k s vs ≡ sets s a vs
mid_whole a k s vs long room =
    rw (drop-drop k a s, sets-eq vs s a (omega arith), long) (sym (append_assoc (take a s) vs (drop (a + k) s)))

-- what has no room is not stored
sets_fits : (l vs : List ℕ) (at fits : ℕ) → fits ≡ min (length vs) (length l - at) → sets l at (take fits vs) ≡ sets l at vs
sets_fits l vs at fits is =
    let front : length (take fits vs) ≡ fits = length-take-le fits vs (omega arith) in
    let first : List ℕ = sets l at (take fits vs) in
    let both : sets first (at + length (take fits vs)) (drop fits vs) ≡ sets l at vs
    = sets_append l at (take fits vs) (drop fits vs) ∙ ap (sets l at) (take-append-drop fits vs) in
    let long : length first ≡ length l = length-sets l at (take fits vs) in
    elim (dec_lt fits (length vs)) [
      | yes more ↦ sym (sets_out first (at + length (take fits vs)) (drop fits vs) (omega arith)) ∙ both
      | no all ↦ let none : length vs ≤ fits = omega arith in rw (drop_of_length-le vs none) at both
    ]

pub copy_fits : (l vs : List ℕ) (at fits k : ℕ) → at ≤ length l → fits ≡ min (length vs) (length l - at) → k ≡ fits
    → put_mid at k l (take fits vs) ≡ sets l at vs
copy_fits l vs at fits k there is same =
    rw same (mid_whole at fits l (take fits vs) (length-take-le fits vs (omega arith)) (omega arith) ∙ sets_fits l vs at fits is)

-- ---- bytes copied one by one: those that are left to copy, stored from here on, give the whole

pub copy_turn : (l w vs : List ℕ) (at i b : ℕ) → i < length vs → b ≡ get_or vs i 0 → sets l (at + i) (drop i vs) ≡ w
    → sets (set l (at + i) b) (at + (i + 1)) (drop (i + 1) vs) ≡ w
copy_turn l w vs at i b more is so =
    let next : at + (i + 1) ≡ suc (at + i) = omega arith in
    rw (next, add-one, is) (rw (drop-cons vs i 0 more) at so)

pub copy_end : (l w vs : List ℕ) (at i : ℕ) → min (length vs) (length l - at) ≤ i → sets l (at + i) (drop i vs) ≡ w → l ≡ w
copy_end l w vs at i done so =
    elim (dec_lt i (length vs)) [
      | yes m ↦ sym (sets_out l (at + i) (drop i vs) (omega arith)) ∙ so
      | no m ↦ let none : length vs ≤ i = omega arith in rw (drop_of_length-le vs none) at so
    ]
