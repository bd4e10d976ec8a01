-- What closes the returns of a function whose definition has its tests, and laws that take a test apart.
use Prim.Native.Nat.{ℕ, ◌≤◌}
use mathlib.Core.Path.{◌≡◌, refl, sym, ap, subst}
use mathlib.Core.Bool.{Bool, true, false, ◌&&◌, ◌||◌}
use native.Mathlib.Omega.{arith}
use mathlib.Core.List.{List, [], ◌∷◌}
use mathlib.Core.Logic.{◌⊎◌, inl, inr}
use lib.Dec.{T, eqb, leb}
use mir.Val.{bool_byte}
use borrow.Author.Rules.{rules}
use borrow.Author.Tests.{lt-ltb, le-ltb, le-leb, lt-leb, eq-eqb, ne_eqb, eqb-true, leb-true}
use Rattle.wire.specs.Choice.{pick, one_of, within}
use Rattle.wire.specs.Lists.{each}

-- each test of a definition is decided by a branch that was taken or left
pub ruleset cases = (rules, lt-ltb, le-ltb, le-leb, lt-leb, eq-eqb, ne_eqb)

-- ---- tests as facts

pub true_not_false : true ≡ false → ⊥
true_not_false e =
    let z : ◌≡◌ {A = ℕ} 0 1 = ap (λ (b : Bool). pick b 0 1) e in
    omega arith

-- a test that both holds and fails proves anything
pub never {ℓ} : {X : Type ℓ} → false ≡ true → X
never e = absurd (true_not_false (sym e))

pub test_true : (t : Bool) → T t → t ≡ true
test_true true h = refl
test_true false h = absurd h

-- ---- `◌&&◌`

pub and_both : (a b : Bool) → a ≡ true → b ≡ true → a && b ≡ true
and_both true b p q = q
and_both false b p q = p

pub and_left : (a b : Bool) → a && b ≡ true → a ≡ true
and_left true b e = refl
and_left false b e = e

pub and_right : (a b : Bool) → a && b ≡ true → b ≡ true
and_right true b e = e
and_right false b e = absurd (true_not_false (sym e))

pub and_not_left : (a b : Bool) → a ≡ false → a && b ≡ false
and_not_left true b p = absurd (true_not_false p)
and_not_left false b p = refl

pub and_not_right : (a b : Bool) → b ≡ false → a && b ≡ false
and_not_right true b q = q
and_not_right false b q = refl

-- where both do not hold and the first does, the second does not
pub and_rest : (a b : Bool) → a && b ≡ false → a ≡ true → b ≡ false
and_rest true b e p = e
and_rest false b e p = absurd (true_not_false (sym p))

-- ---- `◌||◌`

pub or_left : (a b : Bool) → a ≡ true → a || b ≡ true
or_left true b p = refl
or_left false b p = absurd (true_not_false (sym p))

pub or_right : (a b : Bool) → b ≡ true → a || b ≡ true
or_right true b q = refl
or_right false b q = q

-- where one holds and the first does not, the second does
pub or_rest : (a b : Bool) → a || b ≡ true → a ≡ false → b ≡ true
or_rest true b e p = absurd (true_not_false p)
or_rest false b e p = e

-- where not one holds, neither does
pub or_neither : (a b : Bool) → a || b ≡ false → (a ≡ false) × (b ≡ false)
or_neither true b e = absurd (true_not_false e)
or_neither false b e = (refl, e)

pub or_false : (a : Bool) → a || false ≡ a
or_false true = refl
or_false false = refl

-- ---- `pick`

module _ {X : Type 0} where
  pub pick_true : (t : Bool) (x y : X) → t ≡ true → pick t x y ≡ x
  pick_true true x y p = refl
  pick_true false x y p = absurd (true_not_false (sym p))

  pub pick_false : (t : Bool) (x y : X) → t ≡ false → pick t x y ≡ y
  pick_false true x y p = absurd (true_not_false p)
  pick_false false x y p = refl

  pub pick_same : (t : Bool) (x : X) → pick t x x ≡ x
  pick_same true x = refl
  pick_same false x = refl

  -- what both answers have, the picked one has
  pub pick_keeps : (P : X → Type 0) (t : Bool) (x y : X) → (t ≡ true → P x) → (t ≡ false → P y) → P (pick t x y)
  pick_keeps P true x y h k = h refl
  pick_keeps P false x y h k = k refl

  -- two changes, each made or not: where they commute both made, they commute
  pub either_made : (b c : Bool) (f g : X → X) (x : X) → (b ≡ true → c ≡ true → g (f x) ≡ f (g x))
      → pick c (g (pick b (f x) x)) (pick b (f x) x) ≡ pick b (f (pick c (g x) x)) (pick c (g x) x)
  either_made true true f g x h = h refl refl
  either_made true false f g x h = refl
  either_made false true f g x h = refl
  either_made false false f g x h = refl

-- ---- splitting

-- a test splits
pub by_test : {P : Type 0} (t : Bool) → (t ≡ true → P) → (t ≡ false → P) → P
by_test true held failed = held refl
by_test false held failed = failed refl

-- two tests split
pub by_two_tests : {P : Type 0} (a b : Bool) → (a ≡ true → b ≡ true → P) → (a ≡ true → b ≡ false → P) → (a ≡ false → b ≡ true → P)
    → (a ≡ false → b ≡ false → P) → P
by_two_tests true true both first second none = both refl refl
by_two_tests true false both first second none = first refl refl
by_two_tests false true both first second none = second refl refl
by_two_tests false false both first second none = none refl refl

-- of two tests one holds
pub by_or : {P : Type 0} (a b : Bool) → (a ≡ true → P) → (b ≡ true → P) → a || b ≡ true → P
by_or true b first second e = first refl
by_or false b first second e = second e

-- ---- `one_of`

-- what each of a list has, one of it has
pub one_has : (P : ℕ → Type 0) (n : ℕ) (ms : List ℕ) → each P ms → one_of n ms ≡ true → P n
one_has P n [] h e = never e
one_has P n (m ∷ ms) h e =
    by_or (eqb n m) (one_of n ms) (λ (same : eqb n m ≡ true). subst P (sym (eqb-true n m same)) h.0) (one_has P n ms h.1) e

-- one of two
pub one_of_two : (n a b : ℕ) → one_of n (a ∷ b ∷ []) ≡ true → (n ≡ a) ⊎ (n ≡ b)
one_of_two n a b = by_or (eqb n a) _ (λ e. inl (eqb-true n a e)) (by_or (eqb n b) false (λ e. inr (eqb-true n b e)) never)

-- ---- `within`

pub within_low : (low high n : ℕ) → within low high n ≡ true → low ≤ n
within_low low high n e = leb-true low n (and_left (leb low n) (leb n high) e)

pub within_high : (low high n : ℕ) → within low high n ≡ true → n ≤ high
within_high low high n e = leb-true n high (and_right (leb low n) (leb n high) e)

pub is_within : (low high n : ℕ) → low ≤ n → n ≤ high → within low high n ≡ true
is_within low high n l h = and_both (leb low n) (leb n high) (le-leb low n l) (le-leb n high h)

-- a flag as the code casts it to a byte
pub flag_byte : (b : Bool) → bool_byte b ≡ pick b 1 0
flag_byte true = refl
flag_byte false = refl
