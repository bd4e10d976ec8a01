-- What holds of each line of a table holds of the line that is looked up.
use Prim.Native.Nat.{ℕ}
use mathlib.Core.Path.{◌≡◌, refl, sym}
use mathlib.Core.Bool.{Bool, true, false, ◌||◌}
use mathlib.Core.List.{List, [], ◌∷◌}
use lib.Dec.{eqb}
use borrow.Author.Tests.{eqb-true}
use Rattle.wire.specs.Choice.{pick}
use Rattle.wire.proofs.Laws.{true_not_false}
use Rattle.items.specs.Items.{Item, items, no_item, listed_in, listed_item, row_in, row_of}

-- of each line, with its code
abbrev pub Each : (ℕ → Item → Type 0) → List Item → Type 0
Each P [] = Unit {0}
Each P (i ∷ is) = P i.code i × Each P is

-- a line, and those after it
infixr 5 ◌then◌
abbrev pub ◌then◌ : {A B : Type 0} → A → B → A × B
◌then◌ line rest = (line, rest)

row_at : (P : ℕ → Item → Type 0) → ((code : ℕ) → P code no_item) → (is : List Item) (code : ℕ) → Each P is → P code (row_in is code)
row_at P none [] code h = none code
row_at P none (i ∷ is) code h = go (eqb code i.code) refl (row_at P none is code h.1)
  where
    go : (b : Bool) → eqb code i.code ≡ b → P code (row_in is code) → P code (pick b i (row_in is code))
    go true q rest = rw (eqb-true code i.code q) h.0
    go false q rest = rest

pub found_at : (P : ℕ → Item → Type 0) → ((code : ℕ) → P code no_item) → Each P items → (code : ℕ) → P code (row_of code)
unfolding row_of
found_at P none h code = row_at P none items code h

-- of each line, whatever its code
abbrev pub all_have : (Item → Type 0) → List Item → Type 0
all_have P = Each (λ code. P)

pub row_has : (P : Item → Type 0) → P no_item → (is : List Item) (code : ℕ) → all_have P is → P (row_in is code)
row_has P none = row_at (λ code. P) (λ code. none)

pub found : (P : Item → Type 0) → P no_item → all_have P items → (code : ℕ) → P (row_of code)
found P none = found_at (λ code. P) (λ code. none)

-- the row of a listed code has that code
code_in : (is : List Item) (code : ℕ) → listed_in is code ≡ true → (row_in is code).code ≡ code
code_in [] code h = absurd (true_not_false (sym h))
code_in (i ∷ is) code h = go (eqb code i.code) refl h (code_in is code)
  where
    go : (b : Bool) → eqb code i.code ≡ b → b || listed_in is code ≡ true → (listed_in is code ≡ true → (row_in is code).code ≡ code)
        → (pick b i (row_in is code)).code ≡ code
    go true q h more = sym (eqb-true code i.code q)
    go false q h more = more h

pub row_code : (code : ℕ) → listed_item code ≡ true → (row_of code).code ≡ code
unfolding listed_item row_of
row_code code h = code_in items code h
