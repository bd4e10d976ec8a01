-- The keys of a `match` arm against the list that a definition has, in whatever order the two stand.
use Prim.Native.Nat.{ℕ}
use mathlib.Core.Path.{◌≡◌, refl, sym}
use mathlib.Core.Bool.{Bool, true, false, ◌&&◌, ◌||◌}
use mathlib.Core.List.{List, [], ◌∷◌}
use mathlib.Core.Logic.{inl, inr}
use types.Run.{OneOf}
use lib.Dec.{eqb}
use borrow.Author.Tests.{eq-eqb, eqb-true}
use Rattle.wire.specs.Choice.{one_of}
use Rattle.wire.proofs.Laws.{true_not_false, and_left, and_right, or_left, or_right, or_rest}

from_key : (ks : List ℕ) (x : ℕ) → OneOf ks x → one_of x ks ≡ true
from_key [] x h = absurd h
from_key (k ∷ []) x e = or_left (eqb x k) false (eq-eqb x k e)
from_key (k ∷ l ∷ ks) x (inl e) = or_left (eqb x k) (one_of x (l ∷ ks)) (eq-eqb x k e)
from_key (k ∷ l ∷ ks) x (inr h) = or_right (eqb x k) (one_of x (l ∷ ks)) (from_key (l ∷ ks) x h)

to_key : (ks : List ℕ) (x : ℕ) → one_of x ks ≡ true → OneOf ks x
to_key [] x h = absurd (true_not_false (sym h))
to_key (k ∷ []) x h = go (eqb x k) refl h
  where
    go : (b : Bool) → eqb x k ≡ b → b || false ≡ true → x ≡ k
    go true q h = eqb-true x k q
    go false q h = absurd (true_not_false (sym h))
to_key (k ∷ l ∷ ks) x h = go (eqb x k) refl (to_key (l ∷ ks) x)
  where
    go : (b : Bool) → eqb x k ≡ b → (one_of x (l ∷ ks) ≡ true → OneOf (l ∷ ks) x) → OneOf (k ∷ l ∷ ks) x
    go true q more = inl (eqb-true x k q)
    go false q more = inr (more (or_rest (eqb x k) (one_of x (l ∷ ks)) h q))

-- each of the first list is in the second
abbrev pub all_in : List ℕ → List ℕ → Bool
all_in [] ms = true
all_in (k ∷ ks) ms = one_of k ms && all_in ks ms

in_both : (ks ms : List ℕ) (x : ℕ) → all_in ks ms ≡ true → one_of x ks ≡ true → one_of x ms ≡ true
in_both [] ms x t h = absurd (true_not_false (sym h))
in_both (k ∷ ks) ms x t h = go (eqb x k) refl (in_both ks ms x (and_right (one_of k ms) (all_in ks ms) t))
  where
    go : (b : Bool) → eqb x k ≡ b → (one_of x ks ≡ true → one_of x ms ≡ true) → one_of x ms ≡ true
    go true q more = rw (eqb-true x k q) (and_left (one_of k ms) (all_in ks ms) t)
    go false q more = more (or_rest (eqb x k) (one_of x ks) h q)

-- in an arm with the keys ks
pub matched : (ks ms : List ℕ) (x : ℕ) → all_in ks ms ≡ true → OneOf ks x → one_of x ms ≡ true
matched ks ms x t h = in_both ks ms x t (from_key ks x h)

-- past it
pub unmatched : (ks ms : List ℕ) (x : ℕ) → all_in ms ks ≡ true → (OneOf ks x → ⊥) → one_of x ms ≡ false
unmatched ks ms x t h = go (one_of x ms) refl
  where
    go : (b : Bool) → one_of x ms ≡ b → b ≡ false
    go true q = absurd (h (to_key ks x (in_both ms ks x t q)))
    go false q = refl
