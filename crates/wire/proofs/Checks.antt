-- Laws of a table of codes: "Each code is given exactly on its condition, earlier ones absent."
use Prim.Native.Nat.{ℕ, ◌<◌}
use mathlib.Core.Path.{◌≡◌, refl}
use mathlib.Core.Logic.{◌↔◌}
use mathlib.Core.Bool.{Bool, true, false, ◌&&◌, not}
use mathlib.Core.List.{List, [], ◌∷◌, ◌++◌}
use borrow.Author.Tests.{eqb-false, ltb-true, not-true}
use lib.Dec.{eqb, ltb}
use Rattle.wire.specs.Choice.{pick, Check, first_of, Absent}
use Rattle.wire.proofs.Laws.{and_left, and_right, pick_keeps}

-- no check of the list has this code: of codes written as numbers it computes
abbrev pub differ : ℕ → List Check → Bool
differ n [] = true
differ n (c ∷ cs) = not (eqb c.code n) && differ n cs

other_first : (n : ℕ) (c : Check) (cs : List Check) → differ n (c ∷ cs) ≡ true → c.code ≡ n → ⊥
other_first n c cs d = eqb-false c.code n (not-true _ (and_left (not (eqb c.code n)) (differ n cs) d))

others_later : (n : ℕ) (c : Check) (cs : List Check) → differ n (c ∷ cs) ≡ true → differ n cs ≡ true
others_later n c cs d = and_right (not (eqb c.code n)) (differ n cs) d

-- where none holds, the answer is the other one
pub clear : (cs : List Check) (n : ℕ) → Absent cs → first_of cs n ≡ n
clear [] n a = refl
clear (c ∷ cs) n a = rw a.0 (clear cs n a.1)

-- where the answer is the other one, none holds
pub absent : (cs : List Check) (n : ℕ) → differ n cs ≡ true → first_of cs n ≡ n → Absent cs
absent [] n d h = tt
absent (c ∷ cs) n d h = go c.holds refl h (absent cs n (others_later n c cs d))
  where
    go : (b : Bool) → c.holds ≡ b → pick b c.code (first_of cs n) ≡ n → (first_of cs n ≡ n → Absent cs)
        → (c.holds ≡ false) × Absent cs
    go true q e later = absurd (other_first n c cs d e)
    go false q e later = (q, later e)

-- a code that no check has is not given
pub not_given : (cs : List Check) (n m : ℕ) → differ m cs ≡ true → (n ≡ m → ⊥) → first_of cs n ≡ m → ⊥
not_given [] n m d other h = other h
not_given (c ∷ cs) n m d other h = go c.holds h (not_given cs n m (others_later m c cs d) other)
  where
    go : (b : Bool) → pick b c.code (first_of cs n) ≡ m → (first_of cs n ≡ m → ⊥) → ⊥
    go true e later = other_first m c cs d e
    go false e later = later e

-- a check that holds decides, whatever follows
pub first_stops : (cs ds : List Check) (n : ℕ) → (first_of cs n ≡ n → ⊥) → first_of (cs ++ ds) n ≡ first_of cs n
first_stops [] ds n h = absurd (h refl)
first_stops (c ∷ cs) ds n h = go c.holds h (first_stops cs ds n)
  where
    go : (b : Bool) → (pick b c.code (first_of cs n) ≡ n → ⊥) → ((first_of cs n ≡ n → ⊥) → first_of (cs ++ ds) n ≡ first_of cs n)
        → pick b c.code (first_of (cs ++ ds) n) ≡ pick b c.code (first_of cs n)
    go true h more = refl
    go false h more = more h

-- where none holds, what follows decides
pub first_goes_on : (cs ds : List Check) (n : ℕ) → differ n cs ≡ true → first_of cs n ≡ n → first_of (cs ++ ds) n ≡ first_of ds n
first_goes_on [] ds n d h = refl
first_goes_on (c ∷ cs) ds n d h = go c.holds h (first_goes_on cs ds n (others_later n c cs d))
  where
    go : (b : Bool) → pick b c.code (first_of cs n) ≡ n → (first_of cs n ≡ n → first_of (cs ++ ds) n ≡ first_of ds n)
        → pick b c.code (first_of (cs ++ ds) n) ≡ first_of ds n
    go true h more = absurd (other_first n c cs d h)
    go false h more = more h

-- what holds of the code of each check
abbrev pub Each : (ℕ → Type 0) → List Check → Type 0
Each P [] = Unit {0}
Each P (c ∷ cs) = P c.code × Each P cs

-- holds of the code that is given
pub given_has : (P : ℕ → Type 0) (cs : List Check) (n : ℕ) → Each P cs → P n → P (first_of cs n)
given_has P [] n each other = other
given_has P (c ∷ cs) n each other =
    pick_keeps P c.holds c.code (first_of cs n) (λ e. each.0) (λ e. given_has P cs n each.1 other)

-- every check of the list has a code below this number: of codes written as numbers it computes
abbrev pub below : ℕ → List Check → Bool
below k [] = true
below k (c ∷ cs) = ltb c.code k && below k cs

pub given_below : (k : ℕ) (cs : List Check) (n : ℕ) → below k cs ≡ true → n < k → first_of cs n < k
given_below k [] n b less = less
given_below k (c ∷ cs) n b less =
    pick_keeps (λ (m : ℕ). m < k) c.holds c.code (first_of cs n)
    (λ e. ltb-true c.code k (and_left (ltb c.code k) (below k cs) b))
    (λ e. given_below k cs n (and_right (ltb c.code k) (below k cs) b) less)

-- "Each code is given exactly on its condition, earlier ones absent": of a list whose codes differ, and a code other than the
-- one that is given where none holds.
pub given_exactly : (before : List Check) (c : Check) (after : List Check) (n : ℕ)
    → differ c.code before ≡ true → differ c.code after ≡ true → (n ≡ c.code → ⊥)
    → (first_of (before ++ c ∷ after) n ≡ c.code) ↔ (Absent before × (c.holds ≡ true))
given_exactly before c after n earlier later other = (into before earlier, from before)
  where
    here : (b : Bool) → c.holds ≡ b → pick b c.code (first_of after n) ≡ c.code → c.holds ≡ true
    here true q e = q
    here false q e = absurd (not_given after n c.code later other e)

    into : (ds : List Check) → differ c.code ds ≡ true → first_of (ds ++ c ∷ after) n ≡ c.code → Absent ds × (c.holds ≡ true)
    into [] d e = (tt, here c.holds refl e)
    into (b ∷ ds) d e = go b.holds refl e (into ds (others_later c.code b ds d))
      where
        go : (h : Bool) → b.holds ≡ h → pick h b.code (first_of (ds ++ c ∷ after) n) ≡ c.code
            → (first_of (ds ++ c ∷ after) n ≡ c.code → Absent ds × (c.holds ≡ true))
            → Absent (b ∷ ds) × (c.holds ≡ true)
        go true q e more = absurd (other_first c.code b ds d e)
        go false q e more = let r = more e in ((q, r.0), r.1)

    from : (ds : List Check) → Absent ds × (c.holds ≡ true) → first_of (ds ++ c ∷ after) n ≡ c.code
    from [] r = rw r.1 refl
    from (b ∷ ds) r = rw r.0.0 (from ds (r.0.1, r.1))
