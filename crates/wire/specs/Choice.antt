-- How document 01's tables become decisions: a test picks, and of a list of checks the first that holds gives the code.
use Rattle.std.specs.Prelude.{ℕ, ◌≡◌, Bool, true, false, ◌||◌, ◌&&◌, List, [], ◌∷◌, eqb, leb}

-- the first where the test holds, the second where it does not
abbrev pub pick {ℓ} : {X : Type ℓ} → Bool → X → X → X
pick true x y = x
pick false x y = y

-- one line of a table of codes: the code, and whether its condition holds
pub record Check : Type 0 where
  pub code : ℕ
  pub holds : Bool

abbrev pub check : ℕ → Bool → Check
check c b = record { code = c; holds = b }

-- the code of the first check that holds, or `otherwise` where none does
abbrev pub first_of : List Check → ℕ → ℕ
first_of [] otherwise = otherwise
first_of (c ∷ cs) otherwise = pick c.holds c.code (first_of cs otherwise)

-- no check of the list holds: "earlier ones absent"
abbrev pub Absent : List Check → Type 0
Absent [] = Unit {0}
Absent (c ∷ cs) = (c.holds ≡ false) × Absent cs

-- what is given for the first row of a table for which the test holds, or `otherwise` where there is none
abbrev pub first_row {ℓ} : {A : Type 0} {X : Type ℓ} → (A → Bool) → (A → X) → X → List A → X
first_row test give otherwise [] = otherwise
first_row test give otherwise (r ∷ rs) = pick (test r) (give r) (first_row test give otherwise rs)

-- the test holds for some row of a table
abbrev pub any_of : {A : Type 0} → (A → Bool) → List A → Bool
any_of test [] = false
any_of test (r ∷ rs) = test r || any_of test rs

-- n is one of the list
abbrev pub one_of : ℕ → List ℕ → Bool
one_of n [] = false
one_of n (m ∷ ms) = eqb n m || one_of n ms

-- low ≤ n ≤ high
abbrev pub within : ℕ → ℕ → ℕ → Bool
within low high n = leb low n && leb n high
