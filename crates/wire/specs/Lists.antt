-- Lists: what each of one has; and of bytes: each is a byte, two are the same, and pieces joined in order.
use Rattle.std.specs.Prelude.{ℕ, ◌<◌, Bool, true, false, ◌&&◌, List, [], ◌∷◌, ◌++◌, eqb}

-- what each of a list has
abbrev pub each : {A : Type 0} → (A → Type 0) → List A → Type 0
each P [] = Unit {0}
each P (x ∷ xs) = P x × each P xs

-- each is a byte
abbrev pub all_bytes : List ℕ → Type 0
all_bytes [] = Unit {0}
all_bytes (b ∷ bs) = (b < 256) × all_bytes bs

-- two lists are the same
abbrev pub same : List ℕ → List ℕ → Bool
same [] [] = true
same [] (b ∷ bs) = false
same (a ∷ l) [] = false
same (a ∷ l) (b ∷ bs) = eqb a b && same l bs

-- the bytes of the pieces, in order
abbrev pub joined : List (List ℕ) → List ℕ
joined [] = []
joined (p ∷ ps) = p ++ joined ps
