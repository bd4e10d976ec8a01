-- The parts of a packet may be stored in any order: what is stored last, first or after it, lies where it would lie in one go.
-- Assumes nothing.
use Prim.Native.Nat.{ℕ, suc, ◌+◌, ◌≤◌, ◌<◌}
use native.Mathlib.Omega.{arith}
use mathlib.Core.Path.{◌≡◌, refl, ap, ◌∙◌}
use mathlib.Core.List.{List, [], ◌∷◌, ◌++◌}
use lib.ListN.{length, set}
use lib.Seq.{sets, set_comm}
use Rattle.wire.proofs.Stores.{sets_append}

-- one store before a run of them
set_before : (l : List ℕ) (i j : ℕ) (x : ℕ) (vs : List ℕ) → i < j → set (sets l j vs) i x ≡ sets (set l i x) j vs
set_before l i j x [] h = refl
set_before l i j x (v ∷ vs) h =
    set_before (set l j v) i (suc j) x vs (omega arith)
    ∙ ap (λ (k : List ℕ). sets k (suc j) vs) (set_comm l j i v x (λ e. omega arith))

-- a run of stores before another
sets_before : (l : List ℕ) (i j : ℕ) (us vs : List ℕ) → i + length us ≤ j → sets (sets l j vs) i us ≡ sets (sets l i us) j vs
sets_before l i j [] vs h = refl
sets_before l i j (u ∷ us) vs h =
    ap (λ (k : List ℕ). sets k (suc i) us) (set_before l i j u vs (omega arith))
    ∙ sets_before (set l i u) (suc i) j us vs (omega arith)

-- the four leading bytes and the samples, stored samples first, are the packet
pub laid : (l leading samples : List ℕ) → length leading ≡ 4 → sets (sets l 4 samples) 0 leading ≡ sets l 0 (leading ++ samples)
laid l leading samples four =
    sets_before l 0 4 leading samples (omega arith) ∙ rw four at (sets_append l 0 leading samples)
