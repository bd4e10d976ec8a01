-- Numbers held for a while in an array, and what is known of each of the first n. Assumes nothing.
use Prim.Native.Nat.{ℕ, ◌+◌, ◌<◌}
use mathlib.Core.List.{List}
use native.Mathlib.Decide.{ℕ_discrete}
use native.Mathlib.Omega.{arith}
use lib.ListN.{length, get_or, set}
use lib.Seq.{get_or-set_same, get_or-set_other}

abbrev pub Held : (ℕ → ℕ → Type 0) → List ℕ → ℕ → Type 0
Held known held n = (j : ℕ) → j < n → known j (get_or held j 0)

-- one number more is held
pub hold_turn : (known : ℕ → ℕ → Type 0) (held : List ℕ) (n v : ℕ) → n < length held → known n v
    → Held known held n → Held known (set held n v) (n + 1)
hold_turn known held n v room is so j h =
    elim (ℕ_discrete j n) [
      | yes here ↦ rw (here, get_or-set_same held n v 0 room) is
      | no there ↦ rw (get_or-set_other held n j v 0 there) (so j (omega arith))
    ]
