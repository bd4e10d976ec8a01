-- What a header announces: a data item of length 0 has 8,194 bytes, and every message has at least the two of its header.
use Prim.Native.Nat.{ℕ, ◌≤◌, ◌<◌, max}
use mathlib.Core.Path.{◌≡◌}
use mathlib.Core.Bool.{Bool, true, false, ◌&&◌, and-false}
use native.Mathlib.Omega.{arith}
use borrow.Author.Tests.{le-leb, lt-leb, ne_eqb}
use lib.Dec.{leb, eqb}
use Rattle.wire.specs.Choice.{pick}
use Rattle.wire.specs.Header.{type_data}
use Rattle.framing.specs.Framing.{total_of}

pub total_data : (kind : ℕ) → 4 ≤ kind → total_of kind 0 ≡ 8194
total_data kind h = simp (le-leb 4 kind h)

pub total_bare : (kind : ℕ) → kind < 4 → total_of kind 0 ≡ 2
total_bare kind h = simp (lt-leb 4 kind h)

pub total_length : (kind len : ℕ) → 0 < len → total_of kind len ≡ max 2 len
total_length kind len h = simp (ne_eqb len 0 (λ e. omega arith), and-false)

pub total_least : (kind len : ℕ) → 2 ≤ total_of kind len
total_least kind len = least (leb type_data kind && eqb len 0)
  where
    least : (b : Bool) → 2 ≤ pick b 8194 (max 2 len)
    least true = omega arith
    least false = omega arith
