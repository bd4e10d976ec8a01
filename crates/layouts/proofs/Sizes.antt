-- How long a message is.
use Prim.Native.Nat.{ℕ, ◌+◌, ◌≤◌}
use mathlib.Core.Path.{◌≡◌}
use native.Mathlib.Omega.{arith}
use lib.ListN.{length, length-append}
use Rattle.wire.specs.Number.{bytes}
use Rattle.wire.proofs.Numbers.{length_bytes}
use Rattle.layouts.specs.declared.Layout.{Layout}
use Rattle.std.specs.Prelude.{Option, Some, None}
use Rattle.layouts.specs.Layouts.{echo_bytes, size_of, laid}

pub least : (a : Layout) → 4 ≤ size_of a
least a = omega arith

pub greatest : (a : Layout) → size_of a ≤ 5 + a.width
greatest a = go a.echo
  where
    go : (e : Option ℕ) → 4 + length (echo_bytes e) + a.width ≤ 5 + a.width
    go (Some byte) = omega arith
    go None = omega arith

pub echoing : (a : Layout) (byte : ℕ) → a.echo ≡ Some byte → 5 ≤ size_of a
echoing a byte e = rw e (omega arith)

-- the header has the true length
pub length_laid : (a : Layout) → length (laid a) ≡ size_of a
length_laid a =
    omega (arith, length-append (echo_bytes a.echo) (bytes a.width a.value), length_bytes a.width a.value)
