-- A header has the length and the type that it was made of.
use Prim.Native.Nat.{ℕ, ◌<◌}
use mathlib.Core.Path.{◌≡◌}
use native.Mathlib.Omega.{arith}
use Rattle.wire.specs.Header.{length_in, type_in, header_of}

pub length_header : (type total : ℕ) → total < 8192 → length_in (header_of type total) ≡ total
length_header type total h = omega arith

pub type_header : (type total : ℕ) → type < 8 → type_in (header_of type total) ≡ type
type_header type total h = omega arith

-- and a header is made of what is in it
pub header_parts : (header : ℕ) → header < 65536 → header_of (type_in header) (length_in header) ≡ header
header_parts header h = omega arith

pub header_below : (type total : ℕ) → header_of type total < 65536
header_below type total = omega arith
