-- Packet numbers and positions.
use Rattle.std.specs.Prelude.{ℕ, zero, suc, ◌+◌, ◌-◌, ◌%◌, List, ltb}
use Rattle.wire.specs.Choice.{pick}
use Rattle.wire.specs.Number.{field}

-- "The packet at position 0 has number 0; at position p of 1 or more, ((p - 1) mod 65,535) + 1."
abbrev pub number_at : ℕ → ℕ
number_at zero = 0
number_at (suc p) = p % 65_535 + 1

-- "From number s to number t above 0 the step is t - s, and 65,535 more if t is not above s."
abbrev pub step_of : ℕ → ℕ → ℕ
step_of s t = pick (ltb s t) (t - s) (t + 65_535 - s)

-- the number that a packet carries, "16-bit packet number". (Of entries that are no bytes the lowest 16 bits of their number count.)
abbrev pub number_in : List ℕ → ℕ
number_in packet = field 2 2 packet % 65_536

-- "capture holds 4,000,000,000 packets"
abbrev pub most : ℕ
most = 4_000_000_000

-- the last position that a capture can have
abbrev pub last : ℕ
last = 3_999_999_999
