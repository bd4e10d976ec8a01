-- Samples: whole numbers from -8,388,608 to 8,388,607, and their bytes in a packet.
use Rattle.std.specs.Prelude.{ℕ, zero, suc, ◌+◌, ◌*◌, ◌-◌, ◌/◌, ◌^◌, min, Bool, true, ◌&&◌, List, [], ◌∷◌, ◌++◌, ℤ, pos, negsuc, ◌+ℤ◌}
use Rattle.std.specs.Int.Signed.{le_z, shr_z}
use Rattle.wire.specs.Number.{bytes, field}
use Rattle.wire.specs.Signed.{minus, coded, signed}

-- low ≤ z ≤ high
abbrev pub lies_in : ℤ → ℤ → ℤ → Bool
lies_in low high z = le_z low z && le_z z high

-- -8,388,608 ≤ z ≤ 8,388,607
abbrev pub is_sample : ℤ → Bool
is_sample z = lies_in (minus 8_388_608) (pos 8_388_607) z

abbrev pub all_samples : List ℤ → Bool
all_samples [] = true
all_samples (z ∷ zs) = is_sample z && all_samples zs

-- how many steps of 24 bits one step of a width is: 256 at 16 bits, 1 at 24
abbrev pub scale_at : ℕ → ℕ
scale_at bits = 2 ^ (24 - bits)

-- half of that: 128 at 16 bits, 0 at 24
abbrev pub half_at : ℕ → ℕ
half_at bits = scale_at bits / 2

-- the greatest number of a width: 32,767 at 16 bits
abbrev pub top_at : ℕ → ℕ
top_at bits = 2 ^ (bits - 1) - 1

-- "add 128, divide by 256 rounding down" (`shr_z` is the quotient rounded down, towards minus infinity)
abbrev pub rounded : ℕ → ℤ → ℤ
rounded bits z = shr_z (z +ℤ pos (half_at bits)) (scale_at bits)

-- a number held at m: m where it is greater
abbrev pub at_most : ℕ → ℤ → ℤ
at_most m (pos n) = pos (min n m)
at_most m (negsuc n) = negsuc n

-- What is sent of a sample at a width: at 24 bits itself; at 16 "add 128, divide by 256 rounding down, and hold at 32,767"
-- (document 02, No. 3). In one rule over the width: half the scale is added, the sum divided by the scale, rounding down, and the
-- quotient held at the width's greatest number.
abbrev pub narrowed : ℕ → ℤ → ℤ
narrowed bits z = at_most (top_at bits) (rounded bits z)

-- the bytes of a sample at a width
abbrev pub sample_bytes : ℕ → ℤ → List ℕ
sample_bytes bits z = bytes (bits / 8) (coded bits (narrowed bits z))

-- the bytes of samples in turn
abbrev pub samples_bytes : ℕ → List ℤ → List ℕ
samples_bytes bits [] = []
samples_bytes bits (z ∷ zs) = sample_bytes bits z ++ samples_bytes bits zs

-- the sample at a place of the sample bytes, as a signed number of the width sent
abbrev pub sample_at : ℕ → List ℕ → ℕ → ℤ
sample_at bits s i = signed bits (field (bits / 8 * i) (bits / 8) s)

-- the first n samples of the sample bytes, from the i-th on
abbrev pub samples_from : ℕ → List ℕ → ℕ → ℕ → List ℤ
samples_from bits s i zero = []
samples_from bits s i (suc n) = sample_at bits s i ∷ samples_from bits s (i + 1) n
