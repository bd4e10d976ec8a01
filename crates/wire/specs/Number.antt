-- "All longer fields are least significant byte first."
use Rattle.std.specs.Prelude.{ℕ, zero, suc, ◌+◌, ◌*◌, ◌/◌, ◌%◌, List, [], ◌∷◌, take, drop}

-- the number that a list of bytes holds, least significant byte first
abbrev pub number : List ℕ → ℕ
number [] = 0
number (b ∷ bs) = b + 256 * number bs

-- a number in n bytes, least significant byte first
abbrev pub bytes : ℕ → ℕ → List ℕ
bytes zero v = []
bytes (suc n) v = v % 256 ∷ bytes n (v / 256)

-- the n-byte field at a place of a message
abbrev pub field : ℕ → ℕ → List ℕ → ℕ
field at n message = number (take n (drop at message))
