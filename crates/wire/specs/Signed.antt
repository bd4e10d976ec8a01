-- Signed numbers, and their k bits as two's complement.
use Rattle.std.specs.Prelude.{ℕ, zero, suc, ◌-◌, ◌^◌, Bool, false, eqb, ltb, ℤ, pos, negsuc}
use Rattle.wire.specs.Choice.{pick}

-- -n, as document 01 writes its negative numbers (`pos n` is n, `negsuc n` is -n - 1)
abbrev pub minus : ℕ → ℤ
minus zero = pos 0
minus (suc n) = negsuc n

-- the k bits that stand for z
abbrev pub coded : ℕ → ℤ → ℕ
coded k (pos n) = n
coded k (negsuc n) = 2 ^ k - suc n

-- the number that k bits stand for: below the half it is itself, from the half on it lies 2 ^ k lower
abbrev pub signed : ℕ → ℕ → ℤ
signed k n = pick (ltb n (2 ^ (k - 1))) (pos n) (negsuc (2 ^ k - suc n))

-- two signed numbers are the same
abbrev pub same_integer : ℤ → ℤ → Bool
same_integer (pos a) (pos b) = eqb a b
same_integer (pos a) (negsuc b) = false
same_integer (negsuc a) (pos b) = false
same_integer (negsuc a) (negsuc b) = eqb a b
