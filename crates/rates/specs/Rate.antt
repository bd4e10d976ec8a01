-- Rate (house): "The rates are 20,000,000 / D for whole D from 10 to 625."
use Rattle.std.specs.Prelude.{ℕ, zero, suc, ◌+◌, ◌*◌, ◌<◌, ◌≤◌, ◌≡◌, Bool, ltb}
use Rattle.wire.specs.Choice.{pick, within}
use Rattle.wire.specs.Halves.{halves_up, apart}

-- the whole D from 10 to 625
abbrev pub is_d : ℕ → Bool
is_d d = within 10 625 d

-- "The reply is 20,000,000 / D rounded to a whole Hz, halves up."
unfoldable pub rate_of : ℕ → ℕ
rate_of d = halves_up 20_000_000 d

-- "A rate asked for must lie in 32,000 to 2,000,000."
abbrev pub may_ask : ℕ → Bool
may_ask rate = within 32_000 2_000_000 rate

-- The rate asked for lies |rate - 20,000,000 / d| from the exact rate of d; this is d times as much, a whole number.
abbrev pub miss : ℕ → ℕ → ℕ
miss rate d = apart (rate * d) 20_000_000

-- d's exact rate lies nearer to the rate asked for than e's: both distances times d and e
abbrev pub Nearer : ℕ → ℕ → ℕ → Type 0
Nearer rate d e = miss rate d * e < miss rate e * d

-- "the D with the nearest exact rate is taken, and no whole rate lies equally near to two": d is strictly nearer than each other D
pub record Nearest (rate d : ℕ) : Type 0 where
  pub least : 10 ≤ d
  pub most : d ≤ 625
  pub nearest : (e : ℕ) → 10 ≤ e → e ≤ 625 → (e ≡ d → ⊥) → Nearer rate d e

-- the nearer of two D
abbrev pub nearer_of : ℕ → ℕ → ℕ → ℕ
nearer_of rate d e = pick (ltb (miss rate e * d) (miss rate d * e)) e d

-- the D with the nearest exact rate among 10, 11, .., 10 + n
unfoldable pub nearest_up_to : ℕ → ℕ → ℕ
nearest_up_to rate zero = 10
nearest_up_to rate (suc n) = nearer_of rate (nearest_up_to rate n) (11 + n)

-- the D with the nearest exact rate
abbrev pub nearest_of : ℕ → ℕ
nearest_of rate = nearest_up_to rate 615
