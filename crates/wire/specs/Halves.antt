-- "to the nearest whole number, halves up": so the tuning word and the achieved rates are rounded.
use Rattle.std.specs.Prelude.{ℕ, ◌+◌, ◌*◌, ◌-◌, ◌/◌, ◌≤◌, ◌≡◌}

-- x / c to the nearest whole number, halves up
abbrev pub halves_up : ℕ → ℕ → ℕ
halves_up x c = (2 * x + c) / (2 * c)

-- the distance of two numbers
abbrev pub apart : ℕ → ℕ → ℕ
apart a b = (a - b) + (b - a)

-- What these words mean: w is the whole number nearest to x / c, and of two that are equally near the greater. Distances
-- are taken c-fold, so that they are whole numbers. (`half_up`, in the proofs: `halves_up` is that.)
pub record NearestUp (x c w : ℕ) : Type 0 where
  pub nearest : (v : ℕ) → apart (c * w) x ≤ apart (c * v) x
  pub up : (v : ℕ) → apart (c * v) x ≡ apart (c * w) x → v ≤ w
