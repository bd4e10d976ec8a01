-- Bands: "100,000 to 34,000,000 Hz, oscillator 0; 140,000,000 to 150,000,000 Hz, oscillator 160,000,000."
use Rattle.std.specs.Prelude.{ℕ, Bool, List, [], ◌∷◌, ◌++◌}
use Rattle.wire.specs.Choice.{any_of, within}
use Rattle.wire.specs.Number.{bytes}

pub record Band : Type 0 where
  pub minimum : ℕ
  pub maximum : ℕ
  pub oscillator : ℕ

abbrev pub bands : List Band
bands =
    record { minimum = 100_000; maximum = 34_000_000; oscillator = 0 }
    ∷ record { minimum = 140_000_000; maximum = 150_000_000; oscillator = 160_000_000 }
    ∷ []

abbrev pub covers : Band → ℕ → Bool
covers b hz = within b.minimum b.maximum hz

-- the frequency lies in one of the bands
abbrev pub in_bands : ℕ → Bool
in_bands hz = any_of (λ b. covers b hz) bands

-- "then minimum, maximum, oscillator of each in five bytes"
abbrev pub range_bytes : List Band → List ℕ
range_bytes [] = []
range_bytes (b ∷ bs) = bytes 5 b.minimum ++ bytes 5 b.maximum ++ bytes 5 b.oscillator ++ range_bytes bs
