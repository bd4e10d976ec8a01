-- What is known of a frequency that lies in the bands.
use Rattle.std.proofs.Common.{◌≡◌, ℕ, ◌≤◌, true, false, arith}
use Rattle.wire.specs.Choice.{within}
use Rattle.wire.proofs.Laws.{never, by_or, within_high}
use Rattle.tuning.specs.Bands.{in_bands}

-- it is not above the last band's end
pub bands_high : (hz : ℕ) → in_bands hz ≡ true → hz ≤ 150_000_000
bands_high hz = by_or (within 100_000 34_000_000 hz) _ first (by_or (within 140_000_000 150_000_000 hz) false second never)
  where
    first : within 100_000 34_000_000 hz ≡ true → hz ≤ 150_000_000
    first is = omega (arith, within_high 100_000 34_000_000 hz is)

    second : within 140_000_000 150_000_000 hz ≡ true → hz ≤ 150_000_000
    second = within_high 140_000_000 150_000_000 hz
