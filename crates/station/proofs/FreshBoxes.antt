-- A fresh box is valid, from whichever serial.
-- Assumes nothing.
use Prim.Native.Nat.{ℕ}
use mathlib.Core.Path.{◌≡◌, refl}
use mathlib.Core.Bool.{Bool, true, false}
use mathlib.Core.List.{List}
use lib.ListN.{replicate}
use Rattle.framing.specs.Framing.{between}
use Rattle.framing.proofs.Leaving.{between_left}
use Rattle.tuning.specs.Word.{word_of}
use Rattle.items.specs.Settings.{fresh_channel, fresh_of, is_serial}
use Rattle.station.specs.Station.{valid, fresh_station, fresh_box}
use Rattle.station.proofs.Kept.{Channels, in_range_lem}
use Rattle.station.proofs.Valid.{valid_both}

-- the word that a fresh box keeps is that of its frequency and clock
pub fresh_word : 536_870_912 ≡ word_of 10_000_000 80_000_000
unfolding word_of
fresh_word = refl

-- either channel of a fresh box
fresh_channel_lem : Channels 80_000_000 fresh_channel
fresh_channel_lem = record { frequency = refl; word = fresh_word; gain = refl }

-- of a serial that is taken
pub fresh_valid : (serial : List ℕ) → is_serial serial ≡ true → valid (fresh_station serial) ≡ true
fresh_valid serial h =
    valid_both (fresh_of serial) between
    (in_range_lem (fresh_of serial)
    (record {
      clock = refl;
      first = fresh_channel_lem;
      second = fresh_channel_lem;
      count = refl;
      divisor = refl;
      size = refl;
      setup = refl;
      mode = refl;
      serial = h;
    }))
    between_left

-- and of any: one that is refused gives the serial 00000000
pub fresh_box_valid : (serial : List ℕ) → valid (fresh_box serial).station ≡ true
fresh_box_valid serial = go (is_serial serial) refl
  where
    go : (b : Bool) → is_serial serial ≡ b → valid (fresh_box serial).station ≡ true
    go true q = rw q (fresh_valid serial q)
    go false q = rw q (fresh_valid (replicate 8 0x30) refl)
