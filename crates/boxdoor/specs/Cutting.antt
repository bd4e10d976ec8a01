-- Cutting packets, over the door.
use Rattle.std.specs.Prelude.{ℕ, List, [], eqb, ltb, ℤ, length}
use Rattle.wire.specs.Choice.{pick}
use Rattle.wire.specs.Codes as Code
use Rattle.cutting.specs.Cutting.{Cut}
use Rattle.cutting.specs.Cutting.{cutting_of}
use Rattle.boxdoor.specs.States.{station_size, station_in, station_bytes}

-- what a call answers, and the box's bytes after it
pub record CutAnswer : Type 0 where
  pub code : ℕ
  pub wrote : ℕ
  pub state : List ℕ

-- a box is written back where the call was not refused
unfoldable pub cut_by : List ℕ → Cut → CutAnswer
cut_by state r =
    record { code = r.code; wrote = r.wrote; state = pick (ltb r.code 20) (station_bytes r.station) state }

-- bytes that are not those of a box are a broken one: 21
unfoldable pub cut_over : List ℕ → List ℤ → ℕ → CutAnswer
cut_over state samples room =
    pick (eqb (length state) station_size) (cut_by state (cutting_of (station_in state) samples room).cut)
    (record { code = Code.broken; wrote = 0; state = state })

-- what is written at the start of the lent packet
unfoldable pub packet_over : List ℕ → List ℤ → ℕ → List ℕ
packet_over state samples room =
    pick (eqb (length state) station_size) (cutting_of (station_in state) samples room).bytes []
