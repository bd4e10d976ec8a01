-- A fresh box, feeding it and its tuning word, over the door.
use Rattle.std.specs.Prelude.{ℕ, List, [], ◌∷◌, eqb, ltb, length}
use Rattle.wire.specs.Choice.{pick}
use Rattle.wire.specs.Codes as Code
use Rattle.wire.specs.Told.{Told}
use Rattle.station.specs.Feeding.{Fed}
use Rattle.station.specs.Station.{fresh_box, tuning_told}
use Rattle.station.specs.Feeding.{feeding_of}
use Rattle.boxdoor.specs.States.{station_size, station_in, station_bytes}

-- what a call answers, and the box's bytes after it
pub record FeedAnswer : Type 0 where
  pub code : ℕ
  pub consumed : ℕ
  pub wrote : ℕ
  pub state : List ℕ

-- a box is written back where the call was not refused: "Codes from 20 .. return the state given"
unfoldable pub fed_over : List ℕ → Fed → FeedAnswer
fed_over state f =
    record {
      code = f.code;
      consumed = f.consumed;
      wrote = f.wrote;
      state = pick (ltb f.code 20) (station_bytes f.station) state;
    }

-- bytes that are not those of a box are a broken one: 21
unfoldable pub feed_over : List ℕ → List ℕ → ℕ → FeedAnswer
feed_over state host room =
    pick (eqb (length state) station_size) (fed_over state (feeding_of (station_in state) host room).fed)
    (record { code = Code.broken; consumed = 0; wrote = 0; state = state })

-- what is written at the start of the reply buffer
unfoldable pub replied_over : List ℕ → List ℕ → ℕ → List ℕ
replied_over state host room = pick (eqb (length state) station_size) (feeding_of (station_in state) host room).bytes []

-- a fresh box fills a box's bytes; other lengths are left alone
pub record Fresh : Type 0 where
  pub code : ℕ
  pub state : List ℕ

unfoldable pub fresh_over : List ℕ → List ℕ → Fresh
fresh_over serial state =
    pick (eqb (length state) station_size)
    (record { code = (fresh_box serial).code; state = station_bytes (fresh_box serial).station })
    (record { code = Code.broken; state = state })

-- the code and the word, 0 in the place of a word that there is not
pub record Tuned : Type 0 where
  pub code : ℕ
  pub word : ℕ

abbrev pub first_or0 : List ℕ → ℕ
first_or0 [] = 0
first_or0 (w ∷ ws) = w

abbrev pub tuned : Told → Tuned
tuned t = record { code = t.code; word = first_or0 t.values }

unfoldable pub tuned_over : List ℕ → ℕ → Tuned
tuned_over state channel =
    pick (eqb (length state) station_size) (tuned (tuning_told (station_in state) channel)) (record { code = Code.broken; word = 0 })
