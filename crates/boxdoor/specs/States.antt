-- How a box crosses the door: as lent bytes, field after field, numbers least significant byte first.
use Rattle.std.specs.Prelude.{ℕ, ◌+◌, not, List, ◌++◌, eqb, get_or, take, drop}
use Rattle.wire.specs.Choice.{pick}
use Rattle.wire.specs.Number.{bytes, field}
use Rattle.framing.specs.declared.Store.{Store}
use Rattle.items.specs.declared.Channel.{Channel}
use Rattle.items.specs.declared.Settings.{Settings}
use Rattle.station.specs.declared.Station.{Station}

-- A box: 126 bytes. A flag is a byte, 0 for no, anything else for yes.
abbrev pub station_size : ℕ
station_size = 126

-- where begin the numbers that are no channel's, the held bytes, and how many are taken
abbrev pub common_from : ℕ
common_from = 26

abbrev pub held_from : ℕ
held_from = 54

abbrev pub taken_from : ℕ
taken_from = 118

-- a channel, 13 bytes from a place on
abbrev pub channel_in : ℕ → List ℕ → Channel
channel_in at b = record { frequency = field at 8 b; word = field (at + 8) 4 b; gain = get_or b (at + 12) 0 }

unfoldable pub settings_in : List ℕ → Settings
settings_in b =
    record {
      first = channel_in 0 b;
      second = channel_in 13 b;
      count = field common_from 8 b;
      clock = field 34 4 b;
      divisor = field 38 4 b;
      running = not (eqb (get_or b 42 0) 0);
      mode = get_or b 43 0;
      size = get_or b 44 0;
      setup = get_or b 45 0;
      serial = take 8 (drop 46 b);
    }

unfoldable pub store_in : List ℕ → Store
store_in b = record { held = take 64 (drop held_from b); taken = field taken_from 8 b }

abbrev pub station_in : List ℕ → Station
station_in b = record { settings = settings_in b; store = store_in b }

-- the same field after field: the channels, the numbers that are no channel's, and the serial
unfoldable pub channel_bytes : Channel → List ℕ
channel_bytes c = bytes 8 c.frequency ++ bytes 4 c.word ++ bytes 1 c.gain

unfoldable pub common_bytes : Settings → List ℕ
common_bytes s =
    bytes 8 s.count ++ bytes 4 s.clock ++ bytes 4 s.divisor
    ++ bytes 1 (pick s.running 1 0) ++ bytes 1 s.mode ++ bytes 1 s.size ++ bytes 1 s.setup

abbrev pub settings_bytes : Settings → List ℕ
settings_bytes s = channel_bytes s.first ++ channel_bytes s.second ++ common_bytes s ++ s.serial

abbrev pub store_bytes : Store → List ℕ
store_bytes t = t.held ++ bytes 8 t.taken

abbrev pub station_bytes : Station → List ℕ
station_bytes s = settings_bytes s.settings ++ store_bytes s.store
