-- A host's whole talk with a fresh box.
use Rattle.std.specs.Prelude.{ℕ, zero, suc, ◌-◌, List, [], ◌++◌, eqb, ltb, length, drop}
use Rattle.wire.specs.Choice.{pick}
use Rattle.station.specs.declared.Station.{Station}
use Rattle.station.specs.Station.{fresh_station, session_serial}
use Rattle.station.specs.Feeding.{feeding_of}

-- The replies of at most so many calls, one behind the other: it ends with the host's bytes, or where there is less room
-- left than the 64 bytes that any reply fits in.
unfoldable pub served : ℕ → ℕ → Station → List ℕ → List ℕ
served zero room s host = []
served (suc calls) room s host =
    pick (eqb (length host) 0) []
    (pick (ltb room 64) []
    ((feeding_of s host room).bytes
    ++ served calls (room - length (feeding_of s host room).bytes) (feeding_of s host room).fed.station
    (drop (feeding_of s host room).fed.consumed host)))

-- a call on a valid box consumes a byte, so as many calls as there are bytes are enough
unfoldable pub serve_run : List ℕ → ℕ → List ℕ
serve_run host room = served (length host) room (fresh_station session_serial) host
