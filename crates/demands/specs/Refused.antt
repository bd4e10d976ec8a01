-- Demand 1: "A message the box will not obey gets the two-byte NAK and touches no setting." "Any other refused call writes nothing
-- and changes nothing."
use Rattle.std.specs.Prelude.{ℕ, ◌≤◌, ◌<◌, ◌≡◌, true, List, [], leb, length}
use Rattle.wire.specs.Choice.{pick}
use Rattle.wire.specs.Codes as Code
use Rattle.wire.specs.Header.{nak}
use Rattle.framing.specs.Framing.{between, call_takes, announced}
use Rattle.reader.specs.Answers.{Heard}
use Rattle.reader.specs.declared.Reader.{Reader}
use Rattle.reader.specs.Reading.{unheard}
use Rattle.station.specs.declared.Station.{Station}
use Rattle.station.specs.Station.{valid}
use Rattle.station.specs.Feeding.{Feeding, feeding_of}
use Rattle.cutting.specs.Cutting.{Cutting}

-- a call of feeding that came to a code from 10 to 17: "such a message is consumed and only the unfinished-message store
-- changes", and NAK is written
abbrev pub NakOnly : Station → List ℕ → Feeding → Type 0
NakOnly s host f =
    10 ≤ f.fed.code → f.fed.code ≤ 17
    → (f.bytes ≡ nak)
    × (f.fed.wrote ≡ 2)
    × (f.fed.consumed ≡ (call_takes s.store host).count)
    × (f.fed.station ≡ record { settings = s.settings; store = between })

-- a call with a code from 20: "Codes from 20 consume nothing and return the state given"
abbrev pub FeedsNothing : Station → Feeding → Type 0
FeedsNothing s f = 20 ≤ f.fed.code → (f.bytes ≡ []) × (f.fed.wrote ≡ 0) × (f.fed.consumed ≡ 0) × (f.fed.station ≡ s)

abbrev pub CutsNothing : Station → Cutting → Type 0
CutsNothing s c = 20 ≤ c.cut.code → (c.bytes ≡ []) × (c.cut.wrote ≡ 0) × (c.cut.station ≡ s)

-- no position, nothing missed, and the reader given
abbrev pub HearsNothing : Reader → Heard → Type 0
HearsNothing r h = 20 ≤ h.code → h ≡ unheard h.code r

-- No "NAK before a long message is fully taken": while fewer bytes are taken than the header announces, a valid box takes all that it
-- is handed, waits, and writes nothing.
abbrev pub WaitsForTheEnd : (Station → List ℕ → ℕ → Feeding) → Type 0
WaitsForTheEnd feed =
    (s : Station) (host : List ℕ) (room : ℕ) → valid s ≡ true
    → (call_takes s.store host).store.taken < announced (call_takes s.store host).store.held
    → ((feed s host room).fed.code ≡ Code.waiting) × ((feed s host room).fed.consumed ≡ length host) × ((feed s host room).bytes ≡ [])

-- a box that gives up a message at its 64th byte
abbrev pub naks_at64 : Station → List ℕ → ℕ → Feeding
naks_at64 s host room =
    pick (leb 64 (call_takes s.store host).store.taken)
    (record {
      fed = record { code = Code.too_long; consumed = length host; wrote = 2; station = record { settings = s.settings; store = between } };
      bytes = nak;
    })
    (feeding_of s host room)
