-- One capture from the box: the packets that it cuts, in order, from its start on.
use Rattle.std.specs.Prelude.{ℕ, true, List, [], ◌∷◌, ◌≡◌, ℤ}
use Rattle.wire.specs.Codes as Code
use Rattle.items.specs.Settings.{channels_of}
use Rattle.station.specs.declared.Station.{Station}
use Rattle.station.specs.Feeding.{feeding_of}
use Rattle.cutting.specs.Cutting.{cutting_of}

-- `Cuts s packets`: from the box s on, call by call, these packets come out in this order. A call cuts a packet (code 1),
-- or it feeds the box some of the host's bytes, which leave it running. (A cut that is refused returns the box given, so it
-- is no step.)
pub data Cuts : Station → List (List ℕ) → Type 0 where
  ends : {s : Station} → Cuts s []
  cuts :
      {s : Station} {packets : List (List ℕ)} (samples : List ℤ) (room : ℕ)
      → (cutting_of s samples room).cut.code ≡ Code.done
      → Cuts (cutting_of s samples room).cut.station packets
      → Cuts s ((cutting_of s samples room).bytes ∷ packets)
  feeds :
      {s : Station} {packets : List (List ℕ)} (host : List ℕ) (room : ℕ)
      → (feeding_of s host room).fed.station.settings.running ≡ true
      → Cuts (feeding_of s host room).fed.station packets
      → Cuts s packets

-- The box is running and has cut nothing yet: "Starting from idle sets the packet count to 0."
pub record Capture (s : Station) (packets : List (List ℕ)) : Type 0 where
  pub running : s.settings.running ≡ true
  pub fresh : s.settings.count ≡ 0
  pub calls : Cuts s packets

-- what each box has on the way
abbrev pub EachBox : (Station → Type 0) → {s : Station} {packets : List (List ℕ)} → Cuts s packets → Type 0
EachBox P {s} ends = P s
EachBox P {s} (cuts samples room taken later) = P s × EachBox P later
EachBox P {s} (feeds host room on later) = P s × EachBox P later

-- One capture has one channel count: "setting it while running is 17" (02, No. 7), so from the start on each box has the count of the
-- first. That is "the count with which the box cut that capture".
abbrev pub OneCountACapture : Type 0
OneCountACapture =
    (s : Station) (packets : List (List ℕ)) (c : Capture s packets)
    → EachBox (λ t. channels_of t.settings ≡ channels_of s.settings) c.calls
