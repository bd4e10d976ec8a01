-- Demand 1: what a box started fresh can come to, by any sequence of messages, cuts and refusals.
use Rattle.std.specs.Prelude.{ℕ, ◌≡◌, true, List, ℤ}
use Rattle.station.specs.declared.Station.{Station}
use Rattle.station.specs.Station.{valid, fresh_box}
use Rattle.station.specs.Feeding.{feeding_of}
use Rattle.cutting.specs.Cutting.{cutting_of}

-- A fresh box from any serial, also one that is refused with 26; then calls that may be refused or not: what counts is the
-- box that each returns.
pub data Reachable : Station → Type 0 where
  fresh : (serial : List ℕ) → Reachable (fresh_box serial).station
  fed : (s : Station) (host : List ℕ) (room : ℕ) → Reachable s → Reachable (feeding_of s host room).fed.station
  cut : (s : Station) (samples : List ℤ) (room : ℕ) → Reachable s → Reachable (cutting_of s samples room).cut.station

-- "No setting of a box started fresh ever leaves its range."
abbrev pub NeverOutOfRange : Type 0
NeverOutOfRange = (s : Station) → Reachable s → valid s ≡ true
