-- What the program does with the pieces that it reads, in the words of station/specs/Serving.
use Rattle.std.specs.Prelude.{ℕ, ◌≡◌, true, List, [], ◌∷◌, ◌++◌, length}
use Rattle.station.specs.declared.Station.{Station}
use Rattle.station.specs.declared.Parts.{Parts}
use Rattle.station.specs.declared.Fed as Made
use Rattle.station.specs.Station.{valid, box_of, fresh_station, session_serial}
use Rattle.station.specs.Feeding.{Fed, call_code}
use Rattle.station.specs.Serving.{Served, unserved, Piece, serving, joined}

-- a piece as it was read; each call has 64 bytes of room for its reply
abbrev pub piece : List ℕ → Piece
piece host = record { rooms = λ calls. 64; host = host }

-- what a call did with a box whose held bytes were lent, and the bytes that it left held: as of a whole box
abbrev pub fed_with : Made.Fed Parts → List ℕ → Fed
fed_with f held =
    record {
      code = call_code f.outcome;
      consumed = f.consumed;
      wrote = f.wrote;
      station = box_of f.left.settings held f.left.taken;
    }

-- the box after a piece, and the replies to it
abbrev pub handed : Station → List ℕ → Served
handed s host = serving (unserved s) (piece host ∷ [])

-- what the program promises of the box that a piece leaves
pub record HandedOver (s : Station) (host : List ℕ) (after : Station) : Type 0 where
  pub box : after ≡ (handed s host).station
  pub valid : valid after ≡ true

-- the replies before, and then these
abbrev pub following : List (List ℕ) → Served → Served
following before r = record { station = r.station; replies = before ++ r.replies }

-- one piece after the other, each handed to the box that the one before it left
unfoldable pub handed_all : Station → List (List ℕ) → Served
handed_all s [] = unserved s
handed_all s (p ∷ ps) = following (handed s p).replies (handed_all (handed s p).station ps)

abbrev pub pieces : List (List ℕ) → List Piece
pieces [] = []
pieces (p ∷ ps) = piece p ∷ pieces ps

-- "The session program feeds standard input to a fresh box with serial MT123456": the box that pieces of an input have left,
-- so many bytes in all. The program counts what it reads, so a box that misses a piece is not one of these.
pub record ReadSoFar (s : Station) (read : ℕ) : Type 0 where
  pub parts : List (List ℕ)
  pub count : length (joined (pieces parts)) ≡ read
  pub box : s ≡ (handed_all (fresh_station session_serial) parts).station
  pub valid : valid s ≡ true
