-- Serving a host: its bytes come in pieces, each piece is handed over by calling again until its bytes are used up, and
-- the replies are noted in order. "Cutting claims hold for a valid box and reply buffers of 64 bytes or more, calling
-- again until the bytes are used up."
use Rattle.std.specs.Prelude.{ℕ, zero, suc, ◌≤◌, ◌≡◌, true, List, [], ◌∷◌, ◌++◌, length, drop}
use Rattle.framing.specs.declared.Store.{Store}
use Rattle.framing.specs.Stream.{Stream, eaten}
use Rattle.items.specs.declared.Settings.{Settings}
use Rattle.items.specs.Answer.{reply_of, settings_after}
use Rattle.station.specs.declared.Station.{Station}
use Rattle.station.specs.Station.{valid}
use Rattle.station.specs.Feeding.{message_in, feeding_of}

-- the box after some calls, and the replies that they wrote
pub record Served : Type 0 where
  pub station : Station
  pub replies : List (List ℕ)

abbrev pub unserved : Station → Served
unserved s = record { station = s; replies = [] }

-- a call that wrote nothing adds no reply
abbrev pub noting : List (List ℕ) → List ℕ → List (List ℕ)
noting replies [] = replies
noting replies (b ∷ bs) = replies ++ (b ∷ bs) ∷ []

-- one call, with this much room for a reply
abbrev pub called : ℕ → Served → List ℕ → Served
called room r host =
    record {
      station = (feeding_of r.station host room).fed.station;
      replies = noting r.replies (feeding_of r.station host room).bytes;
    }

-- "calling again until the bytes are used up". Each call on a valid box with 64 bytes of room consumes a byte (proofs/Calls:
-- `feeding_some`), so as many calls as there are bytes are enough (`ServedToTheEnd`, below). `rooms` has the room of each
-- call, by how many may follow.
unfoldable pub calling : (ℕ → ℕ) → ℕ → Served → List ℕ → Served
calling rooms zero r host = r
calling rooms (suc calls) r [] = r
calling rooms (suc calls) r (b ∷ bs) =
    calling rooms calls (called (rooms calls) r (b ∷ bs))
    (drop (feeding_of r.station (b ∷ bs) (rooms calls)).fed.consumed (b ∷ bs))

-- a piece of the host's bytes, and the room that each call has while it is handed over
pub record Piece : Type 0 where
  pub rooms : ℕ → ℕ
  pub host : List ℕ

-- one piece after the other
unfoldable pub serving : Served → List Piece → Served
serving r [] = r
serving r (p ∷ ps) = serving (calling p.rooms (length p.host) r p.host) ps

-- the host's bytes, however they were cut
abbrev pub joined : List Piece → List ℕ
joined [] = []
joined (p ∷ ps) = p.host ++ joined ps

-- "reply buffers of 64 bytes or more"
abbrev pub roomy : List Piece → Type 0
roomy [] = Unit {0}
roomy (p ∷ ps) = ((calls : ℕ) → 64 ≤ p.rooms calls) × roomy ps

-- "Cutting the host's bytes differently gives the same replies and settings."
abbrev pub CutsDoNotMatter : Type 0
CutsDoNotMatter =
    (s : Station) (ps qs : List Piece) → valid s ≡ true → roomy ps → roomy qs → joined ps ≡ joined qs
    → serving (unserved s) ps ≡ serving (unserved s) qs

-- ---- the same without calls: the host's bytes one by one, each message answered when its last byte is taken

-- what the finished messages have led to
pub record Come : Type 0 where
  pub settings : Settings
  pub replies : List (List ℕ)

abbrev pub answer : Come → Store → Come
answer x t =
    record {
      settings = settings_after x.settings (message_in t);
      replies = noting x.replies (reply_of x.settings (message_in t));
    }

abbrev pub begun : Station → Stream Come
begun s = record { store = s.store; state = record { settings = s.settings; replies = [] } }

abbrev pub come : Stream Come → Served
come r = record { station = record { settings = r.state.settings; store = r.store }; replies = r.state.replies }

-- So "the bytes are used up": all of them are served, however they are cut.
abbrev pub ServedToTheEnd : Type 0
ServedToTheEnd =
    (s : Station) (ps : List Piece) → valid s ≡ true → roomy ps
    → serving (unserved s) ps ≡ come (eaten answer (begun s) (joined ps))
