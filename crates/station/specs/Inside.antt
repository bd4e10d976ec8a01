-- What the functions inside promise each other, and, for the proofs, what ties it to Feeding (Opened in proofs/).
use Rattle.std.specs.Prelude.{ℕ, ltb, List, length}
use Rattle.wire.specs.Choice.{pick}
use Rattle.wire.specs.Codes as Code
use Rattle.framing.specs.Framing.{Taking}
use Rattle.framing.specs.Telling.{Took}
use Rattle.items.specs.Answer.{Message, reply_of}
use Rattle.station.specs.declared.Station.{Station}
use Rattle.station.specs.Feeding.{Feeding, message_in, refused, answered}

-- a message of which only ten bytes from its first on are at hand
abbrev pub opened_message : List ℕ → Message
opened_message ten = message_in (record { held = ten; taken = 0 })

-- the same, as what a call took
abbrev pub opened : Took → Taking
opened t = record { store = record { held = t.opening; taken = t.taken }; count = t.count; finished = t.finished }

-- a finished message, where there is room for its reply
abbrev pub answering : Station → Taking → ℕ → Feeding
answering s t room =
    pick (ltb room (length (reply_of s.settings (message_in t.store)))) (refused Code.no_room s) (answered s.settings t)
