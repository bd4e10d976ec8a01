-- Demand 2, of a host whose bytes come in pieces: what the harvester asks is what the box understands, however the message
-- is cut on its way.
use Rattle.std.specs.Prelude.{ℕ, ◌≡◌, true, List, [], ◌∷◌, map}
use Rattle.wire.specs.Choice.{pick}
use Rattle.wire.specs.Codes as Code
use Rattle.items.specs.declared.Settings.{Settings}
use Rattle.items.specs.Settings.{in_range}
use Rattle.station.specs.Serving.{Piece, joined, roomy, unserved, serving}
use Rattle.wishes.specs.declared.Wish.{Wish}
use Rattle.wishes.specs.Wishes.{granted, refused_now}
use Rattle.wishes.specs.Writing.{wish_code, bytes_written}
use Rattle.replies.specs.Reading.{reply_says, reply_reader_says}
use Rattle.replies.specs.Saying.{said_by}
use Rattle.demands.specs.Shown.{resting}

-- A wish and the pieces of its message, served by a valid box between messages: the box does what the wish means, unless
-- its channel is closed or the wish has to wait; and it gives one reply, which is read back as what it then says (`Understands` has
-- the same of one call).
pub record UnderstandsInPieces (w : Wish) (pieces : List Piece) (s : Settings) : Type 0 where
  pub does : (serving (unserved (resting s)) pieces).station ≡ resting (pick (refused_now w s) s (granted w s))
  pub says : map (reply_reader_says w) (serving (unserved (resting s)) pieces).replies ≡ reply_says (said_by w s) ∷ []

-- every wish that the writer accepts, and any pieces of what it writes, whatever the buffer
abbrev pub WhatIsAskedIsUnderstoodInPieces : Type 0
WhatIsAskedIsUnderstoodInPieces =
    (w : Wish) (buffer : ℕ) → wish_code w buffer ≡ Code.done
    → (s : Settings) → in_range s ≡ true
    → (pieces : List Piece) → roomy pieces → joined pieces ≡ bytes_written w buffer
    → UnderstandsInPieces w pieces s
