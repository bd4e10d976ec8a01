-- Demand 2: "What the harvester asks is what the box understands."
use Rattle.std.specs.Prelude.{ℕ, ◌≡◌, true, List, ◌⊎◌, ◌↔◌}
use Rattle.wire.specs.Choice.{pick}
use Rattle.wire.specs.Codes as Code
use Rattle.wire.specs.Header.{nak}
use Rattle.items.specs.declared.Settings.{Settings}
use Rattle.items.specs.Settings.{in_range}
use Rattle.station.specs.Feeding.{feeding_of}
use Rattle.wishes.specs.declared.Wish.{Wish}
use Rattle.wishes.specs.Wishes.{message_of, granted, closed_now, not_now, refused_now}
use Rattle.wishes.specs.Writing.{wish_code, bytes_written}
use Rattle.replies.specs.Reading.{reply_code, reply_says, reply_reader_says}
use Rattle.replies.specs.Saying.{said_by}
use Rattle.demands.specs.Shown.{resting, has_room}

-- A wish and the bytes of its message, fed to a valid box between messages: the box does what the wish means (`granted`),
-- unless the wish's channel is closed in it (15, NAK), or it is running and the wish has to wait (17, NAK); and what it writes is read
-- back as what it then says, NAK as NAK (`said_by`).
pub record Understands (w : Wish) (message : List ℕ) (s : Settings) (room : ℕ) : Type 0 where
  pub code : (feeding_of (resting s) message room).fed.code
      ≡ pick (closed_now w s) Code.channel_not_allowed (pick (not_now w s) Code.not_while_running Code.done)
  pub does : (feeding_of (resting s) message room).fed.station ≡ resting (pick (refused_now w s) s (granted w s))
  pub says : reply_reader_says w (feeding_of (resting s) message room).bytes ≡ reply_says (said_by w s)

-- every wish that the writer accepts, and what it writes, whatever the buffer
abbrev pub WhatIsAskedIsUnderstood : Type 0
WhatIsAskedIsUnderstood =
    (w : Wish) (buffer : ℕ) → wish_code w buffer ≡ Code.done
    → (s : Settings) → in_range s ≡ true
    → (room : ℕ) → has_room (feeding_of (resting s) (bytes_written w buffer) room)
    → Understands w (bytes_written w buffer) s room

-- some valid box between messages, fed this message, writes these bytes
pub record Writes (message bs : List ℕ) : Type 0 where
  pub settings : Settings
  pub valid : in_range settings ≡ true
  pub writes : (feeding_of (resting settings) message 64).bytes ≡ bs

-- "it accepts NAK for any other, and exactly those further replies that some valid box could give to it": of boxes that are fed
-- what the writer wrote
abbrev pub ReadsWhatBoxesWrite : Type 0
ReadsWhatBoxesWrite =
    (w : Wish) (buffer : ℕ) (bs : List ℕ) → wish_code w buffer ≡ Code.done
    → (reply_code w bs ≡ Code.done) ↔ ((bs ≡ nak) ⊎ Writes (bytes_written w buffer) bs)

-- "a channel byte (15, nothing written, if no box allows it; before 16)" (02, No. 7): the writer says 15 exactly where every valid box
-- would that was fed the message
abbrev pub RefusedByEveryBox : Type 0
RefusedByEveryBox =
    (w : Wish) (buffer : ℕ)
    → (wish_code w buffer ≡ Code.channel_not_allowed)
    ↔ ((s : Settings) → in_range s ≡ true → (feeding_of (resting s) (message_of w) 64).fed.code ≡ Code.channel_not_allowed)
