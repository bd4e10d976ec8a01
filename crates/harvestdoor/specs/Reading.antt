-- Reading packets, over the door.
use Rattle.std.specs.Prelude.{ℕ, ◌≡◌, true, ◌&&◌, List, eqb, length, get_or}
use Rattle.wire.specs.Choice.{pick}
use Rattle.wire.specs.Codes as Code
use Rattle.packets.specs.Channels.{is_count}
use Rattle.reader.specs.Answers.{Heard}
use Rattle.reader.specs.Reading.{silent, unheard, reading_of, sample_bytes_of}
use Rattle.harvestdoor.specs.States.{reader_size, reader_in, reader_bytes}

-- what making a reader answers, and the lent bytes after it
pub record Made : Type 0 where
  pub code : ℕ
  pub state : List ℕ

-- "The reader is told the channel count when made" (02, No. 7): a silent one, or 21 and nothing written where it would be broken, or the
-- bytes are not as many as a reader's
unfoldable pub silent_over : ℕ → List ℕ → Made
silent_over channels state =
    pick (eqb (length state) reader_size && is_count channels) (record { code = Code.done; state = reader_bytes (silent channels) })
    (record { code = Code.broken; state = state })

-- such bytes are a silent reader of that count
abbrev pub SilentIsRead : Type 0
SilentIsRead = (channels : ℕ) → is_count channels ≡ true → reader_in (reader_bytes (silent channels)) ≡ silent channels

-- what a call answers, and the reader's bytes after it
pub record Read : Type 0 where
  pub code : ℕ
  pub position : ℕ
  pub sample : ℕ
  pub missed : ℕ
  pub total : ℕ
  pub state : List ℕ

-- what the packet reader answered, and these bytes left
abbrev pub read_leaving : Heard → List ℕ → Read
read_leaving h state =
    record { code = h.code; position = h.position; sample = h.sample; missed = h.missed; total = h.total; state = state }

-- a reader is written back where a packet was heard
unfoldable pub heard_over : List ℕ → Heard → Read
heard_over state h = read_leaving h (pick (eqb h.code Code.done) (reader_bytes h.reader) state)

-- bytes that are not those of a reader are a broken one: 21
unfoldable pub read_over : List ℕ → List ℕ → Read
read_over state packet =
    pick (eqb (length state) reader_size) (heard_over state (reading_of (reader_in state) packet))
    (read_leaving (unheard Code.broken (reader_in state)) state)

-- the byte at a place of a packet's sample bytes, 0 past their end
abbrev pub sample_byte_at : ℕ → List ℕ → ℕ
sample_byte_at place packet = get_or (sample_bytes_of packet) place 0
