-- The length of a message, over the door.
use Rattle.std.specs.Prelude.{ℕ, ◌≤◌, ◌≡◌, true, List, [], ◌∷◌, ltb, length}
use Rattle.wire.specs.Choice.{pick}
use Rattle.wire.specs.Lists.{each}
use Rattle.packets.specs.Forms.{is_packet}
use Rattle.framing.specs.Framing.{announced}

-- What the header announces, as soon as its two bytes are there: "bits 0 to 12 the total length"; "A data item of length 0 means 8,194
-- bytes in all"; "lengths 0 and 1 finish after the two header bytes, except length 0 in types 4 to 7". Messages from the box have a header
-- of the same form, so this one definition serves both ways.
abbrev pub message_over : List ℕ → ℕ
message_over bytes = pick (ltb (length bytes) 2) 0 (announced bytes)

-- ---- what is proved of it: proofs/Messages

-- the first bytes of a message, and how long it is
pub record MessageRow : Type 0 where
  pub first : List ℕ
  pub total : ℕ

abbrev message_row : List ℕ → ℕ → MessageRow
message_row first total = record { first = first; total = total }

-- nothing and one byte; NAK; lengths 0 and 1 of type 0, and of data item 0; the set of a frequency; the four packets; data item 3 of
-- length 0
abbrev pub message_rows : List MessageRow
message_rows =
    message_row [] 0
    ∷ message_row (0x0A ∷ []) 0
    ∷ message_row (0x02 ∷ 0x00 ∷ []) 2
    ∷ message_row (0x00 ∷ 0x00 ∷ []) 2
    ∷ message_row (0x01 ∷ 0x00 ∷ []) 2
    ∷ message_row (0x00 ∷ 0x80 ∷ []) 8_194
    ∷ message_row (0x01 ∷ 0x80 ∷ []) 2
    ∷ message_row (0x0A ∷ 0x00 ∷ 0x20 ∷ []) 10
    ∷ message_row (0xA4 ∷ 0x85 ∷ []) 1_444
    ∷ message_row (0x84 ∷ 0x81 ∷ []) 388
    ∷ message_row (0x04 ∷ 0x84 ∷ []) 1_028
    ∷ message_row (0x04 ∷ 0x82 ∷ []) 516
    ∷ message_row (0x00 ∷ 0xE0 ∷ []) 8_194
    ∷ []

pub record MessagesAsPrinted : Type 0 where
  pub rows : each (λ (r : MessageRow). message_over r.first ≡ r.total) message_rows
  -- what follows the two bytes of the header has no say
  pub header_says : (a b : ℕ) (rest : List ℕ) → message_over (a ∷ b ∷ rest) ≡ message_over (a ∷ b ∷ [])
  -- and no message ends within its header
  pub header_belongs : (a b : ℕ) (rest : List ℕ) → 2 ≤ message_over (a ∷ b ∷ rest)

-- a whole packet is one message
abbrev pub PacketsAreMessages : Type 0
PacketsAreMessages = (packet : List ℕ) → is_packet packet ≡ true → message_over packet ≡ length packet
