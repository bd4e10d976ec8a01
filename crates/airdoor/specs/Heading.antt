-- The mode byte and the length of a capture head, over the door.
use Rattle.std.specs.Prelude.{ℕ, ◌≡◌, true, ◌&&◌, List, [], ◌∷◌, length}
use Rattle.wire.specs.Choice.{pick}
use Rattle.wire.specs.Codes as Code
use Rattle.wire.specs.Lists.{each}
use Rattle.items.specs.Settings.{is_mode, is_setup, single, dual, open_channels}
use Rattle.heads.specs.declared.Head.{Head}
use Rattle.heads.specs.Head.{mode_with, is_head_version, head_length, head_bytes}

-- the byte and the code, 0 in the place of a byte that there is not
pub record HeadMode : Type 0 where
  pub code : ℕ
  pub byte : ℕ

-- the byte that says the mode and the channels which are open; 16 where a box cannot have the mode or the setup
unfoldable pub head_mode_over : ℕ → ℕ → HeadMode
head_mode_over mode setup =
    pick (is_mode mode && is_setup setup) (record { code = Code.done; byte = mode_with mode (length (open_channels setup)) })
    (record { code = Code.value_not_allowed; byte = 0 })

-- "14 bytes", "26 bytes in all"; 0 for a version that there is not
abbrev pub head_length_over : ℕ → ℕ
head_length_over version = pick (is_head_version version) (head_length version) 0

-- ---- what is proved of it: proofs/Modes

-- a mode and a setup of a box, and the byte of its captures' heads
pub record ModeRow : Type 0 where
  pub mode : ℕ
  pub setup : ℕ
  pub byte : ℕ

abbrev mode_row : ℕ → ℕ → ℕ → ModeRow
mode_row mode setup byte = record { mode = mode; setup = setup; byte = byte }

-- all four
abbrev pub mode_rows : List ModeRow
mode_rows = mode_row 0x80 single 0x80 ∷ mode_row 0x00 single 0x00 ∷ mode_row 0x80 dual 0xC0 ∷ mode_row 0x00 dual 0x40 ∷ []

abbrev pub AsInTheRows : Type 0
AsInTheRows = each (λ (r : ModeRow). head_mode_over r.mode r.setup ≡ record { code = Code.done; byte = r.byte }) mode_rows

-- the length is that of the bytes which are written
abbrev pub LongAsWritten : Type 0
LongAsWritten = (h : Head) → is_head_version h.version ≡ true → head_length_over h.version ≡ length (head_bytes h)
