-- The table of packet forms: mode, size, header, total, I/Q pairs.
use Rattle.std.specs.Prelude.{ℕ, ◌+◌, ◌*◌, ◌/◌, Bool, ◌&&◌, List, [], ◌∷◌, Option, Some, None, eqb, length}
use Rattle.wire.specs.Choice.{pick, any_of, first_row}
use Rattle.wire.specs.Number.{field}
use Rattle.packets.specs.declared.Form.{Form}

-- the mode byte: 80 for 24 bits, 00 for 16; the size byte: 0 large, 1 small
pub record Row : Type 0 where
  pub mode : ℕ
  pub size : ℕ
  pub header : List ℕ
  pub total : ℕ
  pub bits : ℕ
  pub pairs : ℕ

abbrev pub forms : List Row
forms =
    record { mode = 0x80; size = 0; header = 0xA4 ∷ 0x85 ∷ []; total = 1_444; bits = 24; pairs = 240 }
    ∷ record { mode = 0x80; size = 1; header = 0x84 ∷ 0x81 ∷ []; total = 388; bits = 24; pairs = 64 }
    ∷ record { mode = 0x00; size = 0; header = 0x04 ∷ 0x84 ∷ []; total = 1_028; bits = 16; pairs = 256 }
    ∷ record { mode = 0x00; size = 1; header = 0x04 ∷ 0x82 ∷ []; total = 516; bits = 16; pairs = 128 }
    ∷ []

abbrev pub form_of : Row → Form
form_of r = record { bits = r.bits; pairs = r.pairs }

abbrev pub same_form : Form → Form → Bool
same_form f g = eqb f.bits g.bits && eqb f.pairs g.pairs

-- "Header, 16-bit packet number, then I and Q in turn": four bytes, then two samples for each pair. What a form says of a
-- packet is stated over its width and pair count; `Forms` in proofs/ shows that the table agrees with it, row by row.
abbrev pub total_of : Form → ℕ
total_of f = 4 + f.pairs * 2 * (f.bits / 8)

-- no form at all
abbrev pub no_form : Form
no_form = record { bits = 0; pairs = 0 }

-- the form is listed
abbrev pub listed_form : Form → Bool
listed_form f = any_of (λ r. same_form (form_of r) f) forms

-- a form as it is answered: itself where it is listed, else none
unfoldable pub found : Form → Option Form
found f = pick (listed_form f) (Some f) None

-- the form for a mode byte and a size byte
abbrev pub form_for : ℕ → ℕ → Form
form_for mode size = first_row (λ r. eqb r.mode mode && eqb r.size size) form_of no_form forms

-- the form whose two header bytes hold this number
abbrev pub form_with_header : ℕ → Form
form_with_header header = first_row (λ r. eqb header (field 0 2 r.header)) form_of no_form forms

-- "The slice must be one whole packet of a listed form": the form whose header stands first and whose total is the slice's length
abbrev pub whole_of : List ℕ → Form
whole_of packet =
    first_row (λ r. eqb (field 0 2 packet) (field 0 2 r.header) && eqb (length packet) r.total) form_of no_form forms

abbrev pub is_packet : List ℕ → Bool
is_packet packet = listed_form (whole_of packet)
