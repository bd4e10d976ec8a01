-- The shape of packets behind a capture head, over the door: how they are laid out.
use Rattle.std.specs.Prelude.{ℕ, ◌+◌, ◌*◌, ◌/◌, ◌≡◌, true, ◌&&◌, List, [], ◌∷◌, eqb, length}
use Rattle.wire.specs.Choice.{pick, one_of}
use Rattle.wire.specs.Codes as Code
use Rattle.wire.specs.Lists.{each}
use Rattle.packets.specs.declared.Form.{Form}
use Rattle.packets.specs.Forms.{form_for, total_of, listed_form, whole_of}
use Rattle.packets.specs.Channels.{pairs_each}
use Rattle.items.specs.declared.Settings.{Settings}
use Rattle.items.specs.Settings.{is_size, in_range, channels_of}
use Rattle.heads.specs.declared.Head.{Head}
use Rattle.heads.specs.Head.{channels_in, form_in, allowed_head}
use Rattle.airdoor.specs.Heading.{head_mode_over}

-- the code, how many channels a packet holds, the bits of a sample, the I/Q pairs of each channel, the numbers (I and Q of every channel:
-- what cutting takes), and the bytes in all
pub record Shape : Type 0 where
  pub code : ℕ
  pub channels : ℕ
  pub bits : ℕ
  pub pairs : ℕ
  pub numbers : ℕ
  pub total : ℕ

abbrev pub as_shape : ℕ → ℕ → ℕ → ℕ → ℕ → ℕ → Shape
as_shape code channels bits pairs numbers total =
    record { code = code; channels = channels; bits = bits; pairs = pairs; numbers = numbers; total = total }

-- packets of a form that hold so many channels
abbrev pub shape_of : ℕ → Form → Shape
shape_of n f = as_shape Code.done n f.bits (pairs_each n f) (2 * f.pairs) (total_of f)

-- behind a head: of the form that it announces, with as many channels as its bit 6 says
abbrev pub shape_behind : Head → Shape
shape_behind h = shape_of (channels_in h) (form_in h)

-- 16 and zeros where no head may have them
abbrev pub no_shape : Shape
no_shape = as_shape Code.value_not_allowed 0 0 0 0 0

unfoldable pub shape_in : Head → Shape
shape_in h = pick (listed_form (form_in h)) (shape_behind h) no_shape

-- a head with this mode byte and this size byte; its other values say nothing of packets
abbrev pub some_head : ℕ → ℕ → Head
some_head mode size =
    record { version = 0; divisor = 0; frequency = 0; mode = mode; size = size; serial = 0; clock = 0 }

abbrev pub shape_over : ℕ → ℕ → Shape
shape_over mode size = shape_in (some_head mode size)

-- ---- what is proved of it: proofs/Behind

-- a mode byte and a size byte of a head, and the shape behind it
pub record ShapeRow : Type 0 where
  pub mode : ℕ
  pub size : ℕ
  pub shape : Shape

abbrev shape_row : ℕ → ℕ → ℕ → ℕ → ℕ → ℕ → ℕ → ShapeRow
shape_row mode size channels bits pairs numbers total =
    record { mode = mode; size = size; shape = as_shape Code.done channels bits pairs numbers total }

-- All eight: 01's table of packets, and "pairs per channel are 120, 32, 128 and 64". Mode, size; channels, bits, pairs of each channel,
-- numbers, bytes in all.
abbrev pub shape_rows : List ShapeRow
shape_rows =
    shape_row 0x80 0 1 24 240 480 1_444
    ∷ shape_row 0x80 1 1 24 64 128 388
    ∷ shape_row 0x00 0 1 16 256 512 1_028
    ∷ shape_row 0x00 1 1 16 128 256 516
    ∷ shape_row 0xC0 0 2 24 120 480 1_444
    ∷ shape_row 0xC0 1 2 24 32 128 388
    ∷ shape_row 0x40 0 2 16 128 512 1_028
    ∷ shape_row 0x40 1 2 16 64 256 516
    ∷ []

pub record ShapesAsPrinted : Type 0 where
  pub rows : each (λ (r : ShapeRow). shape_over r.mode r.size ≡ r.shape) shape_rows
  -- and no others
  pub exactly : (mode size : ℕ)
      → eqb (shape_over mode size).code Code.done ≡ one_of mode (0x80 ∷ 0x00 ∷ 0xC0 ∷ 0x40 ∷ []) && is_size size

-- Every head that may be written has these bytes, and its own form and channels are answered.
abbrev pub ShapedByTheHead : Type 0
ShapedByTheHead = (h : Head) → allowed_head h ≡ true → shape_over h.mode h.size ≡ shape_behind h

-- A box with settings in range, and the mode byte of its captures' heads: what is answered is the form that it cuts, in its channels.
abbrev pub ShapedByTheBox : Type 0
ShapedByTheBox =
    (s : Settings) → in_range s ≡ true
    → shape_over (head_mode_over s.mode s.setup).byte s.size ≡ shape_of (channels_of s) (form_for s.mode s.size)

-- The numbers are I and Q of each pair of each channel. "Header, 16-bit packet number, then I and Q in turn": two bytes, two bytes, the
-- numbers.
pub record WorksOut (s : Shape) : Type 0 where
  pub numbers : s.numbers ≡ 2 * s.pairs * s.channels
  pub total : s.total ≡ 2 + 2 + s.numbers * (s.bits / 8)

abbrev pub ShapesWorkOut : Type 0
ShapesWorkOut = (mode size : ℕ) → (shape_over mode size).code ≡ Code.done → WorksOut (shape_over mode size)

-- a whole packet of the form has as many bytes
abbrev pub TotalsAreLengths : Type 0
TotalsAreLengths =
    (mode size : ℕ) (packet : List ℕ) → (shape_over mode size).code ≡ Code.done → whole_of packet ≡ form_in (some_head mode size)
    → length packet ≡ (shape_over mode size).total
