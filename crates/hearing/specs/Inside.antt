-- What the functions inside promise each other: parts of the way through a piece. Nothing of document 01 rests on these
-- definitions; Reaches, WholePackets and Goings in proofs/ tie them to Hearing.
use Rattle.std.specs.Prelude.{ℕ, ◌+◌, ◌*◌, ◌-◌, ◌≤◌, ◌<◌, ◌≡◌, true, List, eqb, length, get_or, drop}
use Rattle.wire.specs.Choice.{pick}
use Rattle.wire.specs.Codes as Code
use Rattle.packets.specs.declared.Form.{Form}
use Rattle.packets.specs.Forms.{total_of, listed_form}
use Rattle.packets.specs.Numbers.{step_of, last}
use Rattle.hearing.specs.declared.Tally.{Tally}
use Rattle.hearing.specs.Hearing.{Reach, low_high, form_coming, reaching}

-- going on from what was reached, with the bytes that are left
unfoldable pub goes_on : Form → Reach → List ℕ → Reach
goes_on f r rest = pick (eqb r.code Code.waiting) (reaching r.at f r.tally rest) r

-- the counts of a tally: no more packets or captures than bytes, a position that there is, a number of 16 bits, and packets heard
-- by which steps lead to the position, one to each but the first
pub record Counted (t : Tally) : Type 0 where
  pub heard : t.heard ≤ t.begins
  pub captures : t.captures ≤ t.begins
  pub position : t.position ≤ last
  pub number : t.number ≤ 65_535
  pub least : t.heard ≤ t.position + 1
  pub most : t.position ≤ 65_535 * (t.heard - 1)

-- and its sums fit 64 bits while the rest of a piece is taken
pub record Sane (rest : ℕ) (t : Tally) : Type 0 where
  pub room : t.begins + t.came + rest < 0x1_0000_0000_0000_0000
  pub counted : Counted t

-- what a part of the way through a piece is: nothing is changed of where it all leads
pub record Goes (f : Form) (t : Tally) (piece : List ℕ) (at : ℕ) (r : Reach) : Type 0 where
  pub same : goes_on f r (drop r.at piece) ≡ reaching at f t (drop at piece)
  pub inside : r.at ≤ length piece
  pub sane : Sane (length piece - r.at) r.tally

-- the byte at a place, and the number of two
abbrev pub two_at : List ℕ → ℕ → ℕ
two_at piece at = low_high (get_or piece at 0) (get_or piece (at + 1) 0)

-- the four bytes at a place as one number
abbrev pub word_at : List ℕ → ℕ → ℕ
word_at piece at =
    get_or piece at 0
    + 256 * get_or piece (at + 1) 0
    + 65536 * get_or piece (at + 2) 0
    + 16777216 * get_or piece (at + 3) 0

-- a packet that begins between packets of an open capture
pub record Between (t : Tally) : Type 0 where
  pub came : t.came ≡ 0
  pub header : t.header ≡ 0
  pub number : t.number ≡ 0
  pub heard : 0 < t.heard

-- A whole packet with a header and a total lies at a place of a piece, and has the position q, above 0, after a packet
-- with a number at a position.
pub record Follows (piece : List ℕ) (at expected total before position q : ℕ) : Type 0 where
  pub room : at + total ≤ length piece
  pub header : two_at piece at ≡ expected
  pub above : 0 < two_at piece (at + 2)
  pub here : q ≡ position + step_of before (two_at piece (at + 2))
  pub fits : q ≤ last

-- k bytes of a packet, the last one not among them, are samples
pub record Samples (t : Tally) (k : ℕ) : Type 0 where
  pub past : 4 ≤ t.came
  pub form : listed_form (form_coming t) ≡ true
  pub short : t.came + k < total_of (form_coming t)

-- the tally with k bytes more of the packet's samples
abbrev pub skipped : Tally → ℕ → Tally
skipped t k =
    record {
      begins = t.begins;
      came = t.came + k;
      header = t.header;
      number = t.number;
      captures = t.captures;
      heard = t.heard;
      position = t.position;
    }

-- what hearing a whole piece comes to
pub record Hears (f : Form) (t : Tally) (piece : List ℕ) (r : Reach) : Type 0 where
  pub is : r ≡ reaching 0 f t piece
  pub sane : Sane 0 r.tally
