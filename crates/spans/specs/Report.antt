-- What the span program prints for a whole input: a head, and then packets. Of the crates lines, hearing, spans and span this
-- is all that a reader of 01 needs, with the text of the lines (lines/specs/Lines); that it is what is printed, however the
-- input comes, is said in Pieces (`PrintsTheReport`) and proved in proofs/Inputs (`report_is`).
use Rattle.std.specs.Prelude.{ℕ, zero, suc, ◌+◌, ◌-◌, ◌*◌, ◌/◌, ◌≡◌, Bool, true, not, List, [], ◌∷◌, ◌++◌, eqb, length, get_or, take, drop}
use Rattle.wire.specs.Choice.{pick, Check, check, first_of}
use Rattle.wire.specs.Codes as Code
use Rattle.wire.specs.Number.{field}
use Rattle.packets.specs.Forms.{same_form, total_of, form_with_header, whole_of, is_packet}
use Rattle.packets.specs.Numbers.{number_in}
use Rattle.packets.specs.Missed.{steps_by, missed_over}
use Rattle.reader.specs.declared.Reader.{Reader}
use Rattle.reader.specs.Reading.{silent, position_after, reading_code, reading_of}
use Rattle.heads.specs.declared.Head.{Head}
use Rattle.heads.specs.Head.{version_in, head_length_in, channels_in, form_in, each_in, head_in}
use Rattle.heads.specs.Head.{head_read_code}
use Rattle.lines.specs.Lines.{Line, text_of, opening_line, end_time, capture_line, refusal_line, end_line}

-- ---- the packets of the input

-- the bytes of the next packet: as many as the form with its header has, or what is left of the input
abbrev pub packet_in : List ℕ → List ℕ
packet_in rest = take (total_of (form_with_header (field 0 2 rest))) rest

-- All of them, in order. (Where a header is not listed, some bytes are taken for the packet that is refused.) The first
-- argument counts those that may still come; of n bytes there are at most n.
unfoldable pub packets_in : ℕ → List ℕ → List (List ℕ)
packets_in zero rest = []
packets_in (suc n) [] = []
packets_in (suc n) (b ∷ bs) = packet_in (b ∷ bs) ∷ packets_in n (drop (length (packet_in (b ∷ bs))) (b ∷ bs))

-- ---- where a packet begins

-- What is known there: how many captures have begun, the positions of the packets that the open one has
-- had accepted, the last first (none: no capture is open), and the input byte.
pub record Known : Type 0 where
  pub captures : ℕ
  pub accepted : List ℕ
  pub offset : ℕ

-- nothing heard: the first packet begins at an input byte
abbrev pub nothing : ℕ → Known
nothing offset = record { captures = 0; accepted = []; offset = offset }

-- "the list of steps": from each position to the next
abbrev pub steps_over : List ℕ → List ℕ
steps_over accepted = steps_by (λ before next. next - before) accepted

-- "missed packets": the capture's total, "defined from the list of steps"
abbrev pub missed_among : List ℕ → ℕ
missed_among accepted = missed_over (steps_over accepted)

-- the packet reader after the packets accepted; the head tells it the channel count
abbrev pub reader_after : Head → List ℕ → Reader
reader_after h [] = silent (channels_in h)
reader_after h (last ∷ before) =
    record {
      heard = true;
      channels = channels_in h;
      position = last;
      total = missed_among (last ∷ before);
      form = form_in h;
    }

-- ---- one packet

-- "A form unlike the head's is 32, checked after 30 and before 31; a cut-off packet is 30." The rest is the packet reader's.
abbrev pub form_checks : Head → List ℕ → List Check
form_checks h packet =
    check Code.not_a_packet (not (is_packet packet)) ∷ check Code.form_changed (not (same_form (whole_of packet) (form_in h))) ∷ []

unfoldable pub packet_code : Head → Known → List ℕ → ℕ
packet_code h k packet = first_of (form_checks h packet) (reading_code (reader_after h k.accepted) packet)

-- "done": the packet is accepted
abbrev pub accepts : Head → Known → List ℕ → Bool
accepts h k packet = eqb (packet_code h k packet) Code.done

-- "Number 0 begins a new capture, at any moment": the open one ends
abbrev pub begins : List ℕ → Bool
begins packet = eqb (number_in packet) 0

-- what is known after an accepted packet
abbrev pub known_after : Head → Known → List ℕ → Known
known_after h k packet =
    record {
      captures = pick (begins packet) (k.captures + 1) k.captures;
      accepted =
          position_after (reader_after h k.accepted) (number_in packet) ∷ pick (begins packet) [] k.accepted;
      offset = k.offset + length packet;
    }

-- ---- the lines

-- the line of a capture that ends: packets heard are those accepted, positions are covered up to the last one's, the end time goes by
-- the head's D and clock, and missed is what the steps between them pass over. The pairs of a packet, and so the samples covered and the
-- end time, are those of one channel: "the span line then speak[s] of pairs and positions per channel" (02, No. 7).
abbrev pub line_of : Head → ℕ → List ℕ → List Line
line_of h capture [] = []
line_of h capture (last ∷ before) =
    capture_line (each_in h) h.divisor h.clock capture (length (last ∷ before)) last (missed_among (last ∷ before)) ∷ []

-- the open capture's line
abbrev pub ended : Head → Known → List Line
ended h k = line_of h k.captures k.accepted

-- "for each capture, when it ends, `C` ..": an accepted packet ends the open one, or it brings no line
abbrev pub at_packet : Head → Known → List ℕ → List Line
at_packet h k packet = pick (begins packet) (ended h k) []

-- "Otherwise the last line is `E` with the count of captures."
abbrev pub at_end : Head → Known → List Line
at_end h k = ended h k ++ end_line k.captures ∷ []

-- "At the first refusal it prints the open capture, then `R code offset` (input byte where the refused head or packet
-- begins), and stops."
abbrev pub at_refusal : Head → Known → ℕ → List Line
at_refusal h k code = ended h k ++ refusal_line code k.offset ∷ []

-- The lines of the packets from one on: the input ends, or the packet is accepted and others follow, or it is refused.
unfoldable pub lines_from : Head → Known → List (List ℕ) → List Line
lines_from h k [] = at_end h k
lines_from h k (packet ∷ more) =
    pick (accepts h k packet) (at_packet h k packet ++ lines_from h (known_after h k packet) more)
    (at_refusal h k (packet_code h k packet))

-- the packets' lines, behind the head: "The span program reads both" versions (02, No. 9)
abbrev pub packet_lines : List ℕ → List Line
packet_lines input =
    lines_from (head_in input) (nothing (head_length_in input)) (packets_in (length input) (drop (head_length_in input) input))

-- the lines of a whole input: a head that is refused begins at byte 0
unfoldable pub lines_of : List ℕ → List Line
lines_of input =
    opening_line ∷ pick (eqb (head_read_code input) Code.done) (packet_lines input) (refusal_line (head_read_code input) 0 ∷ [])

-- what is printed
unfoldable pub report : List ℕ → List ℕ
report input = text_of (lines_of input)

-- ---- what is proved of it: proofs/Adds, proofs/Follows, proofs/Inputs

-- With a head of version 1 end times are as they were before No. 9: "samples x D / 20 rounded down" (01).
abbrev pub OldTimesStay : Type 0
OldTimesStay =
    (input : List ℕ) (samples : ℕ) → version_in input ≡ 1
    → end_time (head_in input).divisor (head_in input).clock samples ≡ samples * (head_in input).divisor / 20

-- An accepted packet leaves the reader that the packet reader has after it: so a line's missed packets are the reader's total.
abbrev pub FollowsTheReader : Type 0
FollowsTheReader =
    (h : Head) (k : Known) (packet : List ℕ) → accepts h k packet ≡ true
    → reader_after h (known_after h k packet).accepted ≡ (reading_of (reader_after h k.accepted) packet).reader

-- "heard plus missed equals positions covered": of a line `C` the fourth number and the last make the fifth
abbrev pub adds_up : Line → Type 0
adds_up l = l.word ≡ 0x43 ∷ [] → get_or l.numbers 3 0 + get_or l.numbers 7 0 ≡ get_or l.numbers 4 0

abbrev pub all_add_up : List Line → Type 0
all_add_up [] = Unit {0}
all_add_up (l ∷ ls) = adds_up l × all_add_up ls

-- of every input, whatever it holds
abbrev pub EveryLineAddsUp : Type 0
EveryLineAddsUp = (input : List ℕ) → all_add_up (lines_of input)
