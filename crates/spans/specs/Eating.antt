-- A span takes the input in pieces: what the code keeps between two pieces, what one call does with a piece, and what the end
-- of the input brings. A reader of 01 needs only Report, which says what is printed of the whole input; `report_is`
-- (proofs/Inputs) proves that the two agree.
use Rattle.std.specs.Prelude.{ℕ, ◌+◌, ◌-◌, min, Bool, false, ◌&&◌, ◌||◌, not, List, [], ◌∷◌, ◌++◌, eqb, ltb, length, take, replicate, Option, Some, None, Result, Ok, Err}
use Rattle.std.proofs.lemmas.List.Edits.{sets}
use Rattle.wire.specs.Choice.{pick}
use Rattle.wire.specs.Codes as Code
use Rattle.wire.specs.declared.refusal.Refusal.{Refusal}
use Rattle.wire.specs.Refusal.{refusal_code}
use Rattle.packets.specs.Missed.{missed_of}
use Rattle.heads.specs.declared.Head.{Head}
use Rattle.heads.specs.Head.{head_length, head_length_in, form_in, each_in, head_in}
use Rattle.heads.specs.Head.{head_read_code}
use Rattle.hearing.specs.declared.Tally.{Tally}
use Rattle.spans.specs.declared.Span.{Span}
use Rattle.spans.specs.declared.Did.{Did}
use Rattle.spans.specs.declared.Did.TheVariants.{Waiting, Lines, Stopped}
use Rattle.spans.specs.declared.Eaten as Ate
use Rattle.lines.specs.Lines.{Line, text_of, opening_line, capture_line, refusal_line, end_line}
use Rattle.lines.specs.Due.{LinesAnswer, Telling, silent_with, telling}
use Rattle.hearing.specs.Hearing.{Reach, tally_in_range, next_tally, reaching}

-- ---- spans

-- nothing heard, where packets begin at an input byte
abbrev pub tally_from : ℕ → Tally
tally_from begins = record { begins = begins; came = 0; header = 0; number = 0; captures = 0; heard = 0; position = 0 }

-- where they begin is known once the head is whole
abbrev pub fresh_span : Span
fresh_span = record { stopped = false; came = 0; head = replicate 26 0; tally = tally_from 0 }

-- How many bytes a head has, of which so many have come: its version stands in the first 14, which every head has.
unfoldable pub head_wants : ℕ → List ℕ → ℕ
head_wants came head = pick (ltb came (head_length 1)) (head_length 1) (head_length_in head)

-- bytes of the head are still to come
abbrev pub head_lacks : Span → Bool
head_lacks s = ltb s.came (head_wants s.came s.head)

-- the head is still coming, or is whole and one that is read
abbrev pub head_ok : Span → Bool
head_ok s = head_lacks s || (eqb s.came (head_wants s.came s.head) && eqb (head_read_code s.head) Code.done)

-- A span that has not stopped is broken (21) where a count of its tally is out of its range, or its head is whole and one
-- that is refused. All else is taken as it is, whether or not some bytes leave it.
unfoldable pub valid_span : Span → Bool
valid_span s = s.stopped || (tally_in_range s.tally && head_ok s)

abbrev pub head_of : Span → Head
head_of s = head_in s.head

-- the span with a tally, that goes on (false) or has stopped (true)
abbrev pub with_tally : Bool → Span → Tally → Span
with_tally stopped s t = record { stopped = stopped; came = s.came; head = s.head; tally = t }

-- ---- one call of eating

-- what one call of eating did: its code, how many bytes of the piece it consumed, how many bytes of lines it wrote, and the span
-- after it
pub record Eaten : Type 0 where
  pub code : ℕ
  pub consumed : ℕ
  pub wrote : ℕ
  pub span : Span

-- what a call returns, and the bytes that it writes at the start of the lent slice
pub record Eating : Type 0 where
  pub eaten : Eaten
  pub bytes : List ℕ

-- codes from 20 consume nothing and return the state given
abbrev pub refused : ℕ → Span → Eating
refused code s = record { eaten = record { code = code; consumed = 0; wrote = 0; span = s }; bytes = [] }

-- 0: waiting, all bytes consumed; 2: stopped, all bytes consumed and none looked at
abbrev pub silently : ℕ → ℕ → Span → Eating
silently code n after = record { eaten = record { code = code; consumed = n; wrote = 0; span = after }; bytes = [] }

-- 1: lines are due after n bytes
abbrev pub saying_all : ℕ → List Line → Span → Eating
saying_all n lines after =
    record {
      eaten = record { code = Code.done; consumed = n; wrote = length (text_of lines); span = after };
      bytes = text_of lines;
    }

-- 20 where the slice has no room for all of them
abbrev pub saying : Span → ℕ → ℕ → List Line → Span → Eating
saying s room n lines after = pick (ltb room (length (text_of lines))) (refused Code.no_room s) (saying_all n lines after)

-- The head, if it has so many bytes: as many as it lacks are taken of a piece.
abbrev pub lacking : ℕ → Span → List ℕ → ℕ
lacking all s piece = min (all - s.came) (length piece)

abbrev pub head_filled : ℕ → Span → List ℕ → Span
head_filled all s piece =
    record {
      stopped = false;
      came = s.came + lacking all s piece;
      head = sets s.head s.came (take (lacking all s piece) piece);
      tally = s.tally;
    }

-- how many it has: the version is looked up in as many as the longest has
unfoldable pub head_wants_by : Span → List ℕ → ℕ
head_wants_by s piece = head_wants (head_filled (head_length 2) s piece).came (head_filled (head_length 2) s piece).head

abbrev pub head_taken : Span → List ℕ → Span
head_taken s piece = head_filled (head_wants_by s piece) s piece

-- the lines of a whole head that reads with a code: it begins at byte 0
abbrev pub head_lines : ℕ → List Line
head_lines code = opening_line ∷ pick (eqb code Code.done) [] (refusal_line code 0 ∷ [])

-- the span after a whole head that reads with a code: it stops where the head is refused, and else the packets begin behind it
abbrev pub head_read : ℕ → Span → Span
head_read code s = with_tally (not (eqb code Code.done)) s (tally_from s.came)

-- a span s, after the n bytes that its head lacked of a piece
abbrev pub opening_by : Span → ℕ → ℕ → Span → Eating
opening_by s room n after =
    pick (head_lacks after) (silently Code.waiting n after)
    (saying s room n (head_lines (head_read_code after.head)) (head_read (head_read_code after.head) after))

unfoldable pub opening : Span → List ℕ → ℕ → Eating
opening s piece room = opening_by s room (lacking (head_wants_by s piece) s piece) (head_taken s piece)

-- the line of the open capture
abbrev pub ended_now : Head → Tally → List Line
ended_now h t =
    pick (eqb t.heard 0) []
    (capture_line (each_in h) h.divisor h.clock t.captures t.heard t.position (missed_of t.heard t.position) ∷ [])

-- Packets: where a line is due, the open capture ends; then a new one begins, or a packet is refused and the span stops.
abbrev pub heard_lines : Head → Reach → List Line
heard_lines h r = ended_now h r.tally ++ pick (eqb r.code Code.done) [] (refusal_line r.code r.tally.begins ∷ [])

abbrev pub heard_span : Span → Reach → Span
heard_span s r = with_tally (not (eqb r.code Code.done)) s (next_tally r)

abbrev pub listening_by : Span → ℕ → Reach → Eating
listening_by s room r =
    pick (eqb r.code Code.waiting) (silently Code.waiting r.at (with_tally false s r.tally))
    (saying s room r.at (heard_lines (head_of s) r) (heard_span s r))

unfoldable pub listening : Span → List ℕ → ℕ → Eating
listening s piece room = listening_by s room (reaching 0 (form_in (head_of s)) s.tally piece)

unfoldable pub eating_of : Span → List ℕ → ℕ → Eating
eating_of s piece room =
    pick (not (valid_span s)) (refused Code.broken s)
    (pick s.stopped (silently Code.no_reply_due (length piece) s)
    (pick (head_lacks s) (opening s piece room) (listening s piece room)))

-- ---- the end of the input

-- A head or a packet that is cut off is refused with 40 or 30, and else the count of captures ends it all.
abbrev pub last_lines : Span → List Line
last_lines s =
    pick (head_lacks s) (opening_line ∷ refusal_line Code.not_a_head 0 ∷ [])
    (ended_now (head_of s) s.tally
    ++ pick (eqb s.tally.came 0) (end_line s.tally.captures ∷ []) (refusal_line Code.not_a_packet s.tally.begins ∷ []))

-- 21 for a broken span, 2 for one that has stopped
unfoldable pub finishing_of : Span → ℕ → Telling
finishing_of s room =
    pick (not (valid_span s)) (silent_with Code.broken)
    (pick s.stopped (silent_with Code.no_reply_due) (telling (text_of (last_lines s)) room))

-- ---- what answers say of it

abbrev pub did_told : Did → ℕ
did_told Waiting = Code.waiting
did_told Lines = Code.done
did_told Stopped = Code.no_reply_due

-- of a span: where a call refuses, nothing is consumed, and the span is the one given
abbrev pub eaten_told : Span → Result Ate.Eaten Refusal → Eaten
eaten_told s (Ok e) = record { code = did_told e.did; consumed = e.consumed; wrote = e.wrote; span = e.span }
eaten_told s (Err r) = (refused (refusal_code r) s).eaten

-- of the end: lines were written, none are due, or it is refused
abbrev pub end_told : Result (Option ℕ) Refusal → LinesAnswer
end_told (Ok (Some n)) = record { code = Code.done; wrote = n }
end_told (Ok None) = record { code = Code.no_reply_due; wrote = 0 }
end_told (Err r) = record { code = refusal_code r; wrote = 0 }
