-- A capture's packets as they come, byte by byte: what the code keeps between two bytes, and what a byte makes of it. A reader
-- of 01 needs only spans/specs/Report, which says what is printed of the whole input; `report_is` (spans/proofs/Inputs)
-- proves that the two agree.
use Rattle.std.specs.Prelude.{ℕ, ◌+◌, ◌*◌, ◌%◌, Bool, ◌&&◌, not, List, [], ◌∷◌, eqb, leb, ltb, Option, Some, None, Result, Ok, Err}
use Rattle.wire.specs.Choice.{pick, Check, check, first_of}
use Rattle.wire.specs.Codes as Code
use Rattle.wire.specs.declared.refusal.Refusal.{Refusal}
use Rattle.wire.specs.Refusal.{refusal_code}
use Rattle.packets.specs.declared.Form.{Form}
use Rattle.packets.specs.Forms.{same_form, total_of, listed_form, form_with_header}
use Rattle.packets.specs.Numbers.{last}
use Rattle.packets.specs.Missed.{missed_of, steps_give}
use Rattle.reader.specs.Reading.{position_from}
use Rattle.hearing.specs.declared.Tally.{Tally}
use Rattle.hearing.specs.declared.Stop.{Stop}
use Rattle.hearing.specs.declared.Stop.TheVariants.{CaptureEnds, Refused}
use Rattle.hearing.specs.declared.Reach as Reached
use Rattle.hearing.specs.declared.Outcome as Came

-- ---- a tally

-- the last input byte that a tally counts up to, 2 ^ 63
abbrev pub farthest : ℕ
farthest = 0x8000_0000_0000_0000

-- Packets heard, and the position of the last of them: steps lead there from the first, at position 0, one to each other packet;
-- where none is heard there is no position. (A reader is broken by the same rule: "whose total no steps give".)
abbrev pub heard_by_steps : ℕ → ℕ → Bool
heard_by_steps heard position =
    pick (eqb heard 0) (eqb position 0) (leb heard (position + 1) && steps_give position (missed_of heard position))

-- Each count within its range: the input byte, no more packets or captures than bytes, a position that there is, and packets heard
-- by which steps lead there. A tally outside it is broken (21).
abbrev pub tally_in_range : Tally → Bool
tally_in_range t =
    leb (t.begins + t.came) farthest
    && leb t.heard t.begins
    && leb t.captures t.begins
    && (leb t.position last && heard_by_steps t.heard t.position)

-- ---- one byte

-- the number of a low byte and a high byte. (Of what is no byte only the last eight bits count.)
abbrev pub low_high : ℕ → ℕ → ℕ
low_high low high = low % 256 + 256 * (high % 256)

-- a 16-bit field that begins at a place of the packet, after one byte more
abbrev pub field_with : ℕ → ℕ → ℕ → ℕ → ℕ
field_with place came field b = pick (eqb came place) (b % 256) (pick (eqb came (place + 1)) (low_high field b) field)

-- One byte of the packet more. "Header, 16-bit packet number, then I and Q in turn": all but the first four are skipped.
unfoldable pub taking_byte : Tally → ℕ → Tally
taking_byte t b =
    record {
      begins = t.begins;
      came = t.came + 1;
      header = field_with 0 t.came t.header b;
      number = field_with 2 t.came t.number b;
      captures = t.captures;
      heard = t.heard;
      position = t.position;
    }

-- the form that the header has
abbrev pub form_coming : Tally → Form
form_coming t = form_with_header t.header

-- the position that the packet has, as the packet reader has it
abbrev pub position_now : Tally → ℕ
position_now t = position_from t.position t.number

-- "no packet numbered 0 yet": its number is above 0, and no capture is open
abbrev pub lacks_first : Tally → Bool
lacks_first t = not (eqb t.number 0) && eqb t.heard 0

-- What the bytes taken come to, in a capture of a form: 0 waits for more. A header that is not listed is refused at once;
-- all else waits for the whole packet.
abbrev pub heard_checks : Form → Tally → List Check
heard_checks f t =
    check Code.waiting (ltb t.came 2)
    ∷ check Code.not_a_packet (not (listed_form (form_coming t)))
    ∷ check Code.waiting (ltb t.came (total_of (form_coming t)))
    ∷ check Code.form_changed (not (same_form (form_coming t) f))
    ∷ check Code.no_first_packet (lacks_first t)
    ∷ check Code.past_last (ltb last (position_now t))
    ∷ []

unfoldable pub heard_code : Form → Tally → ℕ
heard_code f t = first_of (heard_checks f t) Code.done

-- the tally after an accepted packet: number 0 begins a new capture
unfoldable pub accepting : Tally → Tally
accepting t =
    record {
      begins = t.begins + t.came;
      came = 0;
      header = 0;
      number = 0;
      captures = pick (eqb t.number 0) (t.captures + 1) t.captures;
      heard = pick (eqb t.number 0) 1 (t.heard + 1);
      position = position_now t;
    }

-- an accepted packet with which the open capture ends
abbrev pub closes : Tally → Bool
closes t = eqb t.number 0 && not (eqb t.heard 0)

-- How far hearing got in a piece: how many bytes it took, its code (0 where the piece is used up), and the tally then. A packet
-- with a code is counted as taken, and has had no effect yet.
pub record Reach : Type 0 where
  pub at : ℕ
  pub code : ℕ
  pub tally : Tally

-- What the bytes of a packet come to, with n bytes taken in all: more are waited for, or the packet is accepted, or a code
-- other than 0 says that a line is due, and the tally is then left before the packet's effect.
unfoldable pub settled : ℕ → Form → Tally → Reach
settled n f t =
    pick (eqb (heard_code f t) Code.waiting) (record { at = n; code = Code.waiting; tally = t })
    (pick (eqb (heard_code f t) Code.done && not (closes t)) (record { at = n; code = Code.waiting; tally = accepting t })
    (record { at = n; code = heard_code f t; tally = t }))

-- Bytes are taken until a line is due or they are used up; n were taken before.
unfoldable pub reaching : ℕ → Form → Tally → List ℕ → Reach
reaching n f t [] = record { at = n; code = Code.waiting; tally = t }
reaching n f t (b ∷ bs) =
    pick (eqb (settled (n + 1) f (taking_byte t b)).code Code.waiting) (reaching (n + 1) f (settled (n + 1) f (taking_byte t b)).tally bs)
    (settled (n + 1) f (taking_byte t b))

-- ---- a piece

-- the tally with which hearing goes on: where the open capture ended, the packet numbered 0 that ended it is accepted now
abbrev pub next_tally : Reach → Tally
next_tally r = pick (eqb r.code Code.done) (accepting r.tally) r.tally

-- what hearing a piece came to: how far it got, and the tally with which hearing goes on
pub record Outcome : Type 0 where
  pub reach : Reach
  pub next : Tally

abbrev pub outcome : Reach → Outcome
outcome r = record { reach = r; next = next_tally r }

-- 21 for a broken tally or a form that is not listed
unfoldable pub hearing_of : Form → Tally → List ℕ → Outcome
hearing_of f t piece =
    pick (tally_in_range t && listed_form f) (outcome (reaching 0 f t piece)) (outcome (record { at = 0; code = Code.broken; tally = t }))

-- ---- what answers say of it

-- of a packet: more is waited for, it is accepted, or it is refused
abbrev pub whole_told : Result Bool Refusal → ℕ
whole_told (Ok whole) = pick whole Code.done Code.waiting
whole_told (Err r) = refusal_code r

-- 1 where the open capture ends
abbrev pub stop_told : Stop → ℕ
stop_told CaptureEnds = Code.done
stop_told (Refused r) = refusal_code r

-- 0 where the piece is used up
abbrev pub stops_told : Option Stop → ℕ
stops_told None = Code.waiting
stops_told (Some s) = stop_told s

abbrev pub reach_told : Reached.Reach → Reach
reach_told r = record { at = r.at; code = stops_told r.stop; tally = r.tally }

-- where hearing refuses a tally, that is the one it goes on with
abbrev pub hearing_told : Tally → Result Came.Outcome Refusal → Outcome
hearing_told t (Ok o) = record { reach = reach_told o.reach; next = o.next }
hearing_told t (Err r) = outcome (record { at = 0; code = refusal_code r; tally = t })

-- it refuses a broken tally and a form that is not listed, and nothing else
abbrev pub hearing_code : Form → Tally → ℕ
hearing_code f t = pick (tally_in_range t && listed_form f) Code.done Code.broken
