-- Reading packets.
use Rattle.std.specs.Prelude.{ℕ, ◌+◌, ◌*◌, ◌≡◌, Bool, true, false, ◌&&◌, not, List, [], ◌∷◌, Result, Ok, Err, eqb, leb, ltb, ℤ, drop}
use Rattle.wire.specs.Choice.{pick, Check, check, first_of}
use Rattle.wire.specs.Codes.{others_write}
use Rattle.wire.specs.Codes as Code
use Rattle.wire.specs.Refusal.{refusal_code}
use Rattle.wire.specs.declared.refusal.Refusal.{Refusal}
use Rattle.packets.specs.declared.Form.{Form}
use Rattle.packets.specs.Forms.{no_form, same_form, listed_form, whole_of, is_packet}
use Rattle.packets.specs.Channels.{is_count, pairs_each}
use Rattle.packets.specs.Numbers.{number_at, step_of, number_in, last}
use Rattle.packets.specs.Missed.{missed_in, steps_give}
use Rattle.packets.specs.Samples.{samples_from}
use Rattle.reader.specs.declared.Reader.{Reader}
use Rattle.reader.specs.declared.Heard.{Heard as Taken}
use Rattle.reader.specs.Answers.{Heard, Unpacked}

-- "The reader is told the channel count when made" (02, No. 7): a reader of packets of so many channels that has heard nothing
abbrev pub silent : ℕ → Reader
silent channels = record { heard = false; channels = channels; position = 0; total = 0; form = no_form }

-- "A reader that has heard a packet holds its position (at most 3,999,999,999) and a listed form; other states are broken." "A
-- reader whose total no steps give is broken."
abbrev pub heard_well : Reader → Bool
heard_well r =
    pick r.heard (leb r.position last && steps_give r.position r.total && listed_form r.form)
    (eqb r.position 0 && eqb r.total 0 && same_form r.form no_form)

-- packets hold one channel or two, so a reader that was told another count is broken too
abbrev pub sound : Reader → Bool
sound r = is_count r.channels && heard_well r

-- "From number s to number t above 0 the step is .."
abbrev pub step_to : Reader → ℕ → ℕ
step_to r number = step_of (number_at r.position) number

-- "Number 0 begins a new capture, at any moment."
abbrev pub position_from : ℕ → ℕ → ℕ
position_from position number = pick (eqb number 0) 0 (position + step_of (number_at position) number)

abbrev pub position_after : Reader → ℕ → ℕ
position_after r number = position_from r.position number

-- "how many were missed just before this packet (step less one; 0 at a start) .."
abbrev pub missed_before : Reader → ℕ → ℕ
missed_before r number = pick (eqb number 0) 0 (missed_in (step_to r number))

-- ".. and the capture's total"
abbrev pub total_after : Reader → ℕ → ℕ
total_after r number = pick (eqb number 0) 0 (r.total + missed_in (step_to r number))

-- "Packet reading 21, 30, 31, 32, 33."
abbrev pub reading_checks : Reader → List ℕ → List Check
reading_checks r packet =
    check Code.broken (not (sound r))
    ∷ check Code.not_a_packet (not (is_packet packet))
    ∷ check Code.no_first_packet (not (eqb (number_in packet) 0) && not r.heard)
    ∷ check Code.form_changed (not (eqb (number_in packet) 0) && not (same_form (whole_of packet) r.form))
    ∷ check Code.past_last (ltb last (position_after r (number_in packet)))
    ∷ []

unfoldable pub reading_code : Reader → List ℕ → ℕ
reading_code r packet = first_of (reading_checks r packet) Code.done

-- "The answer is the packet's position and its first sample's position (packet position times I/Q pairs)", and with two channels this
-- speaks "of pairs and positions per channel". "The packet reader shall also answer how many were missed just before this packet .. and
-- the capture's total." The reader goes on with the count that it was told, also where a new capture begins.
abbrev pub heard_at : ℕ → ℕ → ℕ → ℕ → Form → Heard
heard_at channels position missed total f =
    record {
      code = Code.done;
      position = position;
      sample = position * pairs_each channels f;
      missed = missed;
      total = total;
      reader = record { heard = true; channels = channels; position = position; total = total; form = f };
    }

-- a packet of a form that carries a number
abbrev pub heard_with : Reader → ℕ → Form → Heard
heard_with r number f = heard_at r.channels (position_after r number) (missed_before r number) (total_after r number) f

abbrev pub unheard : ℕ → Reader → Heard
unheard code r = record { code = code; position = 0; sample = 0; missed = 0; total = 0; reader = r }

unfoldable pub reading_of : Reader → List ℕ → Heard
reading_of r packet =
    pick (eqb (reading_code r packet) Code.done) (heard_with r (number_in packet) (whole_of packet))
    (unheard (reading_code r packet) r)

-- what the code answers, in these terms: of a packet that was heard, and of any slice
abbrev pub heard_says : Taken → Heard
heard_says h =
    record { code = Code.done; position = h.position; sample = h.sample; missed = h.missed; total = h.total; reader = h.reader }

abbrev pub reading_says : Reader → Result Taken Refusal → Heard
reading_says r (Ok h) = heard_says h
reading_says r (Err e) = unheard (refusal_code e) r

-- The reader that slice after slice makes of one. A slice is anything that it is handed: a packet of any capture, or rubbish.
abbrev pub after_slices : Reader → List (List ℕ) → Reader
after_slices r [] = r
after_slices r (slice ∷ slices) = after_slices (reading_of r slice).reader slices

-- Whatever it is handed, a reader keeps the count that it was told: "a capture of the other count wants a reader of its own".
abbrev pub KeepsItsCount : Type 0
KeepsItsCount = (r : Reader) (slices : List (List ℕ)) → (after_slices r slices).channels ≡ r.channels

-- One that was told another count than 1 or 2 refuses everything, with 21.
abbrev pub BrokenByItsCount : Type 0
BrokenByItsCount =
    (r : Reader) (packet : List ℕ) → is_count r.channels ≡ false → reading_of r packet ≡ unheard Code.broken r

-- "A call of its own answers with the sample bytes handed back as that part of the caller's packet, or with an empty part
-- where the slice is 30."
abbrev pub sample_bytes_of : List ℕ → List ℕ
sample_bytes_of packet = pick (is_packet packet) (drop 4 packet) []

-- "Unpacking takes a packet and writes its I and Q in turn as signed numbers of the width sent; it refuses with 30, then 20."
abbrev pub sample_count_in : List ℕ → ℕ
sample_count_in packet = 2 * (whole_of packet).pairs

abbrev pub unpack_checks : List ℕ → ℕ → List Check
unpack_checks packet room = check Code.not_a_packet (not (is_packet packet)) ∷ check Code.no_room (ltb room (sample_count_in packet)) ∷ []

unfoldable pub unpack_code : List ℕ → ℕ → ℕ
unpack_code packet room = first_of (unpack_checks packet room) Code.done

-- its answer: the code, and how many numbers it writes, which is none where it refuses
unfoldable pub unpacking_of : List ℕ → ℕ → Unpacked
unpacking_of packet room =
    record { code = unpack_code packet room; count = pick (eqb (unpack_code packet room) Code.done) (sample_count_in packet) 0 }

-- what the code answers, in these terms
abbrev pub unpacking_says : Result ℕ Refusal → Unpacked
unpacking_says (Ok n) = record { code = Code.done; count = n }
unpacking_says (Err e) = record { code = refusal_code e; count = 0 }

-- the numbers that unpacking writes at the start of the lent slice: all of the packet's or none, by the column "Written" of the
-- table of codes
unfoldable pub numbers_written : List ℕ → ℕ → List ℤ
numbers_written packet room =
    others_write (unpack_code packet room) (samples_from (whole_of packet).bits (drop 4 packet) 0 (sample_count_in packet))
