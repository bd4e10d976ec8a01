-- Demand 3. "Of one capture from the box, packets lost (not the first, fewer than 65,535 between two that arrive), the rest once
-- each and in order: the harvester gives every packet its exact sample position, and two different choices of what was lost never
-- leave the same list of numbers." It is asked "for a reader told the count with which the box cut that capture", and speaks "of pairs
-- and positions per channel" (02, No. 7).
use Rattle.std.specs.Prelude.{ℕ, ◌*◌, true, List, [], ◌∷◌, ◌++◌, map, ◌≡◌, length, replicate}
use Rattle.wire.specs.Codes as Code
use Rattle.packets.specs.declared.Form.{Form}
use Rattle.packets.specs.Channels.{is_count, pairs_each}
use Rattle.packets.specs.Numbers.{number_in}
use Rattle.items.specs.Settings.{channels_of}
use Rattle.station.specs.declared.Station.{Station}
use Rattle.cutting.specs.Cutting.{form_now}
use Rattle.reader.specs.declared.Reader.{Reader}
use Rattle.reader.specs.Answers.{Heard}
use Rattle.reader.specs.Reading.{silent, sound, reading_of, after_slices}
use Rattle.positions.specs.Captures.{Capture}
use Rattle.positions.specs.Losses.{Fate, arrives, lost, arriving, allowed_losses, positions_from, WayToRead, answers_by}

-- What a reading says of a packet: its code, and "The answer is the packet's position and its first sample's position". What a
-- reader keeps for the next packet is its own affair.
pub record Said : Type 0 where
  pub code : ℕ
  pub position : ℕ
  pub sample : ℕ

abbrev pub said_in : Heard → Said
said_in h = record { code = h.code; position = h.position; sample = h.sample }

-- A packet of so many channels and a form is taken (code 1) at a position, and its first sample's position is "packet position times I/Q
-- pairs", those of each channel.
abbrev pub taken_at : ℕ → Form → ℕ → Said
taken_at n f p = record { code = Code.done; position = p; sample = p * pairs_each n f }

-- "the harvester gives every packet its exact sample position", of a way to read, whichever it is, from a reader on, and of packets that
-- the box s cut: each that arrives is taken at the position at which it was cut.
abbrev pub IsExact : WayToRead → Reader → Station → List (List ℕ) → Type 0
IsExact read r s packets =
    (fates : List Fate) → allowed_losses fates
    → map said_in (answers_by read r (arriving fates packets))
    ≡ map (taken_at (channels_of s.settings) (form_now s.settings)) (arriving fates (positions_from 0 packets))

-- of every capture that was cut with the count that the reader was told
abbrev pub ExactFrom : WayToRead → Reader → Type 0
ExactFrom read r =
    (s : Station) (packets : List (List ℕ)) → Capture s packets → r.channels ≡ channels_of s.settings → IsExact read r s packets

-- from any reader that is not broken
abbrev pub GivesExactPositions : WayToRead → Type 0
GivesExactPositions read = (r : Reader) → sound r ≡ true → ExactFrom read r

-- the same of the harvester
abbrev pub ExactPositions : Type 0
ExactPositions = GivesExactPositions reading_of

-- The harvester never breaks its reader: after any slices whatever, from a silent one of a count on, it is sound.
abbrev pub NeverBroken : Type 0
NeverBroken = (n : ℕ) → is_count n ≡ true → (slices : List (List ℕ)) → sound (after_slices (silent n) slices) ≡ true

-- So it need not be asked that the reader is not broken, only that it was told the box's count when made: whatever was heard before,
-- rubbish, packets of earlier captures, a capture that broke off, the packets of this one are taken at exactly their positions.
abbrev pub ExactAfterAnything : Type 0
ExactAfterAnything =
    (before : List (List ℕ)) (s : Station) (packets : List (List ℕ)) → Capture s packets
    → IsExact reading_of (after_slices (silent (channels_of s.settings)) before) s packets

-- That it was told this count has to be asked: "a capture of the other count wants a reader of its own".
abbrev pub CountIsNeeded : Type 0
CountIsNeeded =
    ((r : Reader) → sound r ≡ true → (s : Station) (packets : List (List ℕ)) → Capture s packets → IsExact reading_of r s packets) → ⊥

-- "two different choices of what was lost never leave the same list of numbers"
abbrev pub NoTwoAlike : Type 0
NoTwoAlike =
    (s : Station) (packets : List (List ℕ)) → Capture s packets
    → (fates others : List Fate) → length fates ≡ length packets → length others ≡ length packets
    → allowed_losses fates → allowed_losses others
    → map number_in (arriving fates packets) ≡ map number_in (arriving others packets)
    → fates ≡ others

-- One packet more, and it fails: the first two arrive and the n after them are lost, or n are lost between the first and the
-- one that arrives after them.
unfoldable pub next_arrives : ℕ → List Fate
next_arrives n = arrives ∷ arrives ∷ replicate n lost

unfoldable pub later_arrives : ℕ → List Fate
later_arrives n = arrives ∷ replicate n lost ++ arrives ∷ []

-- with 65,535 lost between two, different choices leave the same list of numbers
abbrev pub BoundIsSharp : Type 0
BoundIsSharp =
    (s : Station) (packets : List (List ℕ)) → Capture s packets → length packets ≡ 65_537
    → map number_in (arriving (next_arrives 65_535) packets) ≡ map number_in (arriving (later_arrives 65_535) packets)
