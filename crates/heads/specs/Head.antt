-- Capture heads. 01: "Head, 14 bytes: SPN, 16-bit version 1, 16-bit D, five-byte frequency, mode byte, size byte." 02, No. 9: "Version
-- 2 of the head adds the serial (eight bytes, all zero for unknown) and the clock (four bytes, the 01 range) after the size byte, 26
-- bytes in all." No. 7: "the capture head (mode byte bit 6 set for two channels)".
use Rattle.std.specs.Prelude.{ℕ, ◌+◌, ◌*◌, ◌/◌, ◌%◌, ◌≡◌, Bool, true, ◌&&◌, ◌||◌, not, List, [], ◌∷◌, ◌++◌, eqb, leb, ltb, length, take}
use Rattle.std.specs.Prelude.{Result, Ok, Err}
use Rattle.wire.specs.Choice.{pick, one_of, Check, check, first_of}
use Rattle.wire.specs.Codes.{others_write}
use Rattle.wire.specs.Codes as Code
use Rattle.wire.specs.Number.{number, bytes, field}
use Rattle.wire.specs.Refusal.{refusal_code}
use Rattle.wire.specs.declared.refusal.Refusal.{Refusal}
use Rattle.wire.specs.Lists.{all_bytes}
use Rattle.rates.specs.Rate.{is_d}
use Rattle.tuning.specs.Bands.{in_bands}
use Rattle.tuning.specs.Word.{is_clock}
use Rattle.packets.specs.declared.Form.{Form}
use Rattle.packets.specs.Forms.{form_for, listed_form}
use Rattle.packets.specs.Channels.{is_count, each_of}
use Rattle.items.specs.Settings.{is_mode, is_size, holds_serial}
use Rattle.heads.specs.declared.Head.{Head}

-- SPN
abbrev pub mark : List ℕ
mark = 0x53 ∷ 0x50 ∷ 0x4E ∷ []

abbrev pub head_versions : List ℕ
head_versions = 1 ∷ 2 ∷ []

abbrev pub is_head_version : ℕ → Bool
is_head_version v = one_of v head_versions

-- ---- the fields of both versions

-- A field of a head: the first version that has it, in how many bytes, and the number that stands there.
pub record Field : Type 0 where
  pub since : ℕ
  pub wide : ℕ
  pub value : ℕ

abbrev row : ℕ → ℕ → ℕ → Field
row since wide value = record { since = since; wide = wide; value = value }

-- the table: version, bytes, value, from the first byte on
abbrev pub fields_of : Head → List Field
fields_of h =
    row 1 3 (number mark)
    ∷ row 1 2 h.version
    ∷ row 1 2 h.divisor
    ∷ row 1 5 h.frequency
    ∷ row 1 1 h.mode
    ∷ row 1 1 h.size
    ∷ row 2 8 h.serial
    ∷ row 2 4 h.clock
    ∷ []

-- the fields that a version has, as bytes, one after the other
abbrev pub field_bytes : ℕ → List Field → List ℕ
field_bytes v [] = []
field_bytes v (f ∷ fs) = pick (leb f.since v) (bytes f.wide f.value) [] ++ field_bytes v fs

-- the 14 or 26 bytes
unfoldable pub head_bytes : Head → List ℕ
head_bytes h = field_bytes h.version (fields_of h)

-- how many they are; of a version that there is not, as many as are looked at
abbrev pub head_length : ℕ → ℕ
head_length v = pick (eqb v 2) 26 14

-- ---- the values that stand in a head's bytes

-- "all zero for unknown": a serial is the number of its eight bytes
abbrev pub unknown : ℕ
unknown = 0

-- "Old heads move to version 2 with unknown serial and 80,000,000."
abbrev pub nominal : ℕ
nominal = 80_000_000

abbrev pub version_in : List ℕ → ℕ
version_in s = field 3 2 s

-- how many bytes the head has that bytes begin with
abbrev pub head_length_in : List ℕ → ℕ
head_length_in s = head_length (version_in s)

-- of version 2 serial and clock stand there, of any other they are those with which it moves to version 2
abbrev pub head_in : List ℕ → Head
head_in s =
    record {
      version = version_in s;
      divisor = field 5 2 s;
      frequency = field 7 5 s;
      mode = field 12 1 s;
      size = field 13 1 s;
      serial = pick (eqb (version_in s) 2) (field 14 8 s) unknown;
      clock = pick (eqb (version_in s) 2) (field 22 4 s) nominal;
    }

-- ---- the values that are allowed

-- how many channels the capture's packets hold: "mode byte bit 6 set for two channels", in both versions
abbrev pub channels_in : Head → ℕ
channels_in h = 1 + h.mode / 0x40 % 2

-- the mode byte without bit 6, as the box has it: 80 or 00
abbrev pub box_mode : ℕ → ℕ
box_mode mode = 0x80 * (mode / 0x80) + mode % 0x40

-- and the way there: the mode byte of a head, from the box's and how many channels its packets hold. Bit 6 is "set for two channels", and
-- for no other number.
abbrev pub mode_with : ℕ → ℕ → ℕ
mode_with mode channels = box_mode mode + pick (eqb channels 2) 0x40 0

-- the packet form that a head announces
abbrev pub form_in : Head → Form
form_in h = form_for (box_mode h.mode) h.size

-- the form as each channel has it
abbrev pub each_in : Head → Form
each_in h = each_of (channels_in h) (form_in h)

-- "eight bytes, all zero for unknown": eight of A-Z, 0-9, or none
abbrev pub head_serial : ℕ → Bool
head_serial n = eqb n unknown || holds_serial n

-- a head that names neither its box nor another clock than 80,000,000
abbrev pub bare : Head → Bool
bare h = eqb h.serial unknown && eqb h.clock nominal

-- serial and clock: version 1 has no room for them, so they are what a bare head has
abbrev pub naming_ok : Head → Bool
naming_ok h = pick (eqb h.version 2) (head_serial h.serial && is_clock h.clock) (bare h)

-- each value is one that a box can have: D from 10 to 625, a frequency of the bands, a mode and a size of the table of packets, a
-- serial and a clock
unfoldable pub allowed_head : Head → Bool
allowed_head h =
    is_head_version h.version && is_d h.divisor && in_bands h.frequency && listed_form (form_in h) && naming_ok h

-- ---- writing

-- "The harvester writes it (refusing 16, then 20)": the head, and the length of the lent slice
abbrev pub head_write_checks : Head → ℕ → List Check
head_write_checks h room =
    check Code.value_not_allowed (not (allowed_head h)) ∷ check Code.no_room (ltb room (head_length h.version)) ∷ []

unfoldable pub head_write_code : Head → ℕ → ℕ
head_write_code h room = first_of (head_write_checks h room) Code.done

-- what is written at the start of the lent slice: the head or nothing, by the column "Written" of the table of codes
abbrev pub written_bytes : Head → ℕ → List ℕ
written_bytes h room = others_write (head_write_code h room) (head_bytes h)

-- ---- reading

-- 01: "reads it from the first 14 bytes given. Under 14 bytes, wrong mark or a value not allowed is 40 (checked before 41, the
-- version; with another version only mark and length are looked at)." 02: "41 now means a version other than 1 and 2; a version 2
-- head under 26 bytes or with a bad field is 40."
abbrev pub head_read_checks : List ℕ → List Check
head_read_checks s =
    check Code.not_a_head (ltb (length s) (head_length 1))
    ∷ check Code.not_a_head (not (eqb (field 0 3 s) (number mark)))
    ∷ check Code.other_version (not (is_head_version (version_in s)))
    ∷ check Code.not_a_head (ltb (length s) (head_length_in s))
    ∷ check Code.not_a_head (not (allowed_head (head_in s)))
    ∷ []

unfoldable pub head_read_code : List ℕ → ℕ
head_read_code s = first_of (head_read_checks s) Code.done

-- What an answer of reading says: its number, and the head where there is one.
pub record HeadReading : Type 0 where
  pub code : ℕ
  pub heads : List Head

abbrev pub opened_says : Result Head Refusal → HeadReading
opened_says (Ok h) = record { code = Code.done; heads = h ∷ [] }
opened_says (Err r) = record { code = refusal_code r; heads = [] }

unfoldable pub head_reading_of : List ℕ → HeadReading
head_reading_of s = record { code = head_read_code s; heads = pick (eqb (head_read_code s) Code.done) (head_in s ∷ []) [] }

-- ---- what is proved of it, of both versions at once: proofs/Listed, proofs/Rounds

-- A mode byte that a head may have is one of four, with a size byte of 01. Each says 1 or 2 channels.
pub record FourModes : Type 0 where
  pub exactly : (h : Head) → listed_form (form_in h) ≡ one_of h.mode (0x80 ∷ 0x00 ∷ 0xC0 ∷ 0x40 ∷ []) && is_size h.size
  pub channels : (h : Head) → is_count (channels_in h) ≡ true

-- From a mode byte that was made of a box's mode and 1 or 2 channels, both are read.
pub record ModeReadBack : Type 0 where
  pub mode : (mode n : ℕ) → is_mode mode ≡ true → box_mode (mode_with mode n) ≡ mode
  pub channels : (h : Head) (mode n : ℕ) → is_count n ≡ true → h.mode ≡ mode_with mode n → channels_in h ≡ n

-- "14 bytes", "26 bytes in all"
abbrev pub AsLongAsItsVersion : Type 0
AsLongAsItsVersion = (h : Head) → is_head_version h.version ≡ true → length (head_bytes h) ≡ head_length h.version

-- What is written is read, whatever follows it: the places of `head_in` are those of the table.
abbrev pub ReadAsWritten : Type 0
ReadAsWritten =
    (h : Head) (rest : List ℕ) → allowed_head h ≡ true
    → head_reading_of (head_bytes h ++ rest) ≡ record { code = Code.done; heads = h ∷ [] }

-- and what is read is what was written
abbrev pub WrittenAsRead : Type 0
WrittenAsRead = (s : List ℕ) → all_bytes s → head_read_code s ≡ Code.done → head_bytes (head_in s) ≡ take (head_length_in s) s
