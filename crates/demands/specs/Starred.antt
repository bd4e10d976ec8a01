-- The judged examples of document 01 that are marked to be proved, as one table in the page's order, and behind them those that
-- belong to a request of document 02. What a message does is asked of a fresh box, fed in one call with 64 bytes of room.
use Rattle.std.specs.Prelude.{ℕ, Bool, true, ◌&&◌, List, [], ◌∷◌, eqb, ℤ, pos, replicate}
use Rattle.wire.specs.Number.{field}
use Rattle.wire.specs.Header.{nak}
use Rattle.wire.specs.Codes as Code
use Rattle.wire.specs.Lists.{same}
use Rattle.wire.specs.Signed.{minus, signed, same_integer}
use Rattle.rates.specs.Rate.{nearest_of, rate_of, may_ask}
use Rattle.tuning.specs.Word.{word_of}
use Rattle.packets.specs.Numbers.{number_at, step_of}
use Rattle.packets.specs.Samples.{sample_bytes}
use Rattle.items.specs.declared.Settings.{Settings}
use Rattle.station.specs.declared.Station.{Station}
use Rattle.station.specs.Station.{fresh_station}
use Rattle.station.specs.Feeding.{Feeding, feeding_of}

-- the box that is asked: fresh, with serial 00000000
abbrev pub asked : Station
asked = fresh_station (replicate 8 0x30)

abbrev pub does : List ℕ → Feeding
does message = feeding_of asked message 64

abbrev pub settings_by : List ℕ → Settings
settings_by message = (does message).fed.station.settings

pub data Example : Type 0 where
  -- a message gives a reply
  gives : List ℕ → List ℕ → Example
  -- a message is echoed, and the frequency is then this
  tunes : List ℕ → ℕ → Example
  -- a frequency at a clock has a tuning word
  has_word : ℕ → ℕ → ℕ → Example
  -- a message has this frequency in its five bytes
  asks_for : List ℕ → ℕ → Example
  -- a message is unanswered
  unanswered : List ℕ → Example
  -- a message gets a code, and NAK
  gets_code : List ℕ → ℕ → Example
  -- a message is echoed, and the gain is then this
  gains : List ℕ → ℤ → Example
  -- a rate asked for gives a D and an achieved rate
  gives_rate : ℕ → ℕ → ℕ → Example
  -- the packet at a position has a number
  has_number : ℕ → ℕ → Example
  -- a number after another is a step
  steps : ℕ → ℕ → ℕ → Example
  -- a sample at a width has these bytes
  packs : ℕ → ℤ → List ℕ → Example
  -- a message is echoed, and the tuning word kept is then this
  keeps_word : List ℕ → ℕ → Example
  -- a message gets NAK, and the tuning word kept is still this
  leaves_word : List ℕ → ℕ → Example

abbrev pub holds : Example → Bool
holds (gives message reply) = eqb (does message).fed.code Code.done && same (does message).bytes reply
holds (tunes message hz) = same (does message).bytes message && eqb (settings_by message).first.frequency hz
holds (has_word hz clock word) = eqb (word_of hz clock) word
holds (asks_for message hz) = eqb (field 5 5 message) hz
holds (unanswered message) = eqb (does message).fed.code Code.no_reply_due && same (does message).bytes []
holds (gets_code message code) = eqb (does message).fed.code code && same (does message).bytes nak
holds (gains message db) = same (does message).bytes message && same_integer (signed 8 (settings_by message).first.gain) db
holds (gives_rate hz d achieved) = may_ask hz && eqb (nearest_of hz) d && eqb (rate_of d) achieved
holds (has_number position number) = eqb (number_at position) number
holds (steps s t step) = eqb (step_of s t) step
holds (packs bits z packed) = same (sample_bytes bits z) packed
holds (keeps_word message word) = same (does message).bytes message && eqb (settings_by message).first.word word
holds (leaves_word message word) = same (does message).bytes nak && eqb (settings_by message).first.word word

abbrev pub starred : List Example
starred =
    gives (0x04 ∷ 0x20 ∷ 0x01 ∷ 0x00 ∷ []) (0x0B ∷ 0x00 ∷ 0x01 ∷ 0x00 ∷ 0x4E ∷ 0x65 ∷ 0x74 ∷ 0x53 ∷ 0x44 ∷ 0x52 ∷ 0x00 ∷ [])
    ∷ tunes (0x0A ∷ 0x00 ∷ 0x20 ∷ 0x00 ∷ 0x00 ∷ 0x90 ∷ 0xC6 ∷ 0xD5 ∷ 0x00 ∷ 0x00 ∷ []) 14_010_000
    ∷ has_word 14_010_000 80_000_000 752_156_148
    ∷ has_word 145_000_000 80_000_000 805_306_368
    ∷ asks_for (0x0A ∷ 0x00 ∷ 0x20 ∷ 0x00 ∷ 0x00 ∷ 0x90 ∷ 0xC6 ∷ 0xD5 ∷ 0x00 ∷ 0x01 ∷ []) 4_308_977_296
    ∷ gets_code (0x0A ∷ 0x00 ∷ 0x20 ∷ 0x00 ∷ 0x00 ∷ 0x90 ∷ 0xC6 ∷ 0xD5 ∷ 0x00 ∷ 0x01 ∷ []) 16
    ∷ tunes (0x0A ∷ 0x00 ∷ 0x20 ∷ 0x00 ∷ 0x00 ∷ 0x80 ∷ 0xCC ∷ 0x06 ∷ 0x02 ∷ 0x00 ∷ []) 34_000_000
    ∷ gets_code (0x0A ∷ 0x00 ∷ 0x20 ∷ 0x00 ∷ 0x00 ∷ 0x81 ∷ 0xCC ∷ 0x06 ∷ 0x02 ∷ 0x00 ∷ []) 16
    ∷ gains (0x06 ∷ 0x00 ∷ 0x38 ∷ 0x00 ∷ 0x00 ∷ 0xEC ∷ []) (minus 20)
    ∷ gets_code (0x06 ∷ 0x00 ∷ 0x38 ∷ 0x00 ∷ 0x00 ∷ 0xF0 ∷ []) 16
    ∷ gives_rate 55_556 360 55_556
    ∷ gives (0x09 ∷ 0x00 ∷ 0xB8 ∷ 0x00 ∷ 0x00 ∷ 0x04 ∷ 0xD9 ∷ 0x00 ∷ 0x00 ∷ [])
    (0x09 ∷ 0x00 ∷ 0xB8 ∷ 0x00 ∷ 0x00 ∷ 0x04 ∷ 0xD9 ∷ 0x00 ∷ 0x00 ∷ [])
    ∷ gives_rate 1_907_000 11 1_818_182
    ∷ gives_rate 32_000 625 32_000
    ∷ gets_code (0x09 ∷ 0x00 ∷ 0xB8 ∷ 0x00 ∷ 0x00 ∷ 0xFF ∷ 0x7C ∷ 0x00 ∷ 0x00 ∷ []) 16
    ∷ gets_code (0x09 ∷ 0x00 ∷ 0xB8 ∷ 0x00 ∷ 0x00 ∷ 0x81 ∷ 0x84 ∷ 0x1E ∷ 0x00 ∷ []) 16
    ∷ gets_code (0x04 ∷ 0x20 ∷ 0x09 ∷ 0x00 ∷ []) 12
    ∷ unanswered (0x03 ∷ 0x60 ∷ 0x00 ∷ [])
    ∷ gets_code (0x03 ∷ 0x60 ∷ 0x04 ∷ []) 11
    ∷ has_number 65_535 65_535
    ∷ has_number 65_536 1
    ∷ steps 7 7 65_535
    ∷ steps 65_535 1 1
    ∷ packs 24 (minus 257) (0xFF ∷ 0xFE ∷ 0xFF ∷ [])
    -- "The marked example -257 now gives FF FF in 16 bits." (02, No. 3)
    ∷ packs 16 (minus 257) (0xFF ∷ 0xFF ∷ [])
    -- 02, No. 3: 127 gives 0, 128 gives 1, -128 gives 0, -129 gives -1 and 8,388,607 gives 32,767
    ∷ packs 16 (pos 127) (0x00 ∷ 0x00 ∷ [])
    ∷ packs 16 (pos 128) (0x01 ∷ 0x00 ∷ [])
    ∷ packs 16 (minus 128) (0x00 ∷ 0x00 ∷ [])
    ∷ packs 16 (minus 129) (0xFF ∷ 0xFF ∷ [])
    ∷ packs 16 (pos 8_388_607) (0xFF ∷ 0x7F ∷ [])
    -- 02, No. 5: the word is kept with a frequency and with a clock that are set, here 80,000,123 Hz; a refused set leaves that of
    -- the fresh box
    ∷ keeps_word (0x0A ∷ 0x00 ∷ 0x20 ∷ 0x00 ∷ 0x00 ∷ 0x90 ∷ 0xC6 ∷ 0xD5 ∷ 0x00 ∷ 0x00 ∷ []) 752_156_148
    ∷ keeps_word (0x0A ∷ 0x00 ∷ 0x20 ∷ 0x00 ∷ 0x00 ∷ 0x40 ∷ 0x86 ∷ 0xA4 ∷ 0x08 ∷ 0x00 ∷ []) 805_306_368
    ∷ keeps_word (0x09 ∷ 0x00 ∷ 0xB0 ∷ 0x00 ∷ 0x00 ∷ 0x7B ∷ 0xB4 ∷ 0xC4 ∷ 0x04 ∷ []) 536_870_087
    ∷ leaves_word (0x0A ∷ 0x00 ∷ 0x20 ∷ 0x00 ∷ 0x00 ∷ 0x81 ∷ 0xCC ∷ 0x06 ∷ 0x02 ∷ 0x00 ∷ []) 536_870_912
    ∷ []

abbrev pub all_hold : List Example → Bool
all_hold [] = true
all_hold (e ∷ es) = holds e && all_hold es
