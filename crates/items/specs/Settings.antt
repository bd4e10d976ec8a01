-- The settings of a box: their ranges, a fresh box, and one setting changed.
use Rattle.std.specs.Prelude.{ℕ, ◌^◌, Bool, true, false, ◌&&◌, ◌||◌, List, [], ◌∷◌, map, leb, ltb, eqb, length, replicate, ℤ, pos, Option, None, Some}
use Rattle.wire.specs.Choice.{pick, one_of, within}
use Rattle.wire.specs.Codes as Code
use Rattle.wire.specs.Refusal.{refusal_code}
use Rattle.wire.specs.declared.refusal.Refusal.{Refusal}
use Rattle.wire.specs.Number.{bytes}
use Rattle.wire.specs.Signed.{coded, minus}
use Rattle.rates.specs.Rate.{is_d}
use Rattle.tuning.specs.Bands.{in_bands}
use Rattle.tuning.specs.Word.{is_clock, word_of, word_kept}
use Rattle.packets.specs.Numbers.{most}
use Rattle.items.specs.declared.Channel.{Channel}
use Rattle.items.specs.declared.Settings.{Settings}
use Rattle.items.specs.declared.Begun.{Begun}

-- RF gain: "signed byte 0, -10, -20 or -30"
abbrev pub gains : List ℤ
gains = pos 0 ∷ minus 10 ∷ minus 20 ∷ minus 30 ∷ []

-- as a byte
abbrev pub is_gain : ℕ → Bool
is_gain byte = one_of byte (map (coded 8) gains)

-- capture mode: "mode 80 (24 bits) or 00 (16 bits)"
abbrev pub is_mode : ℕ → Bool
is_mode byte = one_of byte (0x80 ∷ 0x00 ∷ [])

-- packet size: "0 large, 1 small"
abbrev pub is_size : ℕ → Bool
is_size byte = one_of byte (0 ∷ 1 ∷ [])

-- channel setup: "values 0 (single, the fresh value) and 4 (two channels, one converter)" (02, No. 7)
abbrev pub single : ℕ
single = 0

abbrev pub dual : ℕ
dual = 4

abbrev pub is_setup : ℕ → Bool
is_setup byte = one_of byte (single ∷ dual ∷ [])

-- a character of a serial: A-Z, 0-9
abbrev pub is_serial_byte : ℕ → Bool
is_serial_byte byte = within 0x41 0x5A byte || within 0x30 0x39 byte

abbrev pub all_serial : List ℕ → Bool
all_serial [] = true
all_serial (b ∷ bs) = is_serial_byte b && all_serial bs

-- a serial: eight of them
abbrev pub is_serial : List ℕ → Bool
is_serial serial = eqb (length serial) 8 && all_serial serial

-- as a number, of its eight bytes (below 256 ^ 8: there is no ninth)
abbrev pub holds_serial : ℕ → Bool
holds_serial n = all_serial (bytes 8 n) && ltb n (256 ^ 8)

-- a channel of a box with this clock. "A box whose stored word disagrees with its frequency and clock is broken (21)." (02, No. 5)
abbrev pub channel_in_range : ℕ → Channel → Bool
channel_in_range clock c = in_bands c.frequency && eqb c.word (word_of c.frequency clock) && is_gain c.gain

-- every setting lies within its range
unfoldable pub in_range : Settings → Bool
in_range s =
    is_clock s.clock
    && channel_in_range s.clock s.first
    && channel_in_range s.clock s.second
    && leb s.count most
    && is_d s.divisor
    && is_size s.size
    && is_setup s.setup
    && is_mode s.mode
    && is_serial s.serial

-- "A fresh box: idle, mode 80, 10,000,000 Hz, gain 0, clock 80,000,000, D = 100, large packets, count 0." Channel 02 has "fresh ones at
-- first" too. The word of 10,000,000 at 80,000,000 is 2^32 / 8.
abbrev pub fresh_channel : Channel
fresh_channel = record { frequency = 10_000_000; word = 536_870_912; gain = 0 }

abbrev pub fresh_of : List ℕ → Settings
fresh_of serial =
    record {
      first = fresh_channel;
      second = fresh_channel;
      count = 0;
      clock = 80_000_000;
      divisor = 100;
      size = 0;
      setup = single;
      running = false;
      mode = 0x80;
      serial = serial;
    }

-- a fresh box: the code of starting it, and its settings
pub record FreshSettings : Type 0 where
  pub code : ℕ
  pub settings : Settings

-- "serial not eight of A-Z, 0-9": 26, and "the fresh box has serial 00000000"
abbrev pub fresh_answer : List ℕ → FreshSettings
fresh_answer serial =
    pick (is_serial serial) (record { code = Code.done; settings = fresh_of serial })
    (record { code = Code.not_a_serial; settings = fresh_of (replicate 8 0x30) })

-- The same of what the code answers with: 1, or the number of the serial's refusal.
abbrev pub serial_code : Option Refusal → ℕ
serial_code None = Code.done
serial_code (Some r) = refusal_code r

abbrev pub fresh_says : Begun Settings → FreshSettings
fresh_says f = record { code = serial_code f.refused; settings = f.made }

-- ---- one setting changed

-- all settings, in their order
abbrev settings : Channel → Channel → ℕ → ℕ → ℕ → ℕ → ℕ → Bool → ℕ → List ℕ → Settings
settings first second count clock divisor size setup running mode serial =
    record {
      first = first;
      second = second;
      count = count;
      clock = clock;
      divisor = divisor;
      size = size;
      setup = setup;
      running = running;
      mode = mode;
      serial = serial;
    }

-- Both channels, and the clock that is common to them: the word of each goes by it.
abbrev pub with_tuning : Channel → Channel → ℕ → Settings → Settings
with_tuning first second clock s =
    settings first second s.count clock s.divisor s.size s.setup s.running s.mode s.serial

-- all others
abbrev pub with_others : ℕ → ℕ → ℕ → ℕ → Bool → ℕ → Settings → Settings
with_others count divisor size setup running mode s =
    settings s.first s.second count s.clock divisor size setup running mode s.serial

abbrev pub with_count : ℕ → Settings → Settings
with_count n s = with_others n s.divisor s.size s.setup s.running s.mode s

abbrev pub with_divisor : ℕ → Settings → Settings
with_divisor d s = with_others s.count d s.size s.setup s.running s.mode s

abbrev pub with_size : ℕ → Settings → Settings
with_size byte s = with_others s.count s.divisor byte s.setup s.running s.mode s

abbrev pub with_setup : ℕ → Settings → Settings
with_setup byte s = with_others s.count s.divisor s.size byte s.running s.mode s

abbrev pub with_running : Bool → Settings → Settings
with_running b s = with_others s.count s.divisor s.size s.setup b s.mode s

abbrev pub with_mode : ℕ → Settings → Settings
with_mode byte s = with_others s.count s.divisor s.size s.setup s.running byte s

-- ---- channels

-- The tuning channels that are open: with 4 "channels 00 and 02", with 0 channel 00.
abbrev pub open_channels : ℕ → List ℕ
open_channels setup = pick (eqb setup dual) (0x00 ∷ 0x02 ∷ []) (0x00 ∷ [])

-- how many channels a box's packets hold
abbrev pub channels_of : Settings → ℕ
channels_of s = length (open_channels s.setup)

-- The channels that a set covers, by 0019's value and the set's channel byte: the one that it names; "FF sets both" with 4, and "with 0,
-- FF sets channel 00 only".
abbrev pub covers : ℕ → ℕ → ℕ → Bool
covers setup byte channel = eqb byte channel || (eqb byte 0xFF && one_of channel (open_channels setup))

-- the channel whose value is shown beside a channel byte: beside 02 the second's, beside any other, FF among them, the first's
abbrev pub channel_shown : ℕ → ℕ
channel_shown byte = pick (eqb byte 0x02) 0x02 0x00

abbrev pub channel_at : ℕ → Settings → Channel
channel_at byte s = pick (eqb byte 0x02) s.second s.first

-- both channels, each changed where a set covers it; a channel that it does not cover "retains its values"
abbrev pub on_channels : ℕ → (Channel → Channel) → Settings → Settings
on_channels byte change s =
    with_tuning (pick (covers s.setup byte 0x00) (change s.first) s.first)
    (pick (covers s.setup byte 0x02) (change s.second) s.second) s.clock s

-- a channel at a frequency, in a box with this clock. The word is "true after every message" (02, No. 5): it is that of both.
abbrev pub tuned_to : ℕ → ℕ → Channel → Channel
tuned_to hz clock c = record { frequency = hz; word = word_kept hz clock; gain = c.gain }

-- at a gain
abbrev pub gained_to : ℕ → Channel → Channel
gained_to byte c = record { frequency = c.frequency; word = c.word; gain = byte }

-- The clock. With it the word of either channel changes, also of one that is not open.
abbrev pub with_clock : ℕ → Settings → Settings
with_clock hz s = with_tuning (tuned_to s.first.frequency hz s.first) (tuned_to s.second.frequency hz s.second) hz s
