-- The worked example of document 01, the same with a head of version 2, and with one of two channels, computed.
use Prim.Native.Nat.{ℕ}
use mathlib.Core.Path.{◌≡◌, refl}
use mathlib.Core.List.{List, [], ◌∷◌, ◌++◌}
use lib.ListN.{replicate}
use Rattle.wire.specs.Number.{number, bytes}
use Rattle.packets.specs.Missed.{steps_give}
use Rattle.reader.specs.Reading.{reading_code}
use Rattle.heads.specs.declared.Head.{Head}
use Rattle.heads.specs.Head.{unknown, nominal, head_bytes, allowed_head}
use Rattle.heads.specs.Head.{head_read_code}
use Rattle.lines.specs.Lines.{digits_in, decimal}
use Rattle.spans.specs.Report.{packets_in, lines_from, lines_of, report, packet_code}

-- "Head D = 100, 24 bits, small", with a mode byte
abbrev head_of : ℕ → Head
head_of mode = record { version = 1; divisor = 100; frequency = 14_010_000; mode = mode; size = 1; serial = unknown; clock = nominal }

abbrev head : Head
head = head_of 0x80

-- the same in version 2, of MT123456 at the greatest clock
abbrev named : Head
named =
    record {
      version = 2;
      divisor = 100;
      frequency = 14_010_000;
      mode = 0x80;
      size = 1;
      serial = number (0x4D ∷ 0x54 ∷ 0x31 ∷ 0x32 ∷ 0x33 ∷ 0x34 ∷ 0x35 ∷ 0x36 ∷ []);
      clock = 80_008_000;
    }

-- a packet of that form with a number, all its samples 0
abbrev packet : ℕ → List ℕ
packet n = 0x84 ∷ 0x81 ∷ bytes 2 n ++ replicate 384 0

-- "three packets 0, 1, 4"
abbrev example : Head → List ℕ
example h = head_bytes h ++ packet 0 ++ packet 1 ++ packet 4

-- "SPAN 1", "C 1 24 .. 3 5 ... ...", "E 1", a line each, with pairs of two digits, samples of three, and a time; and of the five
-- positions two are missed
abbrev text : ℕ → ℕ → ℕ → ℕ → ℕ → List ℕ → List ℕ
text p q x y z time =
    0x53 ∷ 0x50 ∷ 0x41 ∷ 0x4E ∷ 0x20 ∷ 0x31 ∷ 0x0A
    ∷ 0x43 ∷ 0x20 ∷ 0x31 ∷ 0x20 ∷ 0x32 ∷ 0x34 ∷ 0x20 ∷ p ∷ q ∷ 0x20 ∷ 0x33 ∷ 0x20 ∷ 0x35
    ∷ 0x20 ∷ x ∷ y ∷ z ∷ 0x20 ∷ time
    ++ 0x20 ∷ 0x32 ∷ 0x0A
    ∷ 0x45 ∷ 0x20 ∷ 0x31 ∷ 0x0A ∷ []

-- "64 .. 320", and a time
abbrev text_of_one : List ℕ → List ℕ
text_of_one time = text 0x36 0x34 0x33 0x32 0x30 time

-- 1600 microseconds
pub worked_text : report (example head) ≡ text_of_one (0x31 ∷ 0x36 ∷ 0x30 ∷ 0x30 ∷ [])
unfolding head_bytes allowed_head head_read_code lines_of lines_from packets_in packet_code reading_code report decimal digits_in steps_give
worked_text = refl

-- and 1599: 320 x 400 x 1,000,000 / 80,008,000 is 1599.84
pub named_text : report (example named) ≡ text_of_one (0x31 ∷ 0x35 ∷ 0x39 ∷ 0x39 ∷ [])
unfolding head_bytes allowed_head head_read_code lines_of lines_from packets_in packet_code reading_code report decimal digits_in steps_give
named_text = refl

-- Two channels: mode C0. Of a packet's 64 pairs each has 32; "C 1 24 32 3 5 160 800 2"
pub twice_text : report (example (head_of 0xC0)) ≡ text 0x33 0x32 0x31 0x36 0x30 (0x38 ∷ 0x30 ∷ 0x30 ∷ [])
unfolding head_bytes allowed_head head_read_code lines_of lines_from packets_in packet_code reading_code report decimal digits_in steps_give
twice_text = refl
