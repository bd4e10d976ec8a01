-- Heads of both versions in their bytes, and what reading, writing and moving them comes to, as one table. Examples in proofs/ computes
-- it.
use Rattle.std.specs.Prelude.{ℕ, Bool, true, ◌&&◌, List, [], ◌∷◌, ◌++◌, eqb, take, replicate}
use Rattle.wire.specs.Codes as Code
use Rattle.wire.specs.Lists.{same}
use Rattle.heads.specs.declared.Head.{Head}
use Rattle.heads.specs.Head.{unknown, nominal, head_in, channels_in, each_in, head_read_code, head_write_code, written_bytes}
use Rattle.heads.specs.Moving.{moving_code, move_writes}

pub data HeadExample : Type 0 where
  -- bytes are read as a head
  read_as : List ℕ → Head → HeadExample
  -- bytes are read as the head of a capture of so many channels, with bits and pairs of each
  announces : List ℕ → ℕ → ℕ → ℕ → HeadExample
  -- bytes are not read, with a code
  not_read : List ℕ → ℕ → HeadExample
  -- a head is written, in so much room, as these bytes
  written_as : Head → ℕ → List ℕ → HeadExample
  -- a head is not written in so much room, with a code
  not_written : Head → ℕ → ℕ → HeadExample
  -- to a version bytes move, in so much room, as these bytes
  moved_as : ℕ → List ℕ → ℕ → List ℕ → HeadExample
  -- to a version bytes do not move in so much room, with a code
  not_moved : ℕ → List ℕ → ℕ → ℕ → HeadExample

abbrev values : Head → List ℕ
values h = h.version ∷ h.divisor ∷ h.frequency ∷ h.mode ∷ h.size ∷ h.serial ∷ h.clock ∷ []

abbrev pub is_so : HeadExample → Bool
is_so (read_as s h) = eqb (head_read_code s) Code.done && same (values (head_in s)) (values h)
is_so (announces s channels bits pairs) =
    eqb (head_read_code s) Code.done
    && same (channels_in (head_in s) ∷ (each_in (head_in s)).bits ∷ (each_in (head_in s)).pairs ∷ []) (channels ∷ bits ∷ pairs ∷ [])
is_so (not_read s code) = eqb (head_read_code s) code
is_so (written_as h room t) = eqb (head_write_code h room) Code.done && same (written_bytes h room) t
is_so (not_written h room code) = eqb (head_write_code h room) code && same (written_bytes h room) []
is_so (moved_as v s room t) = eqb (moving_code v s room) Code.done && same (move_writes v s room) t
is_so (not_moved v s room code) = eqb (moving_code v s room) code && same (move_writes v s room) []

abbrev pub all_so : List HeadExample → Bool
all_so [] = true
all_so (e ∷ es) = is_so e && all_so es

-- ---- the heads: 14,010,000 Hz; 24 bits, small packets, one channel, where nothing else is said

-- 14 bytes with a last byte of the mark, a version, a D, a mode and a size
abbrev first_of : ℕ → ℕ → ℕ → ℕ → ℕ → List ℕ
first_of letter version d mode size =
    0x53 ∷ 0x50 ∷ letter ∷ version ∷ 0x00 ∷ d ∷ 0x00 ∷ 0x90 ∷ 0xC6 ∷ 0xD5 ∷ 0x00 ∷ 0x00 ∷ mode ∷ size ∷ []

abbrev first : ℕ → ℕ → ℕ → List ℕ
first letter version d = first_of letter version d 0x80 1

-- of a version at D = 100
abbrev start : ℕ → List ℕ
start version = first 0x4E version 100

abbrev old : List ℕ
old = start 1

-- what version 2 adds: a serial, and a clock by its two low bytes (those here all end in C4 04)
abbrev after : List ℕ → ℕ → ℕ → List ℕ
after serial low next = serial ++ low ∷ next ∷ 0xC4 ∷ 0x04 ∷ []

abbrev new : List ℕ → ℕ → ℕ → List ℕ
new serial low next = start 2 ++ after serial low next

abbrev no_serial : List ℕ
no_serial = replicate 8 0x00

-- MT123456
abbrev serial : List ℕ
serial = 0x4D ∷ 0x54 ∷ 0x31 ∷ 0x32 ∷ 0x33 ∷ 0x34 ∷ 0x35 ∷ 0x36 ∷ []

-- MT12345, and a zero byte
abbrev cut_serial : List ℕ
cut_serial = 0x4D ∷ 0x54 ∷ 0x31 ∷ 0x32 ∷ 0x33 ∷ 0x34 ∷ 0x35 ∷ 0x00 ∷ []

-- what moving `old` gives: serial unknown, 80,000,000 Hz
abbrev bare_new : List ℕ
bare_new = new no_serial 0x00 0xB4

-- MT123456 at 79,999,990 Hz
abbrev named : List ℕ
named = new serial 0xF6 0xB3

-- of a mode and a size, in both versions
abbrev old_of : ℕ → ℕ → List ℕ
old_of mode size = first_of 0x4E 1 100 mode size

abbrev new_of : ℕ → ℕ → List ℕ
new_of mode size = first_of 0x4E 2 100 mode size ++ after serial 0xF6 0xB3

abbrev bare_new_of : ℕ → ℕ → List ℕ
bare_new_of mode size = first_of 0x4E 2 100 mode size ++ after no_serial 0x00 0xB4

-- the values: of a version at a D, a mode, a serial and a clock
abbrev head_of : ℕ → ℕ → ℕ → ℕ → ℕ → Head
head_of version d mode serial clock =
    record {
      version = version;
      divisor = d;
      frequency = 14_010_000;
      mode = mode;
      size = 1;
      serial = serial;
      clock = clock;
    }

abbrev head : ℕ → ℕ → ℕ → ℕ → Head
head version d serial clock = head_of version d 0x80 serial clock

abbrev mt123456 : ℕ
mt123456 = 0x3635_3433_3231_544D

abbrev pub examples : List HeadExample
examples =
    -- "old to new to old is the same 14 bytes"
    moved_as 2 old 26 bare_new
    ∷ moved_as 1 bare_new 14 old
    -- "A head already there is returned as it is."
    ∷ moved_as 1 old 14 old
    ∷ moved_as 2 named 26 named
    -- whatever follows it
    ∷ moved_as 2 (old ++ named) 40 bare_new
    -- "going back would lose the serial or the clock"
    ∷ not_moved 1 named 14 Code.would_lose
    ∷ not_moved 1 (new no_serial 0x01 0xB4) 14 Code.would_lose
    ∷ not_moved 1 (new serial 0x00 0xB4) 14 Code.would_lose
    -- no room, and which of the two comes first
    ∷ not_moved 2 old 25 Code.no_room
    ∷ not_moved 1 bare_new 13 Code.no_room
    ∷ not_moved 1 named 13 Code.would_lose
    -- reading's refusals before both
    ∷ not_moved 1 (take 25 named) 13 Code.not_a_head
    ∷ not_moved 2 (start 3) 25 Code.other_version
    -- reading: both versions, and the least and the greatest clock
    ∷ read_as old (head 1 100 unknown nominal)
    ∷ read_as bare_new (head 2 100 unknown nominal)
    ∷ read_as named (head 2 100 mt123456 79_999_990)
    ∷ read_as (new serial 0xC0 0x94) (head 2 100 mt123456 79_992_000)
    ∷ read_as (new serial 0x40 0xD3) (head 2 100 mt123456 80_008_000)
    -- "a version 2 head under 26 bytes or with a bad field is 40"
    ∷ not_read (take 25 named) Code.not_a_head
    ∷ not_read (take 14 named) Code.not_a_head
    ∷ not_read (take 13 named) Code.not_a_head
    ∷ not_read (new cut_serial 0xF6 0xB3) Code.not_a_head
    ∷ not_read (new serial 0xBF 0x94) Code.not_a_head
    ∷ not_read (new serial 0x41 0xD3) Code.not_a_head
    ∷ not_read (first 0x4E 2 9 ++ after serial 0xF6 0xB3) Code.not_a_head
    ∷ not_read (first 0x4E 1 9) Code.not_a_head
    ∷ not_read (first 0x4D 2 100 ++ after serial 0xF6 0xB3) Code.not_a_head
    -- "41 now means a version other than 1 and 2": 14 bytes are enough
    ∷ not_read (start 3) Code.other_version
    ∷ not_read (start 0) Code.other_version
    ∷ not_read (first 0x4D 3 100) Code.not_a_head
    -- writing: "refusing 16, then 20"
    ∷ written_as (head 1 100 unknown nominal) 14 old
    ∷ written_as (head 2 100 unknown nominal) 26 bare_new
    ∷ written_as (head 2 100 mt123456 79_999_990) 26 named
    ∷ not_written (head 2 100 mt123456 79_999_990) 25 Code.no_room
    ∷ not_written (head 1 100 unknown nominal) 13 Code.no_room
    ∷ not_written (head 1 100 mt123456 nominal) 13 Code.value_not_allowed
    ∷ not_written (head 1 100 unknown 80_000_001) 14 Code.value_not_allowed
    ∷ not_written (head 2 100 mt123456 80_008_001) 26 Code.value_not_allowed
    ∷ not_written (head 2 9 mt123456 nominal) 26 Code.value_not_allowed
    ∷ not_written (head 3 100 unknown nominal) 26 Code.value_not_allowed
    -- "mode byte bit 6 set for two channels": the four mode bytes with both sizes, and "pairs per channel are 120, 32, 128 and 64"
    ∷ announces (old_of 0x80 0) 1 24 240
    ∷ announces (old_of 0x80 1) 1 24 64
    ∷ announces (old_of 0x00 0) 1 16 256
    ∷ announces (old_of 0x00 1) 1 16 128
    ∷ announces (old_of 0xC0 0) 2 24 120
    ∷ announces (old_of 0xC0 1) 2 24 32
    ∷ announces (old_of 0x40 0) 2 16 128
    ∷ announces (old_of 0x40 1) 2 16 64
    ∷ announces (new_of 0xC0 1) 2 24 32
    ∷ announces (new_of 0x40 1) 2 16 64
    -- and no other
    ∷ not_read (old_of 0x20 1) Code.not_a_head
    ∷ not_read (old_of 0xC1 1) Code.not_a_head
    ∷ not_read (old_of 0x60 1) Code.not_a_head
    ∷ not_read (old_of 0xC0 2) Code.not_a_head
    ∷ not_read (new_of 0x60 1) Code.not_a_head
    -- a head of two channels is written, read and moved as one of one channel
    ∷ read_as (old_of 0xC0 1) (head_of 1 100 0xC0 unknown nominal)
    ∷ read_as (new_of 0x40 1) (head_of 2 100 0x40 mt123456 79_999_990)
    ∷ written_as (head_of 1 100 0xC0 unknown nominal) 14 (old_of 0xC0 1)
    ∷ written_as (head_of 1 100 0x40 unknown nominal) 14 (old_of 0x40 1)
    ∷ written_as (head_of 2 100 0xC0 mt123456 79_999_990) 26 (new_of 0xC0 1)
    ∷ not_written (head_of 1 100 0x20 unknown nominal) 14 Code.value_not_allowed
    ∷ not_written (head_of 1 100 0xC1 unknown nominal) 14 Code.value_not_allowed
    ∷ not_written (head_of 2 100 0x60 mt123456 79_999_990) 26 Code.value_not_allowed
    ∷ moved_as 2 (old_of 0xC0 1) 26 (bare_new_of 0xC0 1)
    ∷ moved_as 1 (bare_new_of 0xC0 1) 14 (old_of 0xC0 1)
    ∷ moved_as 2 (new_of 0x40 0) 26 (new_of 0x40 0)
    ∷ not_moved 1 (new_of 0xC0 1) 14 Code.would_lose
    ∷ not_moved 2 (old_of 0x60 1) 26 Code.not_a_head
    ∷ []
