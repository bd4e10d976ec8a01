-- Demand 2: "the samples the box packs are those the harvester unpacks, at the width sent."
use Rattle.std.specs.Prelude.{ℕ, ◌≤◌, ◌≡◌, List, map, ℤ, pos, length, get_or}
use Rattle.wire.specs.Codes as Code
use Rattle.packets.specs.declared.Form.{Form}
use Rattle.packets.specs.Samples.{narrowed}
use Rattle.packets.specs.Channels.{place_of, IsNumber}
use Rattle.items.specs.Settings.{channels_of}
use Rattle.station.specs.declared.Station.{Station}
use Rattle.cutting.specs.Cutting.{form_now, cutting_of}
use Rattle.reader.specs.Reading.{unpack_code, numbers_written}

-- A packet that the box cut, in any of the four forms, unpacked into a slice with room for its numbers: each sample as it
-- is at the width sent (`narrowed`: itself at 24 bits; at 16 with 128 added, divided by 256 rounding down, held at 32,767).
pub record Unpacks (s : Station) (samples : List ℤ) (room out : ℕ) : Type 0 where
  pub code : unpack_code (cutting_of s samples room).bytes out ≡ Code.done
  pub numbers : numbers_written (cutting_of s samples room).bytes out ≡ map (narrowed (form_now s.settings).bits) samples

abbrev pub WhatIsPackedIsUnpacked : Type 0
WhatIsPackedIsUnpacked =
    (s : Station) (samples : List ℤ) (room out : ℕ) → (cutting_of s samples room).cut.code ≡ Code.done → length samples ≤ out
    → Unpacks s samples room out

-- ---- channel by channel (02, No. 7): "packets hold channel 1 I, Q then channel 2 I, Q"

-- the samples of each channel: I (j = 0) or Q (j = 1) of its pair k, channels and pairs counted from 0
abbrev pub Streams : Type 0
Streams = ℕ → ℕ → ℕ → ℤ

-- numbers that hold those of n channels in turn, as a packet of a form has them
abbrev pub HoldsInTurn : ℕ → Form → Streams → List ℤ → Type 0
HoldsInTurn n f stream numbers =
    (k c j : ℕ) → IsNumber n f k c j → get_or numbers (place_of n k c j) (pos 0) ≡ stream c k j

-- What each channel's samples are when the box cuts them, they are when the harvester unpacks them, at the width sent: once over the
-- count, which is the box's own. (That each number of a packet is one channel's, and no two are the same: packets/specs/Channels
-- `ChannelsInTurn`.)
abbrev pub ChannelByChannel : Type 0
ChannelByChannel =
    (s : Station) (samples : List ℤ) (room out : ℕ) → (cutting_of s samples room).cut.code ≡ Code.done → length samples ≤ out
    → (stream : Streams) → HoldsInTurn (channels_of s.settings) (form_now s.settings) stream samples
    → HoldsInTurn (channels_of s.settings) (form_now s.settings) (λ c k j. narrowed (form_now s.settings).bits (stream c k j))
    (numbers_written (cutting_of s samples room).bytes out)
