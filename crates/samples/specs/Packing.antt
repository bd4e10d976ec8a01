-- Packing and unpacking: when they refuse, and what they write.
use Rattle.std.specs.Prelude.{ℕ, ◌*◌, Bool, ◌&&◌, List, [], eqb, leb, ℤ, length, drop}
use Rattle.wire.specs.Choice.{pick}
use Rattle.packets.specs.declared.Form.{Form}
use Rattle.packets.specs.Forms.{listed_form, total_of}
use Rattle.packets.specs.Samples.{all_samples, samples_bytes, samples_from}

-- Samples are packed for a listed form, I and Q of each pair, into a slice that has room for the whole packet.
abbrev pub may_pack : Form → List ℤ → ℕ → Bool
may_pack f samples room = listed_form f && eqb (length samples) (2 * f.pairs) && leb (total_of f) room && all_samples samples

-- the sample bytes, which stand after the packet's four leading bytes; none where packing refuses
abbrev pub packed_of : Form → List ℤ → ℕ → List ℕ
packed_of f samples room = pick (may_pack f samples room) (samples_bytes f.bits samples) []

-- A packet of a listed form is unpacked that is at least as long as its form says, into a slice that has room for all its samples.
abbrev pub may_unpack : Form → ℕ → ℕ → Bool
may_unpack f size room = listed_form f && leb (total_of f) size && leb (2 * f.pairs) room

-- the samples after the packet's four leading bytes; none where unpacking refuses
abbrev pub unpacked_of : Form → List ℕ → ℕ → List ℤ
unpacked_of f packet room =
    pick (may_unpack f (length packet) room) (samples_from f.bits (drop 4 packet) 0 (2 * f.pairs)) []
