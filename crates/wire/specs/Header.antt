-- Message blocks: "A header of 16 bits, least significant byte first: bits 0 to 12 the total length, bits 13 to 15 the type."
use Rattle.std.specs.Prelude.{ℕ, ◌+◌, ◌*◌, ◌/◌, ◌%◌, List, [], ◌∷◌}

-- bits 0 to 12 of the header
abbrev pub length_in : ℕ → ℕ
length_in header = header % 8192

-- bits 13 to 15
abbrev pub type_in : ℕ → ℕ
type_in header = header / 8192 % 8

-- the header of a type and a total length, 13 bits of the length and 3 of the type
abbrev pub header_of : ℕ → ℕ → ℕ
header_of type total = type % 8 * 8192 + total % 8192

-- From the host: type 0 set, 1 request, 2 request range, 3 data acknowledgement, 4 to 7 data items 0 to 3.
abbrev pub type_set : ℕ
type_set = 0

abbrev pub type_request : ℕ
type_request = 1

abbrev pub type_range : ℕ
type_range = 2

abbrev pub type_acknowledgement : ℕ
type_acknowledgement = 3

abbrev pub type_data : ℕ
type_data = 4

-- From the box: 0 reply, 2 range reply, 4 data item 0 (`type_data`).
abbrev pub type_reply : ℕ
type_reply = 0

abbrev pub type_range_reply : ℕ
type_range_reply = 2

-- NAK is the bytes 02 00.
abbrev pub nak : List ℕ
nak = 0x02 ∷ 0x00 ∷ []
