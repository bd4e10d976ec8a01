-- "Control messages have a 16-bit item code after the header, then parameters."
use Rattle.std.specs.Prelude.{ℕ, ◌+◌, Bool, Option, Some, None, List, [], ◌∷◌, ◌++◌, length}
use Rattle.wire.specs.Number.{bytes, field}
use Rattle.wire.specs.Header.{header_of}
use Rattle.wire.specs.Lists.{same}
use Rattle.layouts.specs.declared.Layout.{Layout}

-- "the channel byte or id is echoed", where there is one
abbrev pub echo_bytes : Option ℕ → List ℕ
echo_bytes (Some byte) = byte ∷ []
echo_bytes None = []

-- and then the value
abbrev pub parameters_of : Layout → List ℕ
parameters_of a = echo_bytes a.echo ++ bytes a.width a.value

-- the value stands past header and item code, of two bytes each, and the echoed byte
abbrev pub value_place : Layout → ℕ
value_place a = 4 + length (echo_bytes a.echo)

abbrev pub size_of : Layout → ℕ
size_of a = value_place a + a.width

abbrev pub laid : Layout → List ℕ
laid a = bytes 2 (header_of a.kind (size_of a)) ++ bytes 2 a.item ++ parameters_of a

-- the message with the number that stands in that place of the bytes as its value
abbrev pub filled : Layout → List ℕ → Layout
filled a bs = record a { value = field (value_place a) a.width bs }

-- the bytes are a message laid out so, whatever its value is
unfoldable pub has_layout : List ℕ → Layout → Bool
has_layout bs a = same bs (laid (filled a bs))
