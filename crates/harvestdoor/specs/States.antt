-- How a reader crosses the door: as lent bytes, field after field, numbers least significant byte first.
use Rattle.std.specs.Prelude.{ℕ, not, List, ◌++◌, eqb, get_or}
use Rattle.wire.specs.Choice.{pick}
use Rattle.wire.specs.Number.{bytes, field}
use Rattle.reader.specs.declared.Reader.{Reader}

-- A reader: 34 bytes. A flag is a byte, 0 for no, anything else for yes.
abbrev pub reader_size : ℕ
reader_size = 34

unfoldable pub reader_in : List ℕ → Reader
reader_in b =
    record {
      heard = not (eqb (get_or b 32 0) 0);
      channels = get_or b 33 0;
      position = field 0 8 b;
      total = field 24 8 b;
      form = record { bits = field 8 8 b; pairs = field 16 8 b };
    }

unfoldable pub reader_bytes : Reader → List ℕ
reader_bytes r =
    bytes 8 r.position
    ++ bytes 8 r.form.bits
    ++ bytes 8 r.form.pairs
    ++ bytes 8 r.total
    ++ bytes 1 (pick r.heard 1 0)
    ++ bytes 1 r.channels
