-- The answers of reading and of unpacking, in document 01's terms.
use Rattle.std.specs.Prelude.{ℕ}
use Rattle.reader.specs.declared.Reader.{Reader}

-- What one call of reading answered: its code, the packet's position, its first sample's position in each channel, how many packets were
-- missed just before it and in the capture so far, and the reader after it. Where it refuses, these numbers are 0 and the
-- reader is the one given.
pub record Heard : Type 0 where
  pub code : ℕ
  pub position : ℕ
  pub sample : ℕ
  pub missed : ℕ
  pub total : ℕ
  pub reader : Reader

-- What unpacking did: its code, and how many numbers it wrote.
pub record Unpacked : Type 0 where
  pub code : ℕ
  pub count : ℕ
