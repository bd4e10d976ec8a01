-- An answer in document 01's terms: its number in "What comes back", and the values that come with it.
use Rattle.std.specs.Prelude.{ℕ, List, [], eqb}
use Rattle.wire.specs.Choice.{pick}
use Rattle.wire.specs.Codes as Code

pub record Told : Type 0 where
  pub code : ℕ
  pub values : List ℕ

-- values come with number 1 alone: "done; a reply, packet or value"
abbrev pub tells : ℕ → List ℕ → Told
tells code values = record { code = code; values = pick (eqb code Code.done) values [] }
