-- What the functions inside promise each other. Nothing of document 01 rests on it; Going in proofs/ ties it to Reading.
use Rattle.std.specs.Prelude.{ℕ, List, eqb, length}
use Rattle.std.proofs.lemmas.List.Edits.{sets}
use Rattle.wire.specs.Choice.{pick}
use Rattle.wire.specs.Codes as Code
use Rattle.wire.specs.Number.{bytes}
use Rattle.reader.specs.Answers.{Heard}
use Rattle.reader.specs.Reading.{unheard, reading_of}
use Rattle.harvestdoor.specs.States.{reader_size, reader_in, reader_bytes}

-- a reader's bytes with another position and another total, and the flag set
unfoldable pub next_bytes : ℕ → ℕ → List ℕ → List ℕ
next_bytes position total b = sets (sets (sets b 0 (bytes 8 position)) 24 (bytes 8 total)) 32 (bytes 1 1)

-- all of the reader, or what a packet that goes on changes of it
abbrev pub heard_bytes : Heard → List ℕ → List ℕ
heard_bytes h b = pick (eqb h.position 0) (reader_bytes h.reader) (next_bytes h.position h.total b)

-- reading by the reader of these bytes, which is broken where they are not as many as a reader's
unfoldable pub reading_in : List ℕ → List ℕ → Heard
reading_in state packet = pick (eqb (length state) reader_size) (reading_of (reader_in state) packet) (unheard Code.broken (reader_in state))
