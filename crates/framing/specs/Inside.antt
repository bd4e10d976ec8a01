-- What the functions inside promise each other. Nothing of document 01 rests on it; Runs in proofs/ ties it to Framing.
use Rattle.std.specs.Prelude.{ℕ, ◌+◌, List, ltb, length}
use Rattle.std.proofs.lemmas.List.Edits.{sets}
use Rattle.wire.specs.Choice.{pick}
use Rattle.framing.specs.Framing.{announced}

-- What one call can know of the total beforehand: what the header announces with all of the host's bytes stored, and two
-- bytes while they do not make a header.
unfoldable pub total_ahead : List ℕ → ℕ → List ℕ → ℕ
total_ahead held had host = pick (ltb (had + length host) 2) 2 (announced (sets held had host))
