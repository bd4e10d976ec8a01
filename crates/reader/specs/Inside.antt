-- What the functions inside promise each other. Nothing of document 01 rests on it; Going in proofs/ ties it to Reading.
use Rattle.std.specs.Prelude.{ℕ, Bool, ◌&&◌, not, List, eqb}
use Rattle.packets.specs.Forms.{same_form, whole_of, is_packet}
use Rattle.packets.specs.Numbers.{number_in}
use Rattle.reader.specs.declared.Reader.{Reader}
use Rattle.reader.specs.Reading.{sound}

-- A packet goes on in a capture: the reader is sound and has heard one, and this one has its form and a number above 0.
unfoldable pub goes_on : Reader → List ℕ → Bool
goes_on r p = sound r && r.heard && is_packet p && same_form (whole_of p) r.form && not (eqb (number_in p) 0)
