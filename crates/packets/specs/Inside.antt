-- What the functions inside promise each other. Nothing of document 01 rests on it; Forms in proofs/ ties it to the table.
use Rattle.std.specs.Prelude.{ℕ, eqb}
use Rattle.wire.specs.Choice.{first_row}
use Rattle.packets.specs.declared.Form.{Form}
use Rattle.packets.specs.Forms.{forms, form_of, no_form}

-- the form of packets of so many bytes
abbrev pub form_with_total : ℕ → Form
form_with_total total = first_row (λ r. eqb total r.total) form_of no_form forms
