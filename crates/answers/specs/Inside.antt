-- What the functions inside promise each other. Nothing of document 01 rests on these definitions; Answering in proofs/
-- ties them to Replies.
use Rattle.std.specs.Prelude.{ℕ, Option, Some, None, List, [], ◌∷◌, eqb, ltb, length}
use Rattle.wire.specs.Choice.{pick}
use Rattle.wire.specs.Codes as Code
use Rattle.wire.specs.Header.{nak, type_reply}
use Rattle.layouts.specs.declared.Layout.{Layout}
use Rattle.items.specs.declared.Settings.{Settings}
use Rattle.items.specs.Items.{row_of}
use Rattle.items.specs.Answer.{reply_to}

-- "lent buffer shorter than what this call would write": then nothing is written, and else all of it
abbrev pub count_in : ℕ → List ℕ → Option ℕ
count_in room bytes = pick (ltb room (length bytes)) None (Some (length bytes))

abbrev pub bytes_in : ℕ → List ℕ → List ℕ
bytes_in room bytes = pick (ltb room (length bytes)) [] bytes

-- a reply whose value is a number in so many bytes, without an echoed byte or with one
abbrev pub replying : ℕ → Option ℕ → ℕ → ℕ → Layout
replying item echo width value = record { kind = type_reply; item = item; echo = echo; width = width; value = value }

-- what is due for a code other than 2: the reply to an accepted message, NAK for a refusal
abbrev pub due : ℕ → ℕ → ℕ → ℕ → Settings → List ℕ
due code kind item echo s = pick (eqb code Code.done) (reply_to (row_of item) kind s (echo ∷ [])) nak
