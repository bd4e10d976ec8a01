-- What the header of a finished message decides: its type, its length as the header has it, and, in an acknowledgement,
-- the item that its third byte names.
use Rattle.std.specs.Prelude.{ℕ, Bool, true, false, Result, Ok, Err, ◌&&◌, ◌||◌, not, List, [], ◌∷◌, eqb, leb, ltb}
use Rattle.wire.specs.Choice.{Check, check}
use Rattle.wire.specs.Codes as Code
use Rattle.wire.specs.Refusal.{refusal_code}
use Rattle.wire.specs.declared.refusal.Refusal.{Refusal}
use Rattle.wire.specs.Header.{type_set, type_acknowledgement, type_data}

-- "acknowledgements of length 3 naming item 0 to 3"
abbrev pub acknowledges : ℕ → ℕ → ℕ → Bool
acknowledges type size named = eqb type type_acknowledgement && eqb size 3 && leb named 3

-- "Unanswered messages (code 2): 02 00; acknowledgements of length 3 naming item 0 to 3; data items of every length but 1."
abbrev pub unanswered : ℕ → ℕ → ℕ → Bool
unanswered type size named =
    (eqb type type_set && eqb size 2) || acknowledges type size named || (leb type_data type && not (eqb size 1))

-- "bad header: length 1; length 0 in types 0 to 3; length 2 in types 1 to 3; length 3 in types 0 to 2; type 3 otherwise not as above"
abbrev pub bad_header : ℕ → ℕ → ℕ → Bool
bad_header type size named =
    eqb size 1
    || (eqb size 0 && leb type 3)
    || (eqb size 2 && leb 1 type && leb type 3)
    || (eqb size 3 && leb type 2)
    || (eqb type type_acknowledgement && not (acknowledges type size named))

-- "types 0 to 2, length over 64"
abbrev pub too_long : ℕ → ℕ → Bool
too_long type size = leb type 2 && ltb 64 size

-- "Codes 10 to 17 stand in order of checking (11 first)"; an unanswered message has no bad header, and none is too long.
abbrev pub header_checks : ℕ → ℕ → ℕ → List Check
header_checks type size named =
    check Code.bad_header (bad_header type size named)
    ∷ check Code.no_reply_due (unanswered type size named)
    ∷ check Code.too_long (too_long type size)
    ∷ []

-- What the header decides, in the numbers of "What comes back": 1 and 2, a reply is due or is not, or its refusal.
abbrev pub due_says : Result Bool Refusal → ℕ
due_says (Ok true) = Code.done
due_says (Ok false) = Code.no_reply_due
due_says (Err r) = refusal_code r
