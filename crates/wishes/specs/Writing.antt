-- Writing a wish into a lent buffer.
use Rattle.std.specs.Prelude.{ℕ, not, Result, Ok, Err, List, [], ◌∷◌, ltb, length}
use Rattle.wire.specs.Choice.{Check, check, first_of}
use Rattle.wire.specs.Codes.{others_write}
use Rattle.wire.specs.Codes as Code
use Rattle.wire.specs.Refusal.{refusal_code}
use Rattle.wire.specs.declared.refusal.Refusal.{Refusal}
use Rattle.wishes.specs.declared.Wish.{Wish}
use Rattle.wishes.specs.Wishes.{open_wish, allowed_wish, message_of}

-- "a channel byte (15, nothing written, if no box allows it; before 16)" (02, No. 7); "16 values the box would refuse so, with 20 a buffer
-- under 16 bytes (16 checked first)"
abbrev pub wish_checks : Wish → ℕ → List Check
wish_checks w room =
    check Code.channel_not_allowed (not (open_wish w))
    ∷ check Code.value_not_allowed (not (allowed_wish w))
    ∷ check Code.no_room (ltb room 16)
    ∷ []

unfoldable pub wish_code : Wish → ℕ → ℕ
wish_code w room = first_of (wish_checks w room) Code.done

-- what is written at the start of a buffer of so many bytes: the message or nothing, by the column "Written" of the table of codes
unfoldable pub bytes_written : Wish → ℕ → List ℕ
bytes_written w room = others_write (wish_code w room) (message_of w)

-- An answer in document 01's terms: its code, and how many bytes were written.
pub record Writing : Type 0 where
  pub code : ℕ
  pub wrote : ℕ

-- how many bytes the message has, or the refusal's code
abbrev pub written_says : Result ℕ Refusal → Writing
written_says (Ok n) = record { code = Code.done; wrote = n }
written_says (Err r) = record { code = refusal_code r; wrote = 0 }

-- what writing a wish into a buffer of so many bytes answers
abbrev pub writing_of : Wish → ℕ → Writing
writing_of w room = record { code = wish_code w room; wrote = length (bytes_written w room) }
