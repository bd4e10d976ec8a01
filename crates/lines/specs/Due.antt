-- The lines that are due at one moment, and what writing them answers. A reader of 01 needs only Lines and spans/specs/Report,
-- which says what is printed of the whole input.
use Rattle.std.specs.Prelude.{ℕ, ◌+◌, Bool, ◌&&◌, not, List, [], ◌∷◌, ◌++◌, eqb, leb, ltb, length, Option, Some, None, Result, Ok, Err}
use Rattle.wire.specs.Choice.{pick}
use Rattle.wire.specs.Codes as Code
use Rattle.wire.specs.declared.refusal.Refusal as Wire
use Rattle.wire.specs.Refusal.{refusal_code}
use Rattle.tuning.specs.Word.{is_clock}
use Rattle.packets.specs.Numbers.{last}
use Rattle.packets.specs.Missed.{missed_of}
use Rattle.lines.specs.declared.Due.{Due}
use Rattle.lines.specs.declared.Ending.{Ending}
use Rattle.lines.specs.declared.Ending.TheVariants.{Refusal, Captures}
use Rattle.lines.specs.Lines.{Line, text_of, opening_line, capture_line, refusal_line, end_line}

abbrev pub opening_if : Bool → List Line
opening_if on = pick on (opening_line ∷ []) []

-- the open capture's line
abbrev pub capture_in : Due → Line
capture_in d =
    capture_line (record { bits = d.bits; pairs = d.pairs }) d.divisor d.clock d.capture d.heard d.position
    (missed_of d.heard d.position)

-- where packets were heard in it
abbrev pub capture_if : Due → List Line
capture_if d = pick (eqb d.heard 0) [] (capture_in d ∷ [])

abbrev pub ending_lines : Option Ending → List Line
ending_lines None = []
ending_lines (Some (Refusal code offset)) = refusal_line code offset ∷ []
ending_lines (Some (Captures captures)) = end_line captures ∷ []

abbrev pub due_lines : Due → List Line
due_lines d = opening_if d.opening ++ (capture_if d ++ ending_lines d.ending)

-- A position, pairs and a D that are not above all that captures have, and a clock that one can have, also where no capture's line
-- is due: what is multiplied for its line fits 64 bits then. No more packets are heard than there are positions.
unfoldable pub sized : Due → Bool
sized d =
    leb d.position last
    && leb d.pairs 256
    && leb d.divisor 625
    && is_clock d.clock
    && leb d.heard (d.position + 1)

-- what writing lines did: its code, and how many bytes it wrote
pub record LinesAnswer : Type 0 where
  pub code : ℕ
  pub wrote : ℕ

-- what an answer says of it
abbrev pub lines_told : Result ℕ Wire.Refusal → LinesAnswer
lines_told (Ok n) = record { code = Code.done; wrote = n }
lines_told (Err r) = record { code = refusal_code r; wrote = 0 }

-- what writing answers, and the bytes that it writes at the start of the lent slice
pub record Telling : Type 0 where
  pub answer : LinesAnswer
  pub bytes : List ℕ

-- nothing is written, with a code
abbrev pub silent_with : ℕ → Telling
silent_with code = record { answer = record { code = code; wrote = 0 }; bytes = [] }

-- 1: a text that is written whole
abbrev pub said_whole : List ℕ → Telling
said_whole text = record { answer = record { code = Code.done; wrote = length text }; bytes = text }

-- whole, or not at all, with 20, where the slice is shorter
abbrev pub telling : List ℕ → ℕ → Telling
telling text room = pick (ltb room (length text)) (silent_with Code.no_room) (said_whole text)

-- 16 for numbers that no capture has, and else the lines' text
unfoldable pub telling_of : Due → ℕ → Telling
telling_of d room = pick (not (sized d)) (silent_with Code.value_not_allowed) (telling (text_of (due_lines d)) room)
