-- A capture file moved to another version of its head (02, No. 9): what the programs newer and older write, and that they write it
-- however the input comes in pieces.
use Rattle.std.specs.Prelude.{ℕ, ◌-◌, ◌≤◌, ◌≡◌, ◌⊎◌, List, [], ◌∷◌, ◌++◌, length, drop, Option, IfSome, Result}
use Rattle.std.proofs.lemmas.List.Edits.{sets}
use Rattle.wire.specs.Codes as Code
use Rattle.wire.specs.Lists.{joined}
use Rattle.reads.specs.Got.{Whole}
use Rattle.streams.specs.Moved.{Moved}
use Rattle.lines.specs.Lines.{Line, refusal_line}
use Rattle.heads.specs.Head.{head_length, head_length_in}
use Rattle.wire.specs.Refusal.{code_of}
use Rattle.wire.specs.declared.refusal.Refusal.{Refusal}
use Rattle.moves.specs.declared.out.Sent.{Sent}
use Rattle.heads.specs.Moving.{moving_code, moved_bytes, move_writes}

-- a file in another version: the head moved, and then what stands behind the head, as it is
abbrev pub moved_file : ℕ → List ℕ → List ℕ
moved_file v input = moved_bytes v input ++ drop (head_length_in input) input

-- the longest head, of version 2, has room in as many bytes
abbrev pub longest : ℕ
longest = head_length 2

-- The first bytes of an input are enough to tell: there is a head whatever its version, or no more is to come. The answer is the
-- last read's.
abbrev pub Enough : {E : Type 0} → Result ℕ E → List ℕ → Type 0
Enough got first = (longest ≤ length first) ⊎ Whole got

-- and their head moves
pub record Movable {E : Type 0} (v : ℕ) (got : Result ℕ E) (first : List ℕ) : Type 0 where
  pub enough : Enough got first
  pub moves : moving_code v first longest ≡ Code.done

-- the lines on standard error: a refusal as span prints it, or `H` and the version
abbrev pub refused_line : ℕ → List ℕ → Line
refused_line v first = refusal_line (moving_code v first longest) 0

abbrev pub moved_line : ℕ → Line
moved_line v = record { word = 0x48 ∷ []; numbers = v ∷ [] }

-- ---- what the functions inside promise each other

-- a read to behind the bytes at hand
pub record ReadBehind {E : Type 0} (have : ℕ) (before after : List ℕ) (got : Result ℕ E) : Type 0 where
  pub moved : Moved (length before - have) got
  pub long : length after ≡ length before

-- the bytes at hand are enough to tell
pub record FilledUp {E : Type 0} (buf : List ℕ) (have : ℕ) (got : Result ℕ E) : Type 0 where
  pub inside : have ≤ length buf
  pub enough : (longest ≤ have) ⊎ Whole got

-- a head moved to the start of lent bytes, as crate heads says it
pub record PutAs (v : ℕ) (first before after : List ℕ) (r : Result (Unit {0}) Refusal) : Type 0 where
  pub code : code_of r ≡ moving_code v first (length before)
  pub bytes : after ≡ sets before 0 (move_writes v first (length before))

-- So many bytes were read, and so many written: as many as an input has whose head moves, and as it has once moved. The count of what
-- was written is src/out's own and grows by writing only, so a piece that was counted as read and not written is none of these.
pub record MovedSoFar (v read : ℕ) (sent : Sent) : Type 0 where
  pub input : List ℕ
  pub count : length input ≡ read
  pub moves : moving_code v input longest ≡ Code.done
  pub written : sent.bytes ≡ length (moved_file v input)

-- what the first bytes came to, so many of them: where they were refused nothing is known, so that nobody can go on
abbrev pub BegunAs : ℕ → ℕ → Option Sent → Type 0
BegunAs v have begun = IfSome begun (MovedSoFar v have)

-- ---- what is proved of it: proofs/Pieces

-- all that is written of an input: the file moved, or nothing where moving is refused
abbrev pub written_of : ℕ → List ℕ → List ℕ
written_of v input = Code.others_write (moving_code v input longest) (moved_file v input)

-- Pieces of an input behind its first bytes, of which there are none where it has ended. What the first bytes come to is what the
-- whole comes to, and what is written of them and of the pieces is the whole file moved, or nothing.
pub record InPieces (v : ℕ) (first : List ℕ) (pieces : List (List ℕ)) : Type 0 where
  pub code : (room : ℕ) → moving_code v (first ++ joined pieces) room ≡ moving_code v first room
  pub file : moved_file v (first ++ joined pieces) ≡ moved_bytes v first ++ (drop (head_length_in first) first ++ joined pieces)
  pub output : written_of v (first ++ joined pieces)
      ≡ Code.others_write (moving_code v first longest) (moved_bytes v first ++ (drop (head_length_in first) first ++ joined pieces))

abbrev pub HoweverItComes : Type 0
HoweverItComes =
    (v : ℕ) (first : List ℕ) (pieces : List (List ℕ)) → (longest ≤ length first) ⊎ (joined pieces ≡ []) → InPieces v first pieces
