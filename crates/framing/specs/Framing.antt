-- Feeding the box: which bytes make a message, and what is kept of one that is not finished.
use Rattle.std.specs.Prelude.{ℕ, ◌+◌, max, ◌≡◌, Bool, true, false, ◌&&◌, not, List, [], ◌∷◌, leb, eqb, length, set, drop, replicate}
use Rattle.wire.specs.Choice.{pick}
use Rattle.wire.specs.Lists.{all_bytes}
use Rattle.wire.specs.Number.{field}
use Rattle.wire.specs.Header.{length_in, type_in, type_data}
use Rattle.framing.specs.declared.Store.{Store}

-- How many bytes a message has in all: its length; "lengths 0 and 1 finish after the two header bytes, except length 0 in
-- types 4 to 7"; "a data item of length 0 means 8,194 bytes in all".
abbrev pub total_of : ℕ → ℕ → ℕ
total_of type size = pick (leb type_data type && eqb size 0) 8194 (max 2 size)

-- the header of a held message
abbrev pub header_in : List ℕ → ℕ
header_in held = field 0 2 held

-- the total that a header announces, and the first two bytes of a message
abbrev pub announced_by : ℕ → ℕ
announced_by header = total_of (type_in header) (length_in header)

abbrev pub announced : List ℕ → ℕ
announced held = announced_by (header_in held)

-- "all is zero between messages"
abbrev pub between : Store
between = record { held = replicate 64 0; taken = 0 }

-- "The box keeps the first 64 bytes of an unfinished message and how many were taken": one byte more. (`set` leaves a
-- list as it is where the place lies past its end.)
abbrev pub pushed : Store → ℕ → Store
pushed s b = record { held = set s.held s.taken b; taken = s.taken + 1 }

-- "A message is finished when its length is taken."
abbrev pub finished : Store → Bool
finished s = leb 2 s.taken && leb (announced s.held) s.taken

-- What one call takes of the host's bytes: the store after them, how many, and whether they finished the message.
pub record Taking : Type 0 where
  pub store : Store
  pub count : ℕ
  pub finished : Bool

-- What a call has taken when it stops after n bytes: the store, n, and whether the message is finished.
abbrev pub stopped : ℕ → Store → Taking
stopped n s = record { store = s; count = n; finished = finished s }

-- "One call takes a part of the host's bytes and consumes up to the end of one message, never past it." `taking n s bs`
-- has taken n bytes so far. (So of a message that is finished already it takes nothing.)
unfoldable pub taking : ℕ → Store → List ℕ → Taking
taking n s [] = stopped n s
taking n s (b ∷ bs) = pick (finished s) (stopped n s) (taking (n + 1) (pushed s b) bs)

abbrev pub call_takes : Store → List ℕ → Taking
call_takes s host = taking 0 s host

-- The store that a message's first bytes leave.
abbrev pub pushed_all : Store → List ℕ → Store
pushed_all s [] = s
pushed_all s (b ∷ bs) = pushed_all (pushed s b) bs

-- no prefix of these bytes, taken one by one, finishes the message
abbrev pub unfinished_all : Store → List ℕ → Type 0
unfinished_all s [] = Unit {0}
unfinished_all s (b ∷ bs) = (finished (pushed s b) ≡ false) × unfinished_all (pushed s b) bs

-- "Its unfinished message must also be one that some bytes could have left."
pub record Left (s : Store) : Type 0 where
  pub message : List ℕ
  pub are_bytes : all_bytes message
  pub unfinished : unfinished_all between message
  pub leaves : pushed_all between message ≡ s

-- all of the list is zero
abbrev pub zeros : List ℕ → Bool
zeros [] = true
zeros (b ∷ bs) = eqb b 0 && zeros bs

-- The same as a test: there are 64 places, those not taken are zero, and the message is not finished.
unfoldable pub could_be_left : Store → Bool
could_be_left s = eqb (length s.held) 64 && zeros (drop s.taken s.held) && not (finished s)
