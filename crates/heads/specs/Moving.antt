-- Moving a head to another version (02, No. 9), and what is proved of it.
use Rattle.std.specs.Prelude.{ℕ, ◌≤◌, ◌≡◌, ◌⊎◌, ◌↔◌, Bool, false, ◌&&◌, not, List, [], ◌∷◌, ◌++◌, eqb, ltb, take}
use Rattle.wire.specs.Choice.{Check, check, first_of}
use Rattle.wire.specs.Codes.{others_write}
use Rattle.wire.specs.Codes as Code
use Rattle.wire.specs.Lists.{all_bytes}
use Rattle.heads.specs.declared.Head.{Head}
use Rattle.heads.specs.Head.{unknown, nominal, head_length, version_in, head_in, bare, head_bytes}
use Rattle.heads.specs.Head.{head_read_checks, head_read_code, head_reading_of}

-- "Old heads move to version 2 with unknown serial and 80,000,000", which is what `head_in` has for them. "A head already there is
-- returned as it is." So a head that moves says the same as before, in another version.
abbrev pub moved_to : ℕ → Head → Head
moved_to v h =
    record {
      version = v;
      divisor = h.divisor;
      frequency = h.frequency;
      mode = h.mode;
      size = h.size;
      serial = h.serial;
      clock = h.clock;
    }

-- "Moving back is allowed only from such a head": one with unknown serial and 80,000,000
abbrev pub loses : ℕ → Head → Bool
loses v h = eqb v 1 && not (bare h)

-- "Refusals: 42, going back would lose the serial or the clock", and then 20: the version to which a head moves, the head, and the
-- length of the lent slice
abbrev pub moved_checks : ℕ → Head → ℕ → List Check
moved_checks v h room = check Code.would_lose (loses v h) ∷ check Code.no_room (ltb room (head_length v)) ∷ []

-- after those of reading the bytes given
abbrev pub moving_checks : ℕ → List ℕ → ℕ → List Check
moving_checks v s room = head_read_checks s ++ moved_checks v (head_in s) room

unfoldable pub moving_code : ℕ → List ℕ → ℕ → ℕ
moving_code v s room = first_of (moving_checks v s room) Code.done

-- the bytes of the head that bytes begin with, in another version
abbrev pub moved_bytes : ℕ → List ℕ → List ℕ
moved_bytes v s = head_bytes (moved_to v (head_in s))

-- what is written at the start of the lent slice: these or nothing, by the table of codes
abbrev pub move_writes : ℕ → List ℕ → ℕ → List ℕ
move_writes v s room = others_write (moving_code v s room) (moved_bytes v s)

-- ---- what is proved of it: proofs/Moves. That each code is given exactly on its condition, 40, 41, 42 and 20, says demands/specs/Given.

-- Bytes that are read as a head of a version.
pub record IsHead (v : ℕ) (s : List ℕ) : Type 0 where
  pub are_bytes : all_bytes s
  pub read : head_read_code s ≡ Code.done
  pub version : version_in s ≡ v

-- moving the head that s begins with to a version is not refused, wherever there is room, and writes t
abbrev pub MovesInto : ℕ → List ℕ → List ℕ → Type 0
MovesInto v s t =
    (room : ℕ) → head_length v ≤ room → (moving_code v s room ≡ Code.done) × (move_writes v s room ≡ t)

-- The head of version v that s begins with, moved to version w: whatever follows it there, it is read as the same head in that version,
-- and moved back it is the same bytes.
pub record ThereAndBack (v w : ℕ) (s : List ℕ) : Type 0 where
  pub there : MovesInto w s (moved_bytes w s)
  pub reads : (rest : List ℕ) → head_reading_of (moved_bytes w s ++ rest) ≡ record { code = Code.done; heads = moved_to w (head_in s) ∷ [] }
  pub back : (rest : List ℕ) → MovesInto v (moved_bytes w s ++ rest) (take (head_length v) s)

-- "Old heads move to version 2 with unknown serial and 80,000,000", and "old to new to old is the same 14 bytes"
abbrev pub OldNewOld : Type 0
OldNewOld = (s : List ℕ) → IsHead 1 s → ThereAndBack 1 2 s × ((head_in s).serial ≡ unknown) × ((head_in s).clock ≡ nominal)

-- and where going back is not refused, new to old to new is the same 26
abbrev pub NewOldNew : Type 0
NewOldNew = (s : List ℕ) → IsHead 2 s → loses 1 (head_in s) ≡ false → ThereAndBack 2 1 s

-- "A head already there is returned as it is."
abbrev pub AlreadyThere : Type 0
AlreadyThere = (v : ℕ) (s : List ℕ) → IsHead v s → MovesInto v s (take (head_length v) s)

-- 42 exactly where the bytes are read as a head whose serial is known, or whose clock is not 80,000,000; there is none such of
-- version 1, and moving to version 2 is never 42.
pub record WouldLoseExactly : Type 0 where
  pub back : (s : List ℕ) (room : ℕ)
      → (moving_code 1 s room ≡ Code.would_lose)
      ↔ ((head_read_code s ≡ Code.done) × (((head_in s).serial ≡ unknown → ⊥) ⊎ ((head_in s).clock ≡ nominal → ⊥)))
  pub from_version2 : (s : List ℕ) (room : ℕ) → moving_code 1 s room ≡ Code.would_lose → version_in s ≡ 2
  pub never_on : (s : List ℕ) (room : ℕ) → moving_code 2 s room ≡ Code.would_lose → ⊥
