-- Capture heads, over the door.
use Rattle.std.specs.Prelude.{ℕ, List, [], ◌∷◌}
use Rattle.heads.specs.declared.Head.{Head}
use Rattle.heads.specs.Head.{HeadReading, head_reading_of}

-- what reading a head answers: the code, and the head, or zeros in the place of one that was not found
pub record Found : Type 0 where
  pub code : ℕ
  pub head : Head

-- the head of seven values
abbrev pub head_with : ℕ → ℕ → ℕ → ℕ → ℕ → ℕ → ℕ → Head
head_with version divisor frequency mode size serial clock =
    record {
      version = version;
      divisor = divisor;
      frequency = frequency;
      mode = mode;
      size = size;
      serial = serial;
      clock = clock;
    }

abbrev pub no_head : Head
no_head = head_with 0 0 0 0 0 0 0

abbrev pub first_head : List Head → Head
first_head [] = no_head
first_head (h ∷ hs) = h

abbrev pub found : HeadReading → Found
found r = record { code = r.code; head = first_head r.heads }

abbrev pub found_in : List ℕ → Found
found_in bytes = found (head_reading_of bytes)
