-- What the functions inside promise each other: text that is stored at a place of a buffer, and how an end time is counted. Nothing
-- of document 01 rests on it; Texts, Dues and Times in proofs/ tie it to Lines and Due.
use Rattle.std.specs.Prelude.{ℕ, ◌+◌, ◌*◌, ◌/◌, ◌%◌, ◌≤◌, ◌≡◌, List, length}
use Rattle.std.proofs.lemmas.List.Edits.{sets}

-- Text stored at a place of a buffer: what the buffer is then, and the place after the text, which is no longer than it may be.
pub record Stored (most : ℕ) (before : List ℕ) (at : ℕ) (text after : List ℕ) (end : ℕ) : Type 0 where
  pub stored : after ≡ sets before at text
  pub ends : end ≡ at + length text
  pub short : end ≤ at + most

-- How the code counts an end time, since its product can have more than 64 bits: the whole seconds first, and then the microseconds of
-- the cycles that are left. A sample takes 4D cycles of the clock.
abbrev pub split_time : ℕ → ℕ → ℕ
split_time clock cycles = cycles / clock * 1_000_000 + cycles % clock * 1_000_000 / clock
