-- How much was lost (request No. 1 of 02): what the packet reader says of a capture, whatever it is handed.
use Rattle.std.specs.Prelude.{ℕ, ◌+◌, ◌≤◌, true, List, [], ◌∷◌, ◌≡◌, eqb, length}
use Rattle.wire.specs.Choice.{pick}
use Rattle.wire.specs.Codes as Code
use Rattle.packets.specs.Forms.{listed_form}
use Rattle.packets.specs.Channels.{is_count}
use Rattle.packets.specs.Numbers.{step_of, number_in, last}
use Rattle.packets.specs.Missed.{leads_to, steps_by, missed_over, StepsGive}
use Rattle.reader.specs.declared.Reader.{Reader}
use Rattle.reader.specs.Reading.{silent, sound, reading_code, unheard, reading_of, after_slices}

-- The numbers of the packets that a capture has had accepted, the last first: number 0 begins anew, and what is refused is passed
-- over.
abbrev pub with_slice : Reader → List ℕ → List ℕ → List ℕ
with_slice r numbers slice =
    pick (eqb (reading_code r slice) Code.done) (number_in slice ∷ pick (eqb (number_in slice) 0) [] numbers) numbers

abbrev pub numbers_after : Reader → List ℕ → List (List ℕ) → List ℕ
numbers_after r numbers [] = numbers
numbers_after r numbers (slice ∷ slices) = numbers_after (reading_of r slice).reader (with_slice r numbers slice) slices

abbrev pub numbers_heard : ℕ → List (List ℕ) → List ℕ
numbers_heard channels slices = numbers_after (silent channels) [] slices

-- "the list of steps": "From number s to number t"
abbrev pub steps_between : List ℕ → List ℕ
steps_between numbers = steps_by step_of numbers

-- "the capture's total. The total is defined from the list of steps": after any slices, from a silent reader on, whatever count it was
-- told, the total is that of the steps, and they lead to the position. (An accepted packet is answered with the total and the position
-- that the reader has after it.)
abbrev pub TotalIsOfTheSteps : Type 0
TotalIsOfTheSteps =
    (n : ℕ) (slices : List (List ℕ))
    → ((after_slices (silent n) slices).total ≡ missed_over (steps_between (numbers_heard n slices)))
    × ((after_slices (silent n) slices).position ≡ leads_to (steps_between (numbers_heard n slices)))

-- "heard plus missed equals positions covered"
abbrev pub HeardAndMissed : Type 0
HeardAndMissed =
    (n : ℕ) (slices : List (List ℕ)) → (after_slices (silent n) slices).heard ≡ true
    → length (numbers_heard n slices) + (after_slices (silent n) slices).total ≡ (after_slices (silent n) slices).position + 1

-- "A reader whose total no steps give is broken": 21, and the reader given
abbrev pub BrokenByItsTotal : Type 0
BrokenByItsTotal =
    (r : Reader) (packet : List ℕ) → r.heard ≡ true → (StepsGive r.position r.total → ⊥)
    → reading_of r packet ≡ unheard Code.broken r

-- and one that is not broken has steps that give its total,
abbrev pub SoundHasSteps : Type 0
SoundHasSteps = (r : Reader) → sound r ≡ true → r.heard ≡ true → StepsGive r.position r.total

-- and no other is broken for its total: with a count, and 01's position and form, steps that give it are enough
abbrev pub SoundBySteps : Type 0
SoundBySteps =
    (r : Reader) → is_count r.channels ≡ true → r.heard ≡ true → r.position ≤ last → listed_form r.form ≡ true
    → StepsGive r.position r.total → sound r ≡ true
