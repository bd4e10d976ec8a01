-- How much was lost (request No. 1 of document 02): the steps from one packet that was heard to the next, and what they pass over.
use Rattle.std.specs.Prelude.{ℕ, ◌+◌, ◌*◌, ◌-◌, ◌≤◌, ◌≡◌, Bool, ◌&&◌, List, [], ◌∷◌, leb}

-- A step is 1 to 65,535: by it the position of the packet heard next lies above that of the one before.
abbrev pub is_step : ℕ → Type 0
is_step step = (1 ≤ step) × (step ≤ 65_535)

abbrev pub are_steps : List ℕ → Type 0
are_steps [] = Unit {0}
are_steps (step ∷ steps) = is_step step × are_steps steps

-- the position to which steps lead from position 0, where a capture starts
abbrev pub leads_to : List ℕ → ℕ
leads_to [] = 0
leads_to (step ∷ steps) = step + leads_to steps

-- "the list of steps", from each packet that was heard to the one heard next, the last first: by what is known of the packets, and how
-- it tells the step from one to another
abbrev pub steps_by : (ℕ → ℕ → ℕ) → List ℕ → List ℕ
steps_by step [] = []
steps_by step (start ∷ []) = []
steps_by step (next ∷ (before ∷ earlier)) = step before next ∷ steps_by step (before ∷ earlier)

-- "how many were missed just before this packet (step less one ..)"
abbrev pub missed_in : ℕ → ℕ
missed_in step = step - 1

-- ".. and the capture's total. The total is defined from the list of steps"
abbrev pub missed_over : List ℕ → ℕ
missed_over [] = 0
missed_over (step ∷ steps) = missed_in step + missed_over steps

-- "heard plus missed equals positions covered": by the packets heard and the last position
abbrev pub missed_of : ℕ → ℕ → ℕ
missed_of heard last = last + 1 - heard

-- steps lead to the position and give the total: "A reader whose total no steps give is broken."
pub record StepsGive (position total : ℕ) : Type 0 where
  pub steps : List ℕ
  pub allowed : are_steps steps
  pub leads : leads_to steps ≡ position
  pub misses : missed_over steps ≡ total

-- The same as a test (proofs/Missed: `steps_tested`, `tested_steps`). Each step passes over one packet less than it leads on, so
-- there are position less total of them; and so many lead at most 65,535 times as far.
unfoldable pub steps_give : ℕ → ℕ → Bool
steps_give position total = leb total position && leb position (65_535 * (position - total))
