-- What becomes of the packets of one capture on their way, and what the harvester makes of those that arrive.
use Rattle.std.specs.Prelude.{ℕ, ◌+◌, ◌<◌, List, [], ◌∷◌}
use Rattle.reader.specs.declared.Reader.{Reader}
use Rattle.reader.specs.Answers.{Heard}

-- a packet arrives, or it is lost
pub data Fate : Type 0 where
  arrives : Fate
  lost : Fate

-- What of a list arrives by a choice of fates: "once each and in order".
abbrev pub arriving : {A : Type 0} → List Fate → List A → List A
arriving [] xs = []
arriving (arrives ∷ fs) [] = []
arriving (arrives ∷ fs) (x ∷ xs) = x ∷ arriving fs xs
arriving (lost ∷ fs) [] = []
arriving (lost ∷ fs) (x ∷ xs) = arriving fs xs

-- "fewer than 65,535 between two that arrive": k have been lost since the last that arrived. After the last that arrives
-- any number may be lost.
abbrev pub bounded : ℕ → List Fate → Type 0
bounded k [] = Unit {0}
bounded k (arrives ∷ fs) = (k < 65_535) × bounded 0 fs
bounded k (lost ∷ fs) = bounded (k + 1) fs

-- A choice of what is lost: "not the first, fewer than 65,535 between two that arrive".
abbrev pub allowed_losses : List Fate → Type 0
allowed_losses [] = Unit {0}
allowed_losses (arrives ∷ fs) = bounded 0 fs
allowed_losses (lost ∷ fs) = ⊥

-- the positions n, n + 1, .. of as many packets as the list has
abbrev pub positions_from : {A : Type 0} → ℕ → List A → List ℕ
positions_from n [] = []
positions_from n (x ∷ xs) = n ∷ positions_from (n + 1) xs

-- A way to read: what one packet makes a reader answer. The harvester's own is `reading_of`.
abbrev pub WayToRead : Type 0
WayToRead = Reader → List ℕ → Heard

-- what it answers to packet after packet
abbrev pub answers_by : WayToRead → Reader → List (List ℕ) → List Heard
answers_by read r [] = []
answers_by read r (p ∷ ps) = read r p ∷ answers_by read (read r p).reader ps
