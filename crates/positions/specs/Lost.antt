-- How much was lost (request No. 1 of document 02), of one capture from the box. Demand 3 "read[s] as before"; this stands beside
-- it, under its premises: "packets lost (not the first, fewer than 65,535 between two that arrive), the rest once each and in order".
use Rattle.std.specs.Prelude.{ℕ, ◌+◌, true, List, [], ◌∷◌, map, ◌≡◌}
use Rattle.packets.specs.Channels.{is_count}
use Rattle.station.specs.declared.Station.{Station}
use Rattle.reader.specs.declared.Reader.{Reader}
use Rattle.reader.specs.Answers.{Heard}
use Rattle.reader.specs.Reading.{silent, sound, reading_of, after_slices}
use Rattle.positions.specs.Captures.{Capture}
use Rattle.positions.specs.Losses.{Fate, arrives, lost, arriving, allowed_losses, WayToRead, answers_by}

-- What was lost up to a packet: "just before this packet", and "the capture's total".
pub record Loss : Type 0 where
  pub before : ℕ
  pub in_all : ℕ

-- what a reading says of it: "how many were missed just before this packet .. and the capture's total"
abbrev pub loss_in : Heard → Loss
loss_in h = record { before = h.missed; in_all = h.total }

-- What was lost up to each packet that arrives: k have been lost since the last that arrived, and t in all.
abbrev pub losses_before : {A : Type 0} → ℕ → ℕ → List Fate → List A → List Loss
losses_before k t [] xs = []
losses_before k t (arrives ∷ fs) [] = []
losses_before k t (arrives ∷ fs) (x ∷ xs) = record { before = k; in_all = t } ∷ losses_before 0 t fs xs
losses_before k t (lost ∷ fs) [] = []
losses_before k t (lost ∷ fs) (x ∷ xs) = losses_before (k + 1) (t + 1) fs xs

-- "The packet reader shall also answer how many were missed just before this packet .. and the capture's total", of a way to
-- read, whichever it is, from a reader on: with each packet that arrives it says what was lost up to it.
abbrev pub CountsFrom : WayToRead → Reader → Type 0
CountsFrom read r =
    (s : Station) (packets : List (List ℕ)) → Capture s packets
    → (fates : List Fate) → allowed_losses fates
    → map loss_in (answers_by read r (arriving fates packets)) ≡ losses_before 0 0 fates packets

-- from any reader that is not broken
abbrev pub CountsLosses : WayToRead → Type 0
CountsLosses read = (r : Reader) → sound r ≡ true → CountsFrom read r

-- the same of the harvester
abbrev pub LossesCounted : Type 0
LossesCounted = CountsLosses reading_of

-- and whatever was heard before, of either count: what was lost is packets, so it is the same to a reader that was told the other
abbrev pub LossesCountedAfterAnything : Type 0
LossesCountedAfterAnything =
    (n : ℕ) → is_count n ≡ true → (before : List (List ℕ)) → CountsFrom reading_of (after_slices (silent n) before)
