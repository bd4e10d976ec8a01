-- Demand 3 is not empty: there are captures of every length up to 4,000,000,000, of one channel and of two. A fresh box that a message of
-- the host starts cuts silence, packet after packet, until its count is the most.
use Prim.Native.Nat.{ℕ, zero, suc, ◌+◌, ◌≤◌, ◌<◌}
use mathlib.Core.Path.{◌≡◌, refl, sym, ap}
use mathlib.Core.Bool.{true}
use mathlib.Core.List.{List, [], ◌∷◌}
use native.Mathlib.Omega.{arith}
use borrow.Author.Tests.{le-leb}
use lib.Dec.{lit≤}
use lib.IntN.{ℤ, pos}
use lib.ListN.{length, replicate}
use Rattle.tuning.specs.Word.{word_of}
use Rattle.packets.specs.Numbers.{most}
use Rattle.items.specs.Settings.{single, dual, is_setup, in_range, fresh_of, with_count, with_setup, with_running}
use Rattle.items.specs.Items.{listed_item, row_of}
use Rattle.items.specs.Answer.{code_of, reply_of, settings_after}
use Rattle.framing.specs.Framing.{could_be_left, between, taking}
use Rattle.station.specs.declared.Station.{Station}
use Rattle.station.specs.Station.{valid, fresh_station}
use Rattle.station.specs.Feeding.{feeding_of}
use Rattle.cutting.specs.Cutting.{Cutting, cutting_of, cut_from}
use Rattle.cutting.proofs.Codes.{code_1, cuts as cut_done}
use Rattle.positions.specs.Captures.{Cuts, ends, cuts, Capture}

-- a running box of serial 00000000 with a channel setup that has cut k packets
abbrev pub running : ℕ → ℕ → Station
running setup k =
    record { settings = with_count k (with_running true (with_setup setup (fresh_of (replicate 8 0x30)))); store = between }

-- the samples of a large packet of 24 bits
abbrev silence : List ℤ
silence = replicate 480 (pos 0)

running_valid : (setup k : ℕ) → is_setup setup ≡ true → k ≤ most → valid (running setup k) ≡ true
unfolding valid in_range could_be_left word_of
running_valid setup k is h = rw (le-leb k most h, is)

module _ (setup : ℕ) (is : is_setup setup ≡ true) where
  running_cuts : (k : ℕ) → k < most → cutting_of (running setup k) silence 1_444 ≡ cut_from (running setup k) silence
  running_cuts k h =
      let fine = running_valid setup k is (omega arith) in
      sym (cut_done (running setup k) silence 1_444 (code_1 (running setup k) silence 1_444 fine refl h refl refl (lit≤ tt)))

  -- from k packets on, n more
  goes_on_lem : (n k : ℕ) → k + n ≤ most → (packets : List (List ℕ)) × Cuts (running setup k) packets × (length packets ≡ n)
  goes_on_lem zero k h = ([], ends, refl)
  goes_on_lem (suc n) k h =
      let is = running_cuts k (omega arith) in
      let rest = goes_on_lem n (k + 1) (omega arith) in
      let later : Cuts (cutting_of (running setup k) silence 1_444).cut.station rest.0 = rw is rest.1 in (
        (cutting_of (running setup k) silence 1_444).bytes ∷ rest.0,
        cuts silence 1_444 (ap (λ (x : Cutting). x.cut.code) is) later,
        ap suc rest.2,
      )

  pub captures_exist : (n : ℕ) → n ≤ most → (packets : List (List ℕ)) × Capture (running setup 0) packets × (length packets ≡ n)
  captures_exist n h =
      let all = goes_on_lem n 0 (omega arith) in
      (all.0, record { running = refl; fresh = refl; calls = all.1 }, all.2)

-- the host's message "run" at 24 bits
abbrev pub run_message : List ℕ
run_message = 0x08 ∷ 0x00 ∷ 0x18 ∷ 0x00 ∷ 0x80 ∷ 0x02 ∷ 0x80 ∷ 0x00 ∷ []

-- makes the box of no packets from a fresh one
pub starts_running : (feeding_of (fresh_station (replicate 8 0x30)) run_message 64).fed.station ≡ running single 0
unfolding feeding_of valid in_range could_be_left taking listed_item row_of code_of reply_of settings_after word_of
starts_running = refl

-- and after the message that sets 0019 to 4, that of two channels
abbrev pub dual_message : List ℕ
dual_message = 0x05 ∷ 0x00 ∷ 0x19 ∷ 0x00 ∷ 0x04 ∷ []

pub starts_dual : (feeding_of (feeding_of (fresh_station (replicate 8 0x30)) dual_message 64).fed.station run_message 64).fed.station
    ≡ running dual 0
unfolding feeding_of valid in_range could_be_left taking listed_item row_of code_of reply_of settings_after word_of
starts_dual = refl
