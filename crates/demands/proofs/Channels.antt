-- The second tuning channel, of the box: what FF sets, what channel 02 retains, and when it is 15.
-- Assumes nothing.
use Prim.Native.Nat.{ℕ}
use mathlib.Core.Path.{◌≡◌, refl, sym, ap, ◌∙◌}
use mathlib.Core.Bool.{Bool, true, false, ◌||◌, not}
use mathlib.Core.List.{List, [], ◌∷◌, ◌++◌}
use native.Mathlib.Omega.{arith}
use lib.Dec.{eqb}
use lib.ListN.{get_or}
use borrow.Author.Tests.{eqb-true, eq-eqb, ne_eqb}
use Rattle.wire.specs.Choice.{pick, one_of, first_of}
use Rattle.wire.specs.Header.{type_set}
use Rattle.wire.specs.Number.{field}
use Rattle.wire.proofs.Laws.{true_not_false, by_or}
use Rattle.items.specs.declared.Channel.{Channel}
use Rattle.items.specs.declared.Settings.{Settings}
use Rattle.items.specs.Settings.{single, dual, covers, with_setup, on_channels, tuned_to, gained_to}
use Rattle.items.specs.Items.{a_channel, Item, items, run_byte, mode_byte, row_of}
use Rattle.items.specs.Header.{header_checks}
use Rattle.items.specs.Table.{table_checks}
use Rattle.items.specs.Answer.{Message, item_in, row, parameters, channel_allowed, value_allowed, refused_running}
use Rattle.items.specs.Answer.{covers_asked, code_of, settings_after}
use Rattle.items.proofs.Rows.{all_have, ◌then◌, found}
use Rattle.items.proofs.States.{state_ways}
use Rattle.items.proofs.Judging.{has_channel, after_ways, by_item}
use Rattle.station.proofs.Setup.{running_setup}
use Rattle.demands.specs.Shown.{of_channels}
use Rattle.demands.specs.Channels.{coverage, AllCovered, SetWith, AllSetsBoth, AllSetsFirstOnly, SecondRetained, SetupAlone}
use Rattle.demands.specs.Channels.{SetupStaysWhileRunning, SecondClosedExactly}
use Rattle.demands.proofs.Shown.{has_value_set}

pub covered_so : AllCovered coverage
covered_so = search depth 20

-- ---- sets with FF

module _ (s : Settings) (m : Message) (set : SetWith 0xFF s m) where
  -- what the set covers of a channel's item
  covers_all : (asked : ℕ) → covers s.setup 0xFF (pick (eqb asked 0x02) 0x02 0x00) ≡ true
      → covers_asked s.setup (row m).echoed (get_or (parameters m) 0 0) asked ≡ true
  covers_all asked h = rw (set.of_channel, set.has) h

pub all_sets_both : AllSetsBoth
all_sets_both s m two set held q either =
    has_value_set s m set.accepted set.is_set held q (covers_all s m set (get_or q 0 0) (rw two (go (eqb (get_or q 0 0) 0x02))))
  where
    go : (second : Bool) → covers dual 0xFF (pick second 0x02 0x00) ≡ true
    go true = refl
    go false = refl

-- ---- what channel 02 retains

-- with 0 no byte that is allowed covers channel 02
second_uncovered : (byte : ℕ) → channel_allowed single a_channel type_set byte ≡ true → covers single byte 0x02 ≡ false
second_uncovered byte allowed =
    by_or (eqb byte 0xFF) (eqb byte 0x00 || false) (λ all. rw (eqb-true byte 0xFF all) refl)
    (λ first. by_or (eqb byte 0x00) false (λ zero. rw (eqb-true byte 0x00 zero) refl) (λ no. absurd (true_not_false (sym no))) first)
    allowed

-- What of channel 02 a set leaves that is allowed with its channel byte, where 0019 is 0: frequency and gain; and all of it, where the
-- item is a channel's.
record Retained (i : Item) (s : Settings) (after : Settings) : Type 0 where
  frequency : after.second.frequency ≡ s.second.frequency
  gain : after.second.gain ≡ s.second.gain
  all : i.echoed ≡ a_channel → after.second ≡ s.second

abbrev Retains : Item → Type 0
Retains i =
    (s : Settings) (p : List ℕ) → s.setup ≡ single → channel_allowed single i.echoed type_set (get_or p 0 0) ≡ true
    → Retained i s (i.rule.stored s p)

-- a set that does not look at channel 02
untouched : {i : Item} {s after : Settings} → after.second ≡ s.second → Retained i s after
untouched same =
    record {
      frequency = ap (λ (c : Channel). c.frequency) same;
      gain = ap (λ (c : Channel). c.gain) same;
      all = λ e. same;
    }

-- a set of a channel's item
channel_retained : {i : Item} (s : Settings) (byte : ℕ) (change : Channel → Channel) → s.setup ≡ single
    → channel_allowed single a_channel type_set byte ≡ true → Retained i s (on_channels byte change s)
channel_retained s byte change one allowed = untouched (rw (one, second_uncovered byte allowed) refl)

items_retain : all_have Retains items
items_retain =
    (λ s p one allowed. untouched refl)
    then (λ s p one allowed. untouched refl)
    then (λ s p one allowed. untouched refl)
    then (λ s p one allowed. untouched refl)
    then (λ s p one allowed. untouched refl)
    then (λ s p one allowed.
    untouched (state_ways (λ t. t.second ≡ s.second) (run_byte p) (mode_byte p) s (λ i. refl) (λ i w. refl) (λ i w. refl)))
    then (λ s p one allowed. untouched refl)
    then (λ s p one allowed. channel_retained s (get_or p 0 0) (tuned_to (field 1 5 p) s.clock) one allowed)
    then (λ s p one allowed. channel_retained s (get_or p 0 0) (gained_to (get_or p 1 0)) one allowed)
    then (λ s p one allowed. record { frequency = refl; gain = refl; all = λ e. absurd (true_not_false (sym (ap of_channels e))) })
    then (λ s p one allowed. untouched refl)
    then (λ s p one allowed. untouched refl)
    then tt

-- so does every message
message_retains : (s : Settings) (m : Message) → s.setup ≡ single → Retained (row m) s (settings_after s m)
message_retains s m one =
    after_ways (Retained (row m) s) s m
    (λ e kind.
    found Retains (λ s p one allowed. untouched refl) items_retain (item_in m) s (parameters m) one (rw (kind, one) at (has_channel s m e)))
    (untouched refl)

pub second_retained : SecondRetained
second_retained s m one = ((message_retains s m one).frequency, (message_retains s m one).gain)

pub all_sets_first_only : AllSetsFirstOnly
all_sets_first_only s m one set held = (
  λ q first. has_value_set s m set.accepted set.is_set held q (covers_all s m set (get_or q 0 0) (rw (one, first) refl)),
  (message_retains s m one).all set.of_channel,
)

pub setup_alone : SetupAlone
unfolding row_of
setup_alone s m is = after_ways (λ t. with_setup s.setup t ≡ s) s m (λ e kind. rw is refl) refl

pub setup_stays_while_running : SetupStaysWhileRunning
setup_stays_while_running = running_setup

-- ---- 15

-- whether channel 02 is open, of any kind
second_open : (setup kind : ℕ) → channel_allowed setup a_channel kind 0x02 ≡ eqb setup dual
second_open setup kind = go (eqb kind type_set) (eqb setup dual)
  where
    go : (set two : Bool) → one_of 0x02 (pick set (0xFF ∷ []) [] ++ pick two (0x00 ∷ 0x02 ∷ []) (0x00 ∷ [])) ≡ two
    go true true = refl
    go true false = refl
    go false true = refl
    go false false = refl

-- a code that is not 15 where the channel is allowed
not_fifteen : (value running : Bool) → ◌≡◌ {A = ℕ} (pick value 16 (pick running 17 1)) 15 → ⊥
not_fifteen true running e = omega arith
not_fifteen false true e = omega arith
not_fifteen false false e = omega arith

module _ (s : Settings) (m : Message) where
  -- the checks behind that of the channel
  abbrev behind : ℕ
  behind =
      pick (not (value_allowed (row m) m.type (parameters m))) 16 (pick (refused_running (row m) m.type s (parameters m)) 17 1)

  second_code :
      first_of (header_checks m.type m.size (get_or m.bytes 2 0)) 1 ≡ 1 → first_of (table_checks (item_in m) m.type m.size) 1 ≡ 1
      → (row m).echoed ≡ a_channel → get_or (parameters m) 0 0 ≡ 0x02
      → code_of s m ≡ pick (not (eqb s.setup dual)) 15 behind
  second_code header table channel second =
      by_item s m header table ∙ rw (channel, second, second_open s.setup m.type) refl

pub second_closed_exactly : SecondClosedExactly
second_closed_exactly s m header table channel second =
    let code = second_code s m header table channel second in (
      λ fifteen two.
          not_fifteen (not (value_allowed (row m) m.type (parameters m))) (refused_running (row m) m.type s (parameters m))
          (sym (rw (eq-eqb s.setup dual two) at code) ∙ fifteen),
      λ other. rw (ne_eqb s.setup dual other) at code,
    )
