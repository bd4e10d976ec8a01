-- A set leaves what every item shows that it does not touch. What is to be shown of an item is shown of each line of the table, and
-- holds of the line that a message names.
-- Assumes nothing.
use Prim.Native.Nat.{ℕ}
use mathlib.Core.Path.{◌≡◌, refl, ap}
use mathlib.Core.Bool.{true, false, ◌&&◌, ◌||◌}
use mathlib.Core.List.{List}
use lib.Dec.{eqb}
use lib.ListN.{get_or}
use Rattle.wire.proofs.Laws.{true_not_false, or_neither}
use Rattle.wire.specs.Number.{bytes, field}
use Rattle.items.specs.declared.Settings.{Settings}
use Rattle.items.specs.declared.Channel.{Channel}
use Rattle.items.specs.Settings.{with_running, with_count, with_mode, tuned_to, gained_to}
use Rattle.items.specs.Items.{Item, items, row_of, run_byte, mode_byte, state, channel_setup, frequency, gain, clock, rate, packet_size}
use Rattle.items.specs.Touching.{OthersUnchanged, naming, touches}
use Rattle.items.proofs.Channels.{channel_left, channel_keeps, either_keeps}
use Rattle.items.proofs.States.{state_ways}
use Rattle.items.proofs.Rows.{Each, ◌then◌, found_at}

-- where a test both holds and fails, anything does
no_such : {X : Type 0} (x y : X) → true ≡ false → x ≡ y
no_such x y e = absurd (true_not_false e)

-- what an item shows beside these parameters is the same in both settings
abbrev pub Same : Item → List ℕ → Settings → Settings → Type 0
Same b q s t = b.rule.value t q ≡ b.rule.value s q

-- a set of the item `a`, whose code is `i`, leaves what the item `b`, whose code is `j`, shows, where it does not touch it
abbrev Leave : ℕ → Item → ℕ → Item → Type 0
Leave i a j b = (s : Settings) (p q : List ℕ) → touches s.setup (naming i p) (naming j q) ≡ false → Same b q s (a.rule.stored s p)

abbrev Leaves : ℕ → Item → Type 0
Leaves i a = (j : ℕ) → Leave i a j (row_of j)

-- so it does if it leaves each line of the table
leaves_each : (i : ℕ) (a : Item) → Each (Leave i a) items → Leaves i a
leaves_each i a = found_at (Leave i a) (λ j s p q t. refl)

-- The state: an item that shows the same once the box is idle and once it runs, whatever the mode and the count.
abbrev Steady : Item → Type 0
Steady b =
    ((s : Settings) (q : List ℕ) → Same b q s (with_running false s))
    × ((s : Settings) (mode : ℕ) (q : List ℕ) → Same b q s (with_count 0 (with_mode mode (with_running true s))))

steady : (j : ℕ) → (eqb 0x0018 j && true) || (true && eqb j 0x0005) ≡ false → Steady (row_of j)
steady =
    found_at (λ j b. (eqb 0x0018 j && true) || (true && eqb j 0x0005) ≡ false → Steady b)
    (λ j t. ((λ s q. refl), (λ s mode q. refl))) (search no_such depth 30)

state_leaves : Leaves 0x0018 state
unfolding row_of
state_leaves j s p q t =
    let h = steady j t in
    state_ways (Same (row_of j) q s) (run_byte p) (mode_byte p) s (λ i. h.0 s q) (λ i w. refl) (λ i w. h.1 s (mode_byte p) q)

-- Frequency and gain: neither changes the other, and neither the channel that it does not cover. A clock changes neither.
frequency_leaves_its_own : Leave 0x0020 frequency 0x0020 frequency
unfolding row_of
frequency_leaves_its_own s p q t =
    ap (λ (c : Channel). bytes 5 c.frequency)
    (channel_left s (get_or p 0 0) (get_or q 0 0) (tuned_to (field 1 5 p) s.clock) (or_neither _ _ t).0)

frequency_leaves_the_gain : Leave 0x0020 frequency 0x0038 gain
frequency_leaves_the_gain s p q t =
    ap (bytes 1) (channel_keeps s (get_or p 0 0) (get_or q 0 0) (tuned_to (field 1 5 p) s.clock) (λ c. c.gain) (λ c. refl))

gain_leaves_its_own : Leave 0x0038 gain 0x0038 gain
unfolding row_of
gain_leaves_its_own s p q t =
    ap (λ (c : Channel). bytes 1 c.gain)
    (channel_left s (get_or p 0 0) (get_or q 0 0) (gained_to (get_or p 1 0)) (or_neither _ _ t).0)

gain_leaves_the_frequency : Leave 0x0038 gain 0x0020 frequency
gain_leaves_the_frequency s p q t =
    ap (bytes 5) (channel_keeps s (get_or p 0 0) (get_or q 0 0) (gained_to (get_or p 1 0)) (λ c. c.frequency) (λ c. refl))

clock_leaves_the_frequency : Leave 0x00B0 clock 0x0020 frequency
clock_leaves_the_frequency s p q t = ap (bytes 5) (either_keeps s (clock.rule.stored s p) (get_or q 0 0) (λ c. c.frequency) refl refl)

clock_leaves_the_gain : Leave 0x00B0 clock 0x0038 gain
clock_leaves_the_gain s p q t = ap (bytes 1) (either_keeps s (clock.rule.stored s p) (get_or q 0 0) (λ c. c.gain) refl refl)

-- The table of pairs: what an item that is not touched shows of the settings stored computes to what it shows of those
-- before. The first five items are never set.
leave : Each Leaves items
unfolding row_of
leave =
    (λ j s p q t. refl)
    then (λ j s p q t. refl)
    then (λ j s p q t. refl)
    then (λ j s p q t. refl)
    then (λ j s p q t. refl)
    then state_leaves
    then (leaves_each 0x0019 channel_setup (search no_such depth 30))
    then (leaves_each 0x0020 frequency (search (no_such, frequency_leaves_its_own, frequency_leaves_the_gain) depth 30))
    then (leaves_each 0x0038 gain (search (no_such, gain_leaves_its_own, gain_leaves_the_frequency) depth 30))
    then (leaves_each 0x00B0 clock (search (no_such, clock_leaves_the_frequency, clock_leaves_the_gain) depth 30))
    then (leaves_each 0x00B8 rate (search no_such depth 30))
    then (leaves_each 0x00C4 packet_size (search no_such depth 30))
    then tt

pub others_unchanged : OthersUnchanged
others_unchanged a b s p q t = found_at Leaves (λ i j s p q t. refl) leave a b s p q t
