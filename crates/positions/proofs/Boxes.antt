-- A running box within one capture: what feeding leaves running keeps mode, size, count and channels. A box that feeding starts has cut
-- nothing.
use Prim.Native.Nat.{ℕ}
use mathlib.Core.Path.{◌≡◌, refl, sym, ◌∙◌}
use mathlib.Core.Bool.{true, false, ◌&&◌}
use mathlib.Core.List.{List}
use borrow.Author.Tests.{eq-eqb}
use lib.Dec.{eqb}
use Rattle.wire.specs.Header.{type_set}
use Rattle.wire.proofs.Laws.{never, and_both, and_rest}
use Rattle.packets.specs.declared.Form.{Form}
use Rattle.framing.specs.Framing.{call_takes}
use Rattle.items.specs.declared.Settings.{Settings}
use Rattle.items.specs.Settings.{channels_of}
use Rattle.items.specs.Items.{Item, row_of, state, run_byte, mode_byte}
use Rattle.items.specs.Answer.{Message, code_of, settings_after, row, parameters, item_in}
use Rattle.items.proofs.Rows.{◌then◌, found}
use Rattle.items.proofs.Judging.{is_free, after_ways}
use Rattle.items.proofs.States.{state_ways}
use Rattle.station.specs.declared.Station.{Station}
use Rattle.station.specs.Feeding.{feeding_of, message_in}
use Rattle.station.proofs.Valid.{each_way}
use Rattle.cutting.specs.Cutting.{form_now}

-- What a running box cuts next: the position, the form, and of how many channels.
pub record Next : Type 0 where
  pub position : ℕ
  pub form : Form
  pub channels : ℕ

abbrev pub next_of : Settings → Next
next_of s = record { position = s.count; form = form_now s; channels = channels_of s }

-- an item's accepted set leaves it, where the box is running before and after the set
abbrev Leaves : Item → Type 0
Leaves i =
    (s : Settings) (p : List ℕ)
    → s.running ≡ true
    → i.rule.locked s p ≡ false
    → (i.rule.stored s p).running ≡ true
    → next_of (i.rule.stored s p) ≡ next_of s

-- an item's set that finds the box idle and leaves it running sets the count to 0
abbrev Starts : Item → Type 0
Starts i = (s : Settings) (p : List ℕ) → s.running ≡ false → (i.rule.stored s p).running ≡ true → (i.rule.stored s p).count ≡ 0

-- idle stops the box, and run while running changes nothing
state_leaves : Leaves state
state_leaves s p r l =
    state_ways (λ t. t.running ≡ true → next_of t ≡ next_of s) (run_byte p) (mode_byte p) s
    (λ i a. never a) (λ i on a. refl) (λ i off a. never (sym off ∙ r))

-- "Starting from idle sets the packet count to 0."
state_starts : Starts state
state_starts s p r =
    state_ways (λ t. t.running ≡ true → t.count ≡ 0) (run_byte p) (mode_byte p) s
    (λ i a. never a) (λ i on a. never (sym r ∙ on)) (λ i off a. refl)

-- name, serial, interface, versions and status; state; channel setup, which is locked; frequency, gain and clock; rate and packet size,
-- which are locked
rows_leave : (code : ℕ) → Leaves (row_of code)
rows_leave =
    found Leaves (λ s p r l a. refl)
    ((λ s p r l a. refl)
    then (λ s p r l a. refl)
    then (λ s p r l a. refl)
    then (λ s p r l a. refl)
    then (λ s p r l a. refl)
    then state_leaves
    then (λ s p r l a. never (sym l))
    then (λ s p r l a. refl)
    then (λ s p r l a. refl)
    then (λ s p r l a. refl)
    then (λ s p r l a. never (sym l))
    then (λ s p r l a. never (sym l))
    then tt)

-- all but the state keep an idle box idle
rows_start : (code : ℕ) → Starts (row_of code)
rows_start =
    found Starts (λ s p r a. never (sym r ∙ a))
    ((λ s p r a. never (sym r ∙ a))
    then (λ s p r a. never (sym r ∙ a))
    then (λ s p r a. never (sym r ∙ a))
    then (λ s p r a. never (sym r ∙ a))
    then (λ s p r a. never (sym r ∙ a))
    then state_starts
    then (λ s p r a. never (sym r ∙ a))
    then (λ s p r a. never (sym r ∙ a))
    then (λ s p r a. never (sym r ∙ a))
    then (λ s p r a. never (sym r ∙ a))
    then (λ s p r a. never (sym r ∙ a))
    then (λ s p r a. never (sym r ∙ a))
    then tt)

-- an accepted set was not locked
unlocked : (s : Settings) (m : Message) → code_of s m ≡ 1 → m.type ≡ type_set → s.running ≡ true
    → (row m).rule.locked s (parameters m) ≡ false
unlocked s m e t r =
    and_rest (eqb m.type type_set && s.running) ((row m).rule.locked s (parameters m)) (is_free s m e)
    (and_both (eqb m.type type_set) s.running (eq-eqb _ _ t) r)

-- one message
message_leaves : (s : Settings) (m : Message) → s.running ≡ true → (settings_after s m).running ≡ true
    → next_of (settings_after s m) ≡ next_of s
message_leaves s m r =
    after_ways (λ t. t.running ≡ true → next_of t ≡ next_of s) s m
    (λ e t. rows_leave (item_in m) s (parameters m) r (unlocked s m e t r)) (λ a. refl)

message_starts : (s : Settings) (m : Message) → s.running ≡ false → (settings_after s m).running ≡ true
    → (settings_after s m).count ≡ 0
message_starts s m r =
    after_ways (λ t. t.running ≡ true → t.count ≡ 0) s m (λ e t. rows_start (item_in m) s (parameters m) r) (λ a. never (sym r ∙ a))

-- what one call of feeding can leave: the settings given, or those after the message that it finished
fed_leaves : (P : Settings → Type 0) (s : Station) (host : List ℕ) (room : ℕ)
    → P s.settings
    → ((m : Message) → P (settings_after s.settings m))
    → P (feeding_of s host room).fed.station.settings
fed_leaves P s host room same after =
    each_way (λ f. P f.fed.station.settings) s host room (λ v. same) (λ v. same) (λ v f. same)
    (λ v f enough. after (message_in (call_takes s.store host).store))

-- a box that is running before a call of feeding and after it cuts next what it would have cut
pub feeding_leaves : (s : Station) (host : List ℕ) (room : ℕ)
    → s.settings.running ≡ true
    → (feeding_of s host room).fed.station.settings.running ≡ true
    → next_of (feeding_of s host room).fed.station.settings ≡ next_of s.settings
feeding_leaves s host room r =
    fed_leaves (λ t. t.running ≡ true → next_of t ≡ next_of s.settings) s host room (λ a. refl) (λ m. message_leaves s.settings m r)

-- a box that is idle before a call of feeding and running after it has cut nothing
pub feeding_starts : (s : Station) (host : List ℕ) (room : ℕ)
    → s.settings.running ≡ false
    → (feeding_of s host room).fed.station.settings.running ≡ true
    → (feeding_of s host room).fed.station.settings.count ≡ 0
feeding_starts s host room r =
    fed_leaves (λ t. t.running ≡ true → t.count ≡ 0) s host room (λ a. never (sym r ∙ a)) (λ m. message_starts s.settings m r)
