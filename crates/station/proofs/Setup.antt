-- 0019's value: only an accepted set of 0019 changes it, and no message does so while the box is running.
-- Assumes nothing.
use Prim.Native.Nat.{ℕ}
use mathlib.Core.Path.{◌≡◌, refl}
use mathlib.Core.Bool.{true, false}
use mathlib.Core.List.{List}
use lib.Dec.{eqb}
use borrow.Author.Tests.{eqb-true}
use Rattle.wire.specs.Header.{type_set}
use Rattle.wire.proofs.Laws.{true_not_false, by_test}
use Rattle.items.specs.declared.Settings.{Settings}
use Rattle.items.specs.Items.{Item, items, channel_setup, run_byte, mode_byte, row_of}
use Rattle.items.specs.Answer.{Message, item_in, parameters, code_of, settings_after}
use Rattle.items.proofs.Rows.{Each, ◌then◌, found_at}
use Rattle.items.proofs.Judging.{is_free, after_ways}
use Rattle.items.proofs.States.{state_ways}

-- a set of any other item leaves it
abbrev Leaves : ℕ → Item → Type 0
Leaves code i = eqb code channel_setup.code ≡ false → (s : Settings) (p : List ℕ) → (i.rule.stored s p).setup ≡ s.setup

leave : Each Leaves items
leave =
    (λ e s p. refl)
    then (λ e s p. refl)
    then (λ e s p. refl)
    then (λ e s p. refl)
    then (λ e s p. refl)
    then (λ e s p. state_ways (λ t. t.setup ≡ s.setup) (run_byte p) (mode_byte p) s (λ i. refl) (λ i w. refl) (λ i w. refl))
    then (λ e s p. absurd (true_not_false e))
    then (λ e s p. refl)
    then (λ e s p. refl)
    then (λ e s p. refl)
    then (λ e s p. refl)
    then (λ e s p. refl)
    then tt

pub setup_left : (s : Settings) (m : Message) → (code_of s m ≡ 1 → m.type ≡ type_set → eqb (item_in m) channel_setup.code ≡ false)
    → (settings_after s m).setup ≡ s.setup
setup_left s m other =
    after_ways (λ t. t.setup ≡ s.setup) s m
    (λ e kind. found_at Leaves (λ code e s p. refl) leave (item_in m) (other e kind) s (parameters m)) refl

-- "setting it while running is 17"
pub running_setup : (s : Settings) (m : Message) → s.running ≡ true → (settings_after s m).setup ≡ s.setup
unfolding row_of
running_setup s m runs = setup_left s m (λ e kind. by_test (eqb (item_in m) channel_setup.code) (refused e kind) (λ other. other))
  where
    refused : code_of s m ≡ 1 → m.type ≡ type_set → eqb (item_in m) channel_setup.code ≡ true → eqb (item_in m) channel_setup.code ≡ false
    refused e kind is =
        let free = is_free s m e in
        absurd (true_not_false (rw (kind, runs, eqb-true (item_in m) channel_setup.code is) at free))
