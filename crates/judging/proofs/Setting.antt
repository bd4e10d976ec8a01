-- A set of an item is decided by what its row asks.
use Prim.Native.Nat.{ℕ}
use mathlib.Core.Path.{◌≡◌, refl, ◌∙◌}
use mathlib.Core.Bool.{Bool, true, false, ◌&&◌}
use mathlib.Core.List.{List}
use lib.ListN.{get_or}
use borrow.Author.Tests.{ne_eqb}
use Rattle.wire.specs.Header.{type_set}
use Rattle.items.specs.declared.Settings.{Settings}
use Rattle.items.specs.Answer.{Judged}
use Rattle.items.specs.Items.{Item}
use Rattle.items.specs.Answer.{channel_allowed}
use Rattle.judging.specs.Inside.{set_code, decided, set_by}

-- what a set would leave counts only where it is obeyed, and so its value allowed
decided_alike : (s to other : Settings) (channel value locked : Bool) → (value ≡ true → to ≡ other)
    → decided s to (set_code channel value locked) ≡ decided s other (set_code channel value locked)
decided_alike s to other true true locked h = rw (h refl)
decided_alike s to other true false locked h = refl
decided_alike s to other false value locked h = refl

-- a set that is refused, and one that is obeyed
pub decided_refused : (s to : Settings) (code : ℕ) → (code ≡ 1 → ⊥) → record { code = code; settings = s } ≡ decided s to code
decided_refused s to code h = rw (ne_eqb code 1 h)

pub decided_accepted : (s to : Settings) (code : ℕ) → code ≡ 1 → record { code = 1; settings = to } ≡ decided s to code
decided_accepted s to code h = rw h

-- what a row asks of a set, and what was found
module _ (i : Item) (s : Settings) (p : List ℕ) {code : ℕ} {channel value locked : Bool}
    (coded : code ≡ set_code channel value locked)
    (channels : channel ≡ channel_allowed s.setup i.echoed type_set (get_or p 0 0))
    (values : value ≡ i.rule.settable p)
    (locks : locked ≡ (s.running && i.rule.locked s p)) where
  pub set_by_lem : {r : Judged} {to : Settings} → r ≡ decided s to code → (i.rule.settable p ≡ true → to ≡ i.rule.stored s p)
      → r ≡ set_by i s p
  set_by_lem {to = to} e stored =
      e
      ∙ rw (coded, channels, values, locks)
      (decided_alike s to (i.rule.stored s p) (channel_allowed s.setup i.echoed type_set (get_or p 0 0)) (i.rule.settable p)
      (s.running && i.rule.locked s p) stored)
