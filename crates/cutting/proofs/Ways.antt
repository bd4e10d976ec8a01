-- The ways that a call of cutting goes: it cuts the packet, and then all that the checks look at was in order, or it is refused.
-- Either way a valid box stays valid.
-- Assumes nothing.
use Prim.Native.Nat.{ℕ, ◌+◌, ◌*◌, ◌<◌}
use mathlib.Core.Path.{◌≡◌, refl}
use mathlib.Core.Bool.{true}
use mathlib.Core.List.{List}
use native.Mathlib.Omega.{arith}
use borrow.Author.Tests.{eqb-true, eqb-false, le-leb, leb-false, not-false}
use lib.Dec.{eqb, ltb}
use lib.IntN.{ℤ}
use lib.ListN.{length}
use Rattle.wire.proofs.Checks.{absent, given_has}
use Rattle.wire.proofs.Laws.{pick_keeps}
use Rattle.packets.specs.Numbers.{most}
use Rattle.packets.specs.Samples.{all_samples}
use Rattle.items.specs.declared.Settings.{Settings}
use Rattle.items.specs.Settings.{in_range, with_count}
use Rattle.station.specs.declared.Station.{Station}
use Rattle.station.specs.Station.{valid}
use Rattle.station.proofs.Kept.{ranges, in_range_lem, others_in}
use Rattle.station.proofs.Valid.{valid_settings, valid_store, valid_both}
use Rattle.cutting.specs.Cutting.{Cutting, form_now, cut_checks, cut_code, cut_from, refused, cutting_of}

module _ (P : Cutting → Type 0) (s : Station) (samples : List ℤ) (room : ℕ) where
  -- what holds of each way that it can go holds of the call
  pub each_cut :
      (cut_code s samples room ≡ 1 → P (cut_from s samples))
      → ((cut_code s samples room ≡ 1 → ⊥) → P (refused (cut_code s samples room) s))
      → P (cutting_of s samples room)
  unfolding cutting_of
  each_cut done other =
      pick_keeps P (eqb (cut_code s samples room) 1) (cut_from s samples) (refused (cut_code s samples room) s)
      (λ e. done (eqb-true (cut_code s samples room) 1 e)) (λ e. other (eqb-false (cut_code s samples room) 1 e))

-- What a cut that is not refused tells: the box is valid and running, the count below the most, the samples of the form's
-- number, and each of them a sample.
pub record Made (s : Station) (samples : List ℤ) : Type 0 where
  pub sound : valid s ≡ true
  pub running : s.settings.running ≡ true
  pub below : s.settings.count < most
  pub enough : length samples ≡ 2 * (form_now s.settings).pairs
  pub fits : all_samples samples ≡ true

pub made : (s : Station) (samples : List ℤ) (room : ℕ) → cut_code s samples room ≡ 1 → Made s samples
unfolding cut_code
made s samples room e =
    let clear = absent (cut_checks s samples room) 1 refl e in
    record {
      sound = not-false (valid s) clear.0;
      running = not-false s.settings.running clear.1.0;
      below = leb-false most s.settings.count clear.1.1.0;
      enough = eqb-true _ _ (not-false _ clear.1.1.1.0);
      fits = not-false (all_samples samples) clear.1.1.1.1.0;
    }

-- the answer of a cut whose code is 1
pub cut_is : (s : Station) (samples : List ℤ) (room : ℕ) → (cutting_of s samples room).cut.code ≡ 1
    → Made s samples × (cutting_of s samples room ≡ cut_from s samples)
cut_is s samples room =
    each_cut (λ (c : Cutting). c.cut.code ≡ 1 → Made s samples × (c ≡ cut_from s samples)) s samples room
    (λ e h. (made s samples room e, refl)) (λ n h. absurd (n h))

-- one packet more than a count below the most
counted : (s : Settings) → in_range s ≡ true → s.count < most → in_range (with_count (s.count + 1) s) ≡ true
counted s h less =
    let r = ranges s h in
    in_range_lem (with_count (s.count + 1) s)
    (others_in r (le-leb (s.count + 1) most (omega arith)) r.divisor r.size r.setup r.mode)

-- cutting from a valid box leaves a valid box
pub cutting_keeps : (s : Station) (samples : List ℤ) (room : ℕ) → valid s ≡ true → valid (cutting_of s samples room).cut.station ≡ true
cutting_keeps s samples room v =
    let settings = valid_settings s.settings s.store v in
    let store = valid_store s.settings s.store v in
    each_cut (λ (c : Cutting). valid c.cut.station ≡ true) s samples room
    (λ e.
    valid_both (with_count (s.settings.count + 1) s.settings) s.store
    (counted s.settings settings (made s samples room e).below) store)
    (λ n. v)

-- what a box holds of a message cutting leaves alone
pub cutting_holds : (s : Station) (samples : List ℤ) (room : ℕ) → (cutting_of s samples room).cut.station.store ≡ s.store
cutting_holds s samples room = each_cut (λ (c : Cutting). c.cut.station.store ≡ s.store) s samples room (λ e. refl) (λ n. refl)

-- a code under 20 is that of a packet that was cut
pub cut_low : (s : Station) (samples : List ℤ) (room : ℕ) → ltb (cut_code s samples room) 20 ≡ eqb (cut_code s samples room) 1
unfolding cut_code
cut_low s samples room =
    given_has (λ (code : ℕ). ltb code 20 ≡ eqb code 1) (cut_checks s samples room) 1 (refl, (refl, (refl, (refl, (refl, (refl, tt)))))) refl
