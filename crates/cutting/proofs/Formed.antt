-- A box that is not broken cuts packets of a listed form; its size is a byte.
-- Assumes nothing.
use Prim.Native.Nat.{ℕ, ◌<◌}
use mathlib.Core.Path.{◌≡◌, sym, ◌∙◌}
use mathlib.Core.Bool.{true}
use mathlib.Core.List.{[], ◌∷◌}
use native.Mathlib.Omega.{arith}
use Rattle.wire.proofs.Laws.{one_of_two, one_has}
use Rattle.std.specs.Prelude.{Option, Some}
use Rattle.packets.specs.declared.Form.{Form}
use Rattle.packets.specs.Forms.{listed_form, found}
use Rattle.packets.proofs.Forms.{form_for_listed, found_listed, found_some}
use Rattle.station.specs.declared.Station.{Station}
use Rattle.station.specs.Station.{valid}
use Rattle.station.proofs.Kept.{ranges}
use Rattle.station.proofs.Valid.{valid_settings}
use Rattle.cutting.specs.Cutting.{form_now}

pub valid_form : (s : Station) → valid s ≡ true → listed_form (form_now s.settings) ≡ true
valid_form s v =
    let r = ranges s.settings (valid_settings s.settings s.store v) in
    form_for_listed s.settings.mode s.settings.size (one_of_two s.settings.mode 0x80 0x00 r.mode)
    (one_of_two s.settings.size 0 1 r.size)

pub valid_size : (s : Station) → valid s ≡ true → s.settings.size < 256
valid_size s v =
    one_has (λ (n : ℕ). n < 256) s.settings.size (0 ∷ 1 ∷ []) (omega arith, (omega arith, tt))
    (ranges s.settings (valid_settings s.settings s.store v)).size

-- so its form is found
pub form_found : (s : Station) → valid s ≡ true → found (form_now s.settings) ≡ Some (form_now s.settings)
form_found s v = found_listed (form_now s.settings) (valid_form s v)

pub form_got : (s : Station) (x : Option Form) (f : Form) → x ≡ found (form_now s.settings) → x ≡ Some f → f ≡ form_now s.settings
form_got s x f is got = (found_some (form_now s.settings) f (sym got ∙ is)).1
