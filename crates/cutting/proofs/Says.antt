-- What a call of cutting answers with is determined by what it says.
-- Assumes nothing.
use Rattle.std.proofs.Common.{◌≡◌, ℕ, refl, sym, ap}
use Rattle.std.specs.Prelude.{Result, Ok, Err}
use Rattle.wire.specs.declared.refusal.Refusal.{Refusal}
use Rattle.wire.proofs.Firm.{OneEach}
use Rattle.wire.proofs.Refusals.{number_one, done_no_refusal}
use Rattle.items.specs.declared.Settings.{Settings}
use Rattle.station.specs.declared.Station.{Station}
use Rattle.cutting.specs.declared.Cut as Made
use Rattle.cutting.specs.Cutting.{Cut, CutHeld, cut_says, held_says}

same : {A : Type 0} {w v : ℕ} {s t : A} → w ≡ v → s ≡ t
    → ◌≡◌ {A = Made.Cut A} (record { wrote = w; left = s }) (record { wrote = v; left = t })
same e f = rw (e, f) refl

pub cut_one : (s : Station) → OneEach (cut_says s)
cut_one s (Ok a) (Ok b) e = ap Ok (same (ap (λ (c : Cut). c.wrote) e) (ap (λ (c : Cut). c.station) e))
cut_one s (Ok a) (Err q) e = done_no_refusal q (ap (λ (c : Cut). c.code) e)
cut_one s (Err r) (Ok b) e = done_no_refusal r (sym (ap (λ (c : Cut). c.code) e))
cut_one s (Err r) (Err q) e = ap Err (number_one r q (ap (λ (c : Cut). c.code) e))

pub held_one : (s : Settings) → OneEach (held_says s)
held_one s (Ok a) (Ok b) e = ap Ok (same (ap (λ (c : CutHeld). c.wrote) e) (ap (λ (c : CutHeld). c.settings) e))
held_one s (Ok a) (Err q) e = done_no_refusal q (ap (λ (c : CutHeld). c.code) e)
held_one s (Err r) (Ok b) e = done_no_refusal r (sym (ap (λ (c : CutHeld). c.code) e))
held_one s (Err r) (Err q) e = ap Err (number_one r q (ap (λ (c : CutHeld). c.code) e))
