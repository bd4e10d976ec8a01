-- What a call of the box answers with is determined by what it says, and by whether it is an Err.
-- Assumes nothing.
use Rattle.std.proofs.Common.{◌≡◌, ℕ, refl, sym, ap, arith}
use Rattle.std.specs.Prelude.{Option, Some, None, Result, Ok, Err, is_err}
use Rattle.wire.specs.declared.refusal.Refusal.{Refusal}
use Rattle.wire.proofs.Laws.{true_not_false}
use Rattle.wire.proofs.Firm.{OneEach}
use Rattle.wire.proofs.Refusals.{number_one, waits_no_refusal}
use Rattle.items.proofs.Says.{begun_one}
use Rattle.answers.specs.declared.Outcome.{Outcome}
use Rattle.answers.specs.declared.Outcome.TheVariants.{Replied, Unanswered, Nak}
use Rattle.answers.specs.Replies.{outcome_code}
use Rattle.answers.proofs.Says.{outcome_one}
use Rattle.station.specs.declared.Station.{Station}
use Rattle.station.specs.declared.Parts.{Parts}
use Rattle.station.specs.declared.Fed as Made
use Rattle.station.specs.Station.{FreshBox, box_says}
use Rattle.station.specs.Feeding.{Fed, FedHeld, call_code, fed_says, held_says}

pub box_one : OneEach box_says
box_one a b e = begun_one (ap (λ (f : FreshBox). f.code) e) (ap (λ (f : FreshBox). f.station) e)

-- no outcome is that of a call that waits
waits_no_outcome : {B : Type 0} (o : Outcome) → 0 ≡ outcome_code o → B
waits_no_outcome Replied e = absurd (omega arith)
waits_no_outcome Unanswered e = absurd (omega arith)
waits_no_outcome (Nak r) e = waits_no_refusal r e

pub call_one : OneEach call_code
call_one None None e = refl
call_one None (Some p) e = waits_no_outcome p e
call_one (Some o) None e = waits_no_outcome o (sym e)
call_one (Some o) (Some p) e = ap Some (outcome_one o p e)

same : {A : Type 0} {o p : Option Outcome} {c d w v : ℕ} {s t : A} → o ≡ p → c ≡ d → w ≡ v → s ≡ t
    → ◌≡◌ {A = Made.Fed A} (record { outcome = o; consumed = c; wrote = w; left = s })
    (record { outcome = p; consumed = d; wrote = v; left = t })
same e f g h = rw (e, f, g, h) refl

pub fed_one : (s : Station) (a b : Result (Made.Fed Station) Refusal) → fed_says s a ≡ fed_says s b → is_err a ≡ is_err b → a ≡ b
fed_one s (Ok a) (Ok b) e d =
    ap Ok
    (same (call_one a.outcome b.outcome (ap (λ (f : Fed). f.code) e)) (ap (λ (f : Fed). f.consumed) e) (ap (λ (f : Fed). f.wrote) e)
    (ap (λ (f : Fed). f.station) e))
fed_one s (Ok a) (Err q) e d = absurd (true_not_false (sym d))
fed_one s (Err r) (Ok b) e d = absurd (true_not_false d)
fed_one s (Err r) (Err q) e d = ap Err (number_one r q (ap (λ (f : Fed). f.code) e))

parts_same : {s t : Parts} → s.settings ≡ t.settings → s.taken ≡ t.taken → s ≡ t
parts_same {s} {t} e f = go e f
  where
    go : s.settings ≡ t.settings → s.taken ≡ t.taken
        → ◌≡◌ {A = Parts} (record { settings = s.settings; taken = s.taken }) (record { settings = t.settings; taken = t.taken })
    go e f = rw (e, f) refl

pub held_one : (p : Parts) (a b : Result (Made.Fed Parts) Refusal) → held_says p a ≡ held_says p b → is_err a ≡ is_err b → a ≡ b
held_one p (Ok a) (Ok b) e d =
    ap Ok
    (same (call_one a.outcome b.outcome (ap (λ (f : FedHeld). f.code) e)) (ap (λ (f : FedHeld). f.consumed) e)
    (ap (λ (f : FedHeld). f.wrote) e)
    (parts_same (ap (λ (f : FedHeld). f.settings) e) (ap (λ (f : FedHeld). f.taken) e)))
held_one p (Ok a) (Err q) e d = absurd (true_not_false (sym d))
held_one p (Err r) (Ok b) e d = absurd (true_not_false d)
held_one p (Err r) (Err q) e d = ap Err (number_one r q (ap (λ (f : FedHeld). f.code) e))
