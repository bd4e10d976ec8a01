-- What is answered is determined by what it says and by whether it is an Err: two answers that agree in both are the same.
use Rattle.std.proofs.Common.{◌≡◌, ℕ, refl, sym, ap, arith}
use Rattle.std.specs.Prelude.{Bool, true, false, Result, Ok, Err, is_err}
use Rattle.wire.specs.declared.refusal.Refusal.{Refusal}
use Rattle.wire.proofs.Laws.{true_not_false}
use Rattle.wire.proofs.Firm.{OneEach}
use Rattle.wire.proofs.Refusals.{number_one, done_no_refusal, silent_no_refusal}
use Rattle.items.specs.declared.Settings.{Settings}
use Rattle.answers.specs.declared.Outcome.{Outcome}
use Rattle.answers.specs.declared.Outcome.TheVariants.{Replied, Unanswered, Nak}
use Rattle.answers.specs.declared.Answered as Made
use Rattle.answers.specs.Replies.{Answered, answered_says, outcome_code}

pub outcome_one : OneEach outcome_code
outcome_one Replied Replied e = refl
outcome_one Unanswered Unanswered e = refl
outcome_one Replied Unanswered e = absurd (omega arith)
outcome_one Unanswered Replied e = absurd (omega arith)
outcome_one Replied (Nak q) e = done_no_refusal q e
outcome_one Unanswered (Nak q) e = silent_no_refusal q e
outcome_one (Nak r) Replied e = done_no_refusal r (sym e)
outcome_one (Nak r) Unanswered e = silent_no_refusal r (sym e)
outcome_one (Nak r) (Nak q) e = ap Nak (number_one r q e)

same : {o p : Outcome} {w v : ℕ} {s t : Settings} → o ≡ p → w ≡ v → s ≡ t
    → ◌≡◌ {A = Made.Answered} (record { outcome = o; wrote = w; settings = s }) (record { outcome = p; wrote = v; settings = t })
same d e f = rw (d, e, f) refl

pub answered_one : (s : Settings) (a b : Result Made.Answered Refusal) → answered_says s a ≡ answered_says s b → is_err a ≡ is_err b → a ≡ b
answered_one s (Ok a) (Ok b) e d =
    ap Ok
    (same (outcome_one a.outcome b.outcome (ap (λ (x : Answered). x.code) e)) (ap (λ (x : Answered). x.wrote) e)
    (ap (λ (x : Answered). x.settings) e))
answered_one s (Ok a) (Err q) e d = absurd (true_not_false (sym d))
answered_one s (Err r) (Ok b) e d = absurd (true_not_false d)
answered_one s (Err r) (Err q) e d = ap Err (number_one r q (ap (λ (x : Answered). x.code) e))
