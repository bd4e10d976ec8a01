-- What the code answers with is determined by what it says: two answers that say the same are the same.
use Rattle.std.proofs.Common.{◌≡◌, ℕ, Bool, true, false, refl, sym, ap, arith}
use Rattle.std.specs.Prelude.{Option, Some, None, Result, Ok, Err}
use lib.Dec.{eqb}
use Rattle.wire.specs.Refusal.{refusal_code, code_of}
use Rattle.wire.specs.declared.refusal.Refusal.{Refusal}
use Rattle.wire.proofs.Laws.{true_not_false}
use Rattle.wire.proofs.Firm.{OneEach}
use Rattle.wire.proofs.Refusals.{number_one, done_no_refusal, silent_no_refusal}
use Rattle.items.specs.declared.Settings.{Settings}
use Rattle.items.specs.declared.Begun.{Begun}
use Rattle.items.specs.Settings.{FreshSettings, serial_code, fresh_says}
use Rattle.items.specs.Header.{due_says}

-- whether a reply is due
pub due_one : OneEach due_says
due_one (Ok true) (Ok true) e = refl
due_one (Ok false) (Ok false) e = refl
due_one (Ok true) (Ok false) e = absurd (omega arith)
due_one (Ok false) (Ok true) e = absurd (omega arith)
due_one (Ok true) (Err q) e = done_no_refusal q e
due_one (Ok false) (Err q) e = silent_no_refusal q e
due_one (Err r) (Ok true) e = done_no_refusal r (sym e)
due_one (Err r) (Ok false) e = silent_no_refusal r (sym e)
due_one (Err r) (Err q) e = ap Err (number_one r q e)

-- whether the table has a message
pub listed_one : OneEach (code_of {A = Unit {0}})
listed_one (Ok u) (Ok v) e = refl
listed_one (Ok u) (Err q) e = done_no_refusal q e
listed_one (Err r) (Ok u) e = done_no_refusal r (sym e)
listed_one (Err r) (Err q) e = ap Err (number_one r q e)

-- why a serial is refused
pub serial_one : OneEach serial_code
serial_one None None e = refl
serial_one None (Some q) e = done_no_refusal q e
serial_one (Some r) None e = done_no_refusal r (sym e)
serial_one (Some r) (Some q) e = ap Some (number_one r q e)

-- what is made of a serial
pub begun_one : {A : Type 0} {r q : Option Refusal} {a b : A} → serial_code r ≡ serial_code q → a ≡ b
    → ◌≡◌ {A = Begun A} (record { refused = r; made = a }) (record { refused = q; made = b })
begun_one {A} {r} {q} e d = rw (serial_one r q e, d) refl

pub fresh_one : OneEach fresh_says
fresh_one a b e = begun_one (ap (λ (f : FreshSettings). f.code) e) (ap (λ (f : FreshSettings). f.settings) e)
