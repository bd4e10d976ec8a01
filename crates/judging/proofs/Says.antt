-- What is judged is determined by what it says, of a box's settings: two answers that say the same are the same.
use Rattle.std.proofs.Common.{◌≡◌, refl, sym, ap, arith}
use Rattle.std.specs.Prelude.{Option, Some, None, Result, Ok, Err}
use Rattle.wire.specs.declared.refusal.Refusal.{Refusal}
use Rattle.wire.proofs.Firm.{OneEach}
use Rattle.wire.proofs.Refusals.{number_one, done_no_refusal, silent_no_refusal}
use Rattle.items.specs.declared.Settings.{Settings}
use Rattle.items.specs.Answer.{Judged}
use Rattle.judging.specs.Says.{judged_says}

pub judged_one : (s : Settings) → OneEach (judged_says s)
judged_one s (Ok (Some a)) (Ok (Some b)) e = ap (λ (t : Settings). Ok (Some t)) (ap (λ (j : Judged). j.settings) e)
judged_one s (Ok (Some a)) (Ok None) e = absurd (let n = ap (λ (j : Judged). j.code) e in omega arith)
judged_one s (Ok None) (Ok (Some b)) e = absurd (let n = ap (λ (j : Judged). j.code) e in omega arith)
judged_one s (Ok None) (Ok None) e = refl
judged_one s (Ok (Some a)) (Err q) e = done_no_refusal q (ap (λ (j : Judged). j.code) e)
judged_one s (Ok None) (Err q) e = silent_no_refusal q (ap (λ (j : Judged). j.code) e)
judged_one s (Err r) (Ok (Some b)) e = done_no_refusal r (sym (ap (λ (j : Judged). j.code) e))
judged_one s (Err r) (Ok None) e = silent_no_refusal r (sym (ap (λ (j : Judged). j.code) e))
judged_one s (Err r) (Err q) e = ap Err (number_one r q (ap (λ (j : Judged). j.code) e))
