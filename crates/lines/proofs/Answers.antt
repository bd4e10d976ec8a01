-- What writing lines and asking for an end time answer says all: two answers that tell the same are the same.
use Rattle.std.proofs.Common.{ℕ, ◌≡◌, sym, ap, Result, Ok, Err}
use Rattle.wire.specs.declared.refusal.Refusal.{Refusal}
use Rattle.wire.proofs.Firm.{OneEach, two_results_coincide}
use Rattle.wire.proofs.Refusals.{number_one, done_no_refusal}
use Rattle.lines.specs.declared.Due.{Due}
use Rattle.lines.specs.Due.{LinesAnswer, lines_told, telling_of}
use Rattle.lines.specs.Timing.{TimeAnswer, time_told, timing_of}

pub lines_one : OneEach lines_told
lines_one (Ok m) (Ok n) e = ap Ok (ap (λ (a : LinesAnswer). a.wrote) e)
lines_one (Ok m) (Err r) e = done_no_refusal r (ap (λ (a : LinesAnswer). a.code) e)
lines_one (Err r) (Ok n) e = done_no_refusal r (sym (ap (λ (a : LinesAnswer). a.code) e))
lines_one (Err r) (Err q) e = ap Err (number_one r q (ap (λ (a : LinesAnswer). a.code) e))

-- so the promise of writing allows one answer
pub tell_one : (d : Due) (room : ℕ) {a b : Result ℕ Refusal} → lines_told a ≡ (telling_of d room).answer
    → lines_told b ≡ (telling_of d room).answer → a ≡ b
tell_one d room p q = two_results_coincide lines_told lines_one (telling_of d room).answer p q

pub time_one : OneEach time_told
time_one (Ok m) (Ok n) e = ap Ok (ap (λ (a : TimeAnswer). a.microseconds) e)
time_one (Ok m) (Err r) e = done_no_refusal r (ap (λ (a : TimeAnswer). a.code) e)
time_one (Err r) (Ok n) e = done_no_refusal r (sym (ap (λ (a : TimeAnswer). a.code) e))
time_one (Err r) (Err q) e = ap Err (number_one r q (ap (λ (a : TimeAnswer). a.code) e))

-- and so does that of the end time
pub time_of_one : (samples d clock : ℕ) {a b : Result ℕ Refusal} → time_told a ≡ timing_of samples d clock
    → time_told b ≡ timing_of samples d clock → a ≡ b
time_of_one samples d clock p q = two_results_coincide time_told time_one (timing_of samples d clock) p q
