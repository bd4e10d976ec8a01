-- What a call of eating and the end answer says all: two answers that tell the same are the same.
use Rattle.std.proofs.Common.{ℕ, ◌≡◌, ◌<◌, refl, ap, ◌∙◌, List, Option, Some, None, Result, Ok, Err, arith}
use Rattle.wire.specs.declared.refusal.Refusal.{Refusal}
use Rattle.wire.proofs.Firm.{OneEach, two_results_coincide}
use Rattle.wire.proofs.Refusals.{number_one}
use Rattle.lines.specs.Due.{LinesAnswer}
use Rattle.hearing.proofs.Stops.{from_ten}
use Rattle.spans.specs.declared.Span.{Span}
use Rattle.spans.specs.declared.Did.{Did}
use Rattle.spans.specs.declared.Did.TheVariants.{Waiting, Lines, Stopped}
use Rattle.spans.specs.declared.Eaten as Ate
use Rattle.spans.specs.Eating.{Eaten, did_told, eaten_told, end_told, eating_of, finishing_of}

-- what a call did, back from its code
did_low : (d : Did) → did_told d < 10
did_low Waiting = omega arith
did_low Lines = omega arith
did_low Stopped = omega arith

did_one : OneEach did_told
did_one Waiting Waiting e = refl
did_one Waiting Lines e = absurd (omega arith)
did_one Waiting Stopped e = absurd (omega arith)
did_one Lines Waiting e = absurd (omega arith)
did_one Lines Lines e = refl
did_one Lines Stopped e = absurd (omega arith)
did_one Stopped Waiting e = absurd (omega arith)
did_one Stopped Lines e = absurd (omega arith)
did_one Stopped Stopped e = refl

module _ (s : Span) where
  ate_one : (a b : Ate.Eaten) → eaten_told s (Ok a) ≡ eaten_told s (Ok b) → a ≡ b
  ate_one a b e =
      ap (λ (d : Did). record { did = d; consumed = a.consumed; wrote = a.wrote; span = a.span })
      (did_one a.did b.did (ap (λ (x : Eaten). x.code) e))
      ∙ ap (λ (n : ℕ). record { did = b.did; consumed = n; wrote = a.wrote; span = a.span }) (ap (λ (x : Eaten). x.consumed) e)
      ∙ ap (λ (n : ℕ). record { did = b.did; consumed = b.consumed; wrote = n; span = a.span }) (ap (λ (x : Eaten). x.wrote) e)
      ∙ ap (λ (z : Span). record { did = b.did; consumed = b.consumed; wrote = b.wrote; span = z }) (ap (λ (x : Eaten). x.span) e)

  pub eaten_one : OneEach (eaten_told s)
  eaten_one (Ok a) (Ok b) e = ap Ok (ate_one a b e)
  eaten_one (Ok a) (Err r) e = absurd (omega (arith, did_low a.did, from_ten r, ap (λ (x : Eaten). x.code) e))
  eaten_one (Err r) (Ok b) e = absurd (omega (arith, did_low b.did, from_ten r, ap (λ (x : Eaten). x.code) e))
  eaten_one (Err r) (Err q) e = ap Err (number_one r q (ap (λ (x : Eaten). x.code) e))

-- so the promise of eating allows one answer
pub eat_one : (s : Span) (piece : List ℕ) (room : ℕ) {a b : Result Ate.Eaten Refusal} → eaten_told s a ≡ (eating_of s piece room).eaten
    → eaten_told s b ≡ (eating_of s piece room).eaten → a ≡ b
eat_one s piece room p q = two_results_coincide (eaten_told s) (eaten_one s) (eating_of s piece room).eaten p q

pub end_one : OneEach end_told
end_one (Ok None) (Ok None) e = refl
end_one (Ok None) (Ok (Some n)) e = absurd (omega (arith, ap (λ (a : LinesAnswer). a.code) e))
end_one (Ok (Some m)) (Ok None) e = absurd (omega (arith, ap (λ (a : LinesAnswer). a.code) e))
end_one (Ok (Some m)) (Ok (Some n)) e = ap (λ (k : ℕ). Ok (Some k)) (ap (λ (a : LinesAnswer). a.wrote) e)
end_one (Ok None) (Err r) e = absurd (omega (arith, from_ten r, ap (λ (a : LinesAnswer). a.code) e))
end_one (Ok (Some m)) (Err r) e = absurd (omega (arith, from_ten r, ap (λ (a : LinesAnswer). a.code) e))
end_one (Err r) (Ok None) e = absurd (omega (arith, from_ten r, ap (λ (a : LinesAnswer). a.code) e))
end_one (Err r) (Ok (Some n)) e = absurd (omega (arith, from_ten r, ap (λ (a : LinesAnswer). a.code) e))
end_one (Err r) (Err q) e = ap Err (number_one r q (ap (λ (a : LinesAnswer). a.code) e))

-- and so does that of the end
pub finish_one : (s : Span) (room : ℕ) {a b : Result (Option ℕ) Refusal} → end_told a ≡ (finishing_of s room).answer
    → end_told b ≡ (finishing_of s room).answer → a ≡ b
finish_one s room p q = two_results_coincide end_told end_one (finishing_of s room).answer p q
