-- What a call took is determined by what it says. Assumes nothing.
use Rattle.std.proofs.Common.{◌≡◌, ℕ, refl, sym, ap, List, replicate}
use Rattle.std.specs.Prelude.{Option, Some, None, is_some, unwrap_or}
use Rattle.wire.proofs.Laws.{true_not_false}
use Rattle.wire.proofs.Firm.{OneEach}
use Rattle.framing.specs.declared.Took as Made
use Rattle.framing.specs.Telling.{Took, took_says}

-- whether it is there, and it or what stands in its place
option_one : {A : Type 0} (z : A) (x y : Option A) → is_some x ≡ is_some y → unwrap_or x z ≡ unwrap_or y z → x ≡ y
option_one z None None there e = refl
option_one z None (Some b) there e = absurd (true_not_false (sym there))
option_one z (Some a) None there e = absurd (true_not_false there)
option_one z (Some a) (Some b) there e = ap Some e

same : {c d t u : ℕ} {o p : Option (List ℕ)} → c ≡ d → t ≡ u → o ≡ p
    → ◌≡◌ {A = Made.Took} (record { count = c; taken = t; opening = o }) (record { count = d; taken = u; opening = p })
same e f g = rw (e, f, g) refl

pub took_one : OneEach took_says
took_one a b e =
    same (ap (λ (t : Took). t.count) e) (ap (λ (t : Took). t.taken) e)
    (option_one (replicate 10 0) a.opening b.opening (ap (λ (t : Took). t.finished) e) (ap (λ (t : Took). t.opening) e))
