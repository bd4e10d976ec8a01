-- Where frequency and clock have a word, the product tells it.
use Rattle.std.proofs.Common.{◌≡◌, ℕ, ◌*◌, ◌^◌, Bool, true, false, ◌&&◌, eqb, refl, ap, ◌∙◌, arith}
use Rattle.wire.specs.Halves.{halves_up}
use Rattle.wire.proofs.Laws.{and_left, and_right, within_low}
use Rattle.tuning.specs.Bands.{in_bands}
use Rattle.tuning.specs.Word.{is_clock, word_of}
use Rattle.tuning.proofs.word.agree.Goals as goal

-- the third of three tests counts only where the first two hold
all_by : {p a q b t t' : Bool} → p ≡ a → q ≡ b → (a && b ≡ true → t ≡ t') → (p && q && t) ≡ ((a && b) && t')
all_by {p} {a} {q} {b} {t} {t'} e f h = rw (e, f) (go a b h)
  where
    go : (a b : Bool) → (a && b ≡ true → t ≡ t') → (a && b && t) ≡ ((a && b) && t')
    go true true h = h refl
    go true false h = refl
    go false b h = refl

pub returns : goal.returns
unfolding word_of
returns c =
    let a = c.args in
    all_by c.in_bands.ensures c.is_clock.ensures
    (λ h.
    let clocked = within_low 79992000 80008000 a.clock (and_right (in_bands a.hz) (is_clock a.clock) h) in
    let n = c.offset_of.ensures.0 (and_left (in_bands a.hz) (is_clock a.clock) h) in
    c.is_nearest.ensures (omega (arith, clocked)) ∙ ap (λ (n : ℕ). eqb a.word (halves_up (n * 2 ^ 32) a.clock)) n)
