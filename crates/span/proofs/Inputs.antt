-- What the program has written at its end is the report of the input: the lines of piece after piece, and then the last ones.
-- Assumes nothing.
use Prim.Native.Nat.{ℕ, zero, suc}
use native.Mathlib.Omega.{arith}
use mathlib.Core.Path.{◌≡◌, refl, sym, ap, ◌∙◌}
use mathlib.Core.Bool.{true}
use mathlib.Core.List.{List, [], ◌∷◌, ◌++◌, append-nil}
use lib.ListN.{length, drop}
use borrow.Author.Tests.{ne_eqb}
use Rattle.spans.specs.declared.Span.{Span}
use Rattle.spans.specs.Eating.{Eating, fresh_span, finishing_of}
use Rattle.spans.specs.Pieces.{room, Handed, nothing_handed, before, handing, handed_all}
use Rattle.spans.proofs.Going.{stopped_valid}
use Rattle.spans.proofs.Eats.{eating_stopped}
use Rattle.spans.proofs.Inputs.{report_is}
use Rattle.span.specs.SoFar.{LastWriteEndsTheReport, StopsWithTheReport}
use Rattle.span.proofs.Reaching.{handed_on}

-- ---- a span that has stopped

module _ (s : Span) (stopped : s.stopped ≡ true) where
  handed_silent : (n : ℕ) (piece : List ℕ) → handing n s piece ≡ nothing_handed s
  unfolding handing
  handed_silent zero piece = refl
  handed_silent (suc n) [] = refl
  handed_silent (suc n) (b ∷ bs) =
      let quiet = eating_stopped s (b ∷ bs) room (stopped_valid s stopped) stopped in
      rw (ne_eqb (suc (length bs)) 0 (λ z. omega arith))
      (ap (λ (e : Eating). before e.bytes (handing n e.eaten.span (drop e.eaten.consumed (b ∷ bs)))) quiet
      ∙ handed_silent n (drop (length (b ∷ bs)) (b ∷ bs)))

  all_silent : (ps : List (List ℕ)) → handed_all s ps ≡ nothing_handed s
  unfolding handed_all
  all_silent [] = refl
  all_silent (p ∷ ps) = rw (handed_silent (length p) p) (all_silent ps)

-- ---- the report

pub last_ends : LastWriteEndsTheReport
last_ends s read lines r is =
    ap (λ (l : List ℕ). (handed_all fresh_span r.pieces).text ++ l) (is ∙ ap (λ (x : Span). (finishing_of x room).bytes) r.span)
    ∙ report_is r.pieces r.are_bytes (omega (arith, r.count, r.near))

pub stopped_is : StopsWithTheReport
stopped_is ps more stopped small near =
    let h : Handed = handed_all fresh_span ps in
    let same : handed_all fresh_span (ps ++ more) ≡ before h.text (nothing_handed h.span)
    = handed_on ps more fresh_span ∙ ap (before h.text) (all_silent h.span stopped more) in
    ap (λ (l : List ℕ). l ++ (finishing_of h.span room).bytes) (sym (append-nil h.text))
    ∙ ap (λ (x : Handed). x.text ++ (finishing_of x.span room).bytes) (sym same)
    ∙ report_is (ps ++ more) small near
