-- A piece in the midst of being handed over: what is left of it leads to the span that the whole leads to.
-- Assumes nothing.
use Prim.Native.Nat.{ℕ, zero, suc, ◌+◌, ◌-◌, ◌≤◌, ◌<◌}
use native.Mathlib.Nat.{le_refl}
use native.Mathlib.Omega.{arith}
use mathlib.Core.Path.{◌≡◌, refl, sym, ◌∙◌}
use mathlib.Core.List.{List, [], ◌∷◌}
use lib.ListN.{length, take, drop, length-drop}
use lib.Seq.{take_all}
use borrow.Author.Tests.{ne_eqb}
use Rattle.hearing.specs.Hearing.{farthest}
use Rattle.spans.specs.declared.Span.{Span}
use Rattle.spans.specs.Eating.{Eaten, eating_of}
use Rattle.spans.specs.Pieces.{room, handing, handed}
use Rattle.spans.proofs.Cuts.{OneCall, one_call}
use Rattle.span.specs.SoFar.{SpanSoFar, Countable}
use Rattle.span.proofs.Reaching.{Goes, so_far_goes}

none_left : (calls : ℕ) (s : Span) (piece : List ℕ) → length piece ≡ 0 → (handing calls s piece).span ≡ s
unfolding handing
none_left zero s piece none = refl
none_left (suc calls) s [] none = refl
none_left (suc calls) s (b ∷ bs) none = absurd (omega arith)

one_turn : (calls : ℕ) (s : Span) (piece : List ℕ) → 0 < calls → 0 < length piece
    → (handing calls s piece).span
    ≡ (handing (calls - 1) (eating_of s piece room).eaten.span (drop (eating_of s piece room).eaten.consumed piece)).span
unfolding handing
one_turn zero s piece some more = absurd (omega arith)
one_turn (suc calls) s [] some more = absurd (omega arith)
one_turn (suc calls) s (b ∷ bs) some more =
    let down : suc calls - 1 ≡ calls = omega arith in
    rw (down, ne_eqb (suc (length bs)) 0 (λ z. omega arith)) refl

-- the span now, with `rest` of the piece left, and calls enough for it
pub record Onward (s : Span) (piece : List ℕ) (now : Span) (rest : List ℕ) : Type 0 where
  pub used : ℕ
  pub goes : Goes now used
  pub near : used + length rest ≤ farthest
  pub calls : ℕ
  pub enough : length rest ≤ calls
  pub left : (handing calls now rest).span ≡ (handed s piece).span

pub begins : (s : Span) (read : ℕ) (piece : List ℕ) → SpanSoFar s read → Countable read piece → Onward s piece s piece
begins s read piece r near =
    record {
      used = read;
      goes = so_far_goes s read r;
      near = near;
      calls = length piece;
      enough = le_refl (length piece);
      left = refl;
    }

pub ends : (s : Span) (piece : List ℕ) (now : Span) (rest : List ℕ) → Onward s piece now rest → length rest ≡ 0 → now ≡ (handed s piece).span
ends s piece now rest o none = sym (none_left o.calls now rest none) ∙ o.left

-- what a call does for it: a byte or more is consumed, and what is left is a part of what was
pub record Turn (s : Span) (piece rest : List ℕ) (r : Eaten) : Type 0 where
  pub inside : r.consumed ≤ length rest
  pub less : length (take (length rest - r.consumed) (drop r.consumed rest)) < length rest
  pub onward : Onward s piece r.span (take (length rest - r.consumed) (drop r.consumed rest))

module _ (s : Span) (piece : List ℕ) (now : Span) (rest : List ℕ) (o : Onward s piece now rest) (more : 0 < length rest) where
  call : OneCall now o.used rest [] (eating_of now rest room)
  call = of rest more o.near
    where
      of : (l : List ℕ) → 0 < length l → o.used + length l ≤ farthest → OneCall now o.used l [] (eating_of now l room)
      of [] some near = absurd (omega arith)
      of (b ∷ bs) some near = one_call now o.used b bs [] o.goes near

  goes_on : Onward s piece (eating_of now rest room).eaten.span (drop (eating_of now rest room).eaten.consumed rest)
  goes_on =
      record {
        used = o.used + (eating_of now rest room).eaten.consumed;
        goes = call.goes;
        near = simp length-drop (omega (arith, o.near, call.inside));
        calls = o.calls - 1;
        enough = simp length-drop (omega (arith, call.moves, o.enough));
        left = sym (one_turn o.calls now rest (omega (arith, more, o.enough)) more) ∙ o.left;
      }

  pub some : 0 < (eating_of now rest 256).eaten.consumed
  some = call.moves

  -- as the call's own answer says
  pub turns : (r : Eaten) → r ≡ (eating_of now rest 256).eaten → Turn s piece rest r
  turns r told =
      let used : ℕ = (eating_of now rest room).eaten.consumed in
      let left = take_all (length rest - used) (drop used rest) (simp length-drop (le_refl _)) in
      rw told
      (record {
        inside = call.inside;
        less = rw left (simp length-drop (omega (arith, call.moves, call.inside)));
        onward = rw left goes_on;
      })
