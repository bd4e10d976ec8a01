-- An input that is handed over in pieces of so many bytes: each call consumes a byte or more, and none that is not there.
-- Assumes nothing.
use Prim.Native.Nat.{ℕ, ◌+◌, ◌-◌, ◌≤◌, ◌<◌}
use native.Mathlib.Nat.{le_refl}
use native.Mathlib.Omega.{arith}
use mathlib.Core.Path.{◌≡◌}
use mathlib.Core.Bool.{false}
use mathlib.Core.List.{List, [], ◌∷◌}
use lib.ListN.{length, take, drop, length-take, length-drop}
use lib.Seq.{take_all}
use Rattle.hearing.specs.Hearing.{farthest}
use Rattle.spans.specs.declared.Span.{Span}
use Rattle.spans.specs.Eating.{Eaten, fresh_span, eating_of}
use Rattle.spans.proofs.Going.{Going, fresh_going}
use Rattle.spans.proofs.Cuts.{OneCall, one_call}

-- the span where some of an input is left
pub record Left (span : Span) (rest : List ℕ) : Type 0 where
  pub used : ℕ
  pub goes : span.stopped ≡ false → Going span used
  pub near : used + length rest ≤ farthest

pub all_left : (input : List ℕ) → length input ≤ farthest → Left fresh_span input
all_left input short = record { used = 0; goes = λ e. fresh_going; near = omega arith }

-- a call consumes some of it, and what it leaves is a part of what was
pub record Step (rest : List ℕ) (r : Eaten) : Type 0 where
  pub some : 0 < r.consumed
  pub inside : r.consumed ≤ length rest
  pub less : length (take (length rest - r.consumed) (drop r.consumed rest)) < length rest
  pub next : Left r.span (take (length rest - r.consumed) (drop r.consumed rest))

module _ (span : Span) (rest : List ℕ) (step : ℕ) (l : Left span rest) (more : 0 < length rest) (some : 0 < step) where
  abbrev piece : List ℕ
  piece = take step rest

  long : (1 ≤ length piece) × (length piece ≤ length rest)
  long = simp length-take (omega arith, omega arith)

  call : OneCall span l.used piece [] (eating_of span piece 256)
  call = of piece long.0 (omega (arith, long.1, l.near))
    where
      of : (p : List ℕ) → 1 ≤ length p → l.used + length p ≤ farthest → OneCall span l.used p [] (eating_of span p 256)
      of [] one fits = absurd (omega arith)
      of (b ∷ bs) one fits = one_call span l.used b bs [] l.goes fits

  behind : Left (eating_of span piece 256).eaten.span (drop (eating_of span piece 256).eaten.consumed rest)
  behind =
      record {
        used = l.used + (eating_of span piece 256).eaten.consumed;
        goes = call.goes;
        near = simp length-drop (omega (arith, call.inside, long.1, l.near));
      }

  stepped : Step rest (eating_of span piece 256).eaten
  stepped =
      let used : ℕ = (eating_of span piece 256).eaten.consumed in
      let left = take_all (length rest - used) (drop used rest) (simp length-drop (le_refl _)) in
      record {
        some = call.moves;
        inside = omega (arith, call.inside, long.1);
        less = rw left (simp length-drop (omega (arith, call.moves, call.inside, long.1)));
        next = rw left behind;
      }

  -- as the call's own answer says, of the part that it was handed
  pub steps : (part : List ℕ) (r : Eaten) → part ≡ piece → r ≡ (eating_of span part 256).eaten → Step rest r
  steps part r is told = rw (told, is) stepped
