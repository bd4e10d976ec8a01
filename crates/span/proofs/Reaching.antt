-- Spans that pieces of an input have left: a piece more leaves another, and so long as its bytes can be counted each goes on.
-- Assumes nothing.
use Prim.Native.Nat.{ℕ, suc, ◌+◌, ◌≤◌, ◌<◌}
use native.Mathlib.Omega.{arith}
use mathlib.Core.Path.{◌≡◌, refl, sym, ap, subst, ◌∙◌}
use mathlib.Core.Bool.{false}
use mathlib.Core.List.{List, [], ◌∷◌, ◌++◌, append-nil, append_assoc}
use lib.ListN.{length, get_or, length-append}
use Rattle.wire.specs.Lists.{all_bytes, joined}
use Rattle.wire.proofs.Lists.{bytes_append}
use Rattle.hearing.specs.Hearing.{farthest}
use Rattle.spans.specs.declared.Span.{Span}
use Rattle.spans.specs.Eating.{fresh_span}
use Rattle.spans.specs.Pieces.{Handed, before, handed, handed_all}
use Rattle.spans.proofs.Going.{Going, fresh_going}
use Rattle.spans.proofs.Cuts.{all_calls}
use Rattle.span.specs.SoFar.{SpanSoFar}

-- it has stopped, or it goes on after so many bytes of input
abbrev pub Goes : Span → ℕ → Type 0
Goes s used = s.stopped ≡ false → Going s used

all_go : (ps : List (List ℕ)) (s : Span) (used : ℕ) → Goes s used → used + length (joined ps) ≤ farthest
    → Goes (handed_all s ps).span (used + length (joined ps))
unfolding handed_all
all_go [] s used goes near = subst (Goes s) (omega arith) goes
all_go (p ∷ ps) s used goes near =
    let long = length-append p (joined ps) in
    let one = all_calls (length p) s used p [] (omega arith) goes (omega (arith, long)) in
    let count : used + length p + length (joined ps) ≡ used + length (p ++ joined ps) = omega (arith, long) in
    let rest = all_go ps (handed s p).span (used + length p) one.goes (omega (arith, long)) in
    subst (Goes (handed_all (handed s p).span ps).span) count rest

pub so_far_goes : (s : Span) (read : ℕ) → SpanSoFar s read → Goes s read
so_far_goes s read r =
    let near : 0 + length (joined r.pieces) ≤ farthest = omega (arith, r.count, r.near) in
    let all : 0 + length (joined r.pieces) ≡ read = omega (arith, r.count) in
    rw r.span (subst (Goes (handed_all fresh_span r.pieces).span) all (all_go r.pieces fresh_span 0 (λ e. fresh_going) near))

-- ---- more pieces

pub handed_on : (ps more : List (List ℕ)) (s : Span)
    → handed_all s (ps ++ more) ≡ before (handed_all s ps).text (handed_all (handed_all s ps).span more)
unfolding handed_all
handed_on [] more s = refl
handed_on (p ∷ ps) more s =
    let next : Handed = handed_all (handed s p).span ps in
    let later : Handed = handed_all next.span more in
    ap (before (handed s p).text) (handed_on ps more (handed s p).span)
    ∙ ap (λ (l : List ℕ). record { text = l; span = later.span }) (sym (append_assoc (handed s p).text next.text later.text))

handed_last : (ps : List (List ℕ)) (s : Span) (p : List ℕ) → (handed_all s (ps ++ p ∷ [])).span ≡ (handed (handed_all s ps).span p).span
unfolding handed_all
handed_last ps s p = ap (λ (h : Handed). h.span) (handed_on ps (p ∷ []) s)

joined_snoc : (ps : List (List ℕ)) (p : List ℕ) → joined (ps ++ p ∷ []) ≡ joined ps ++ p
joined_snoc [] p = append-nil p
joined_snoc (q ∷ qs) p = ap (λ (l : List ℕ). q ++ l) (joined_snoc qs p) ∙ sym (append_assoc q (joined qs) p)

-- each of the list is a byte
pub all_bytes_lem : (l : List ℕ) → ((k : ℕ) → get_or l k 0 < 256) → all_bytes l
all_bytes_lem [] h = tt
all_bytes_lem (b ∷ bs) h = (h 0, all_bytes_lem bs (λ (k : ℕ). h (suc k)))

joined_last : (ps : List (List ℕ)) (p : List ℕ) → length (joined (ps ++ p ∷ [])) ≡ length (joined ps) + length p
joined_last [] p = simp length-append (omega arith)
joined_last (q ∷ qs) p = simp length-append (omega (arith, joined_last qs p))

-- before the first piece
pub none_read : SpanSoFar fresh_span 0
unfolding handed_all
none_read = record { pieces = []; count = refl; near = omega arith; are_bytes = tt; span = refl }

-- a piece more, and its bytes are counted
pub piece_read : (s after : Span) (read : ℕ) (piece : List ℕ) → SpanSoFar s read → read + length piece ≤ farthest
    → ((k : ℕ) → get_or piece k 0 < 256) → after ≡ (handed s piece).span
    → SpanSoFar after (read + length piece)
piece_read s after read piece r near small is =
    let bytes = bytes_append (joined r.pieces) piece r.are_bytes (all_bytes_lem piece small) in
    record {
      pieces = r.pieces ++ piece ∷ [];
      count = omega (arith, joined_last r.pieces piece, r.count);
      near = near;
      are_bytes = subst all_bytes (sym (joined_snoc r.pieces piece)) bytes;
      span = is ∙ ap (λ (x : Span). (handed x piece).span) r.span ∙ sym (handed_last r.pieces fresh_span piece);
    }
