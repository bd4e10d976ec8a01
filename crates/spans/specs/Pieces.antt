-- The whole input, handed over in pieces: each piece until it is used up, with room for 256 bytes of lines, and then the end.
-- What is printed so is the report of the whole input, at the end of this file.
use Rattle.std.specs.Prelude.{ℕ, zero, suc, ◌≤◌, ◌≡◌, List, [], ◌∷◌, ◌++◌, eqb, length, drop}
use Rattle.wire.specs.Choice.{pick}
use Rattle.wire.specs.Lists.{all_bytes, joined}
use Rattle.hearing.specs.Hearing.{farthest}
use Rattle.spans.specs.declared.Span.{Span}
use Rattle.spans.specs.Report.{report}
use Rattle.spans.specs.Eating.{eating_of, finishing_of, fresh_span}

abbrev pub room : ℕ
room = 256

-- what was written for a piece, and the span after it
pub record Handed : Type 0 where
  pub text : List ℕ
  pub span : Span

abbrev pub nothing_handed : Span → Handed
nothing_handed s = record { text = []; span = s }

abbrev pub before : List ℕ → Handed → Handed
before text h = record { text = text ++ h.text; span = h.span }

-- The calls for one piece. The first argument counts those that may still be made; of n bytes there are at most n.
unfoldable pub handing : ℕ → Span → List ℕ → Handed
handing zero s piece = nothing_handed s
handing (suc n) s piece =
    pick (eqb (length piece) 0) (nothing_handed s)
    (before (eating_of s piece room).bytes
    (handing n (eating_of s piece room).eaten.span (drop (eating_of s piece room).eaten.consumed piece)))

abbrev pub handed : Span → List ℕ → Handed
handed s piece = handing (length piece) s piece

-- one piece after the other, each to the span that the one before it left
unfoldable pub handed_all : Span → List (List ℕ) → Handed
handed_all s [] = nothing_handed s
handed_all s (p ∷ ps) = before (handed s p).text (handed_all (handed s p).span ps)

-- all that is written for pieces and then for the end, from a span on
abbrev pub printed_from : Span → List (List ℕ) → List ℕ
printed_from s pieces = (handed_all s pieces).text ++ (finishing_of (handed_all s pieces).span room).bytes

-- all that is written
abbrev pub printed : List (List ℕ) → List ℕ
printed pieces = printed_from fresh_span pieces

-- ---- what is proved of it: proofs/Inputs, proofs/Cuts

-- However an input of bytes comes in pieces, its report is what is printed: up to 2 ^ 63 bytes, as many as a span counts. So
-- a `C` line has the count of accepted packets, the last position and one, the time and the missed packets of Report's `line_of`.
abbrev pub PrintsTheReport : Type 0
PrintsTheReport =
    (pieces : List (List ℕ)) → all_bytes (joined pieces) → length (joined pieces) ≤ farthest
    → printed pieces ≡ report (joined pieces)

-- How the input is cut into pieces does not change the lines.
abbrev pub CutsDoNotMatter : Type 0
CutsDoNotMatter =
    (ps qs : List (List ℕ)) → joined ps ≡ joined qs → length (joined ps) ≤ farthest
    → printed ps ≡ printed qs
