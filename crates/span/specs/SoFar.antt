-- The input as the program hands it over, in the words of spans/specs/Pieces: what its writes require, and that the report is
-- what is written then.
use Rattle.std.specs.Prelude.{ℕ, ◌+◌, ◌≤◌, ◌≡◌, true, ◌⊎◌, List, ◌++◌, length, Result}
use Rattle.wire.specs.Lists.{all_bytes, joined}
use Rattle.hearing.specs.Hearing.{farthest}
use Rattle.reads.specs.Got.{Whole}
use Rattle.spans.specs.declared.Span.{Span}
use Rattle.spans.specs.Report.{report}
use Rattle.spans.specs.Eating.{fresh_span, finishing_of}
use Rattle.spans.specs.Pieces.{room, handed_all, printed}

-- the span that pieces of an input have left, from the fresh one on, so many bytes in all. The program counts what it reads,
-- so a span that misses a piece is not one of these.
pub record SpanSoFar (s : Span) (read : ℕ) : Type 0 where
  pub pieces : List (List ℕ)
  pub count : length (joined pieces) ≡ read
  pub near : read ≤ farthest
  pub are_bytes : all_bytes (joined pieces)
  pub span : s ≡ (handed_all fresh_span pieces).span

-- a span can count a piece more
abbrev pub Countable : ℕ → List ℕ → Type 0
Countable read piece = read + length piece ≤ farthest

-- the input was read to its end, or as far as the span looks
abbrev pub ReadToItsEnd : {E : Type 0} → Span → Result ℕ E → Type 0
ReadToItsEnd s got = (s.stopped ≡ true) ⊎ Whole got

-- ---- what is proved of it: proofs/Inputs

-- Where the last write meets what it requires (`SpanSoFar s read`, and the lines of the end), the lines of those pieces and the
-- last ones are their report. (That they are the pieces that were read is for a reader of `reads::take_all` to see.)
abbrev pub LastWriteEndsTheReport : Type 0
LastWriteEndsTheReport =
    (s : Span) (read : ℕ) (lines : List ℕ) (r : SpanSoFar s read) → lines ≡ (finishing_of s room).bytes
    → (handed_all fresh_span r.pieces).text ++ lines ≡ report (joined r.pieces)

-- "At the first refusal it .. stops": whatever more the input has that is not read, what was written is its report.
abbrev pub StopsWithTheReport : Type 0
StopsWithTheReport =
    (ps more : List (List ℕ)) → (handed_all fresh_span ps).span.stopped ≡ true
    → all_bytes (joined (ps ++ more)) → length (joined (ps ++ more)) ≤ farthest
    → printed ps ≡ report (joined (ps ++ more))
