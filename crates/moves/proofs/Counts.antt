-- What was read and what was written, by their counts: the first bytes, and each piece more.
-- Assumes nothing.
use Prim.Native.Nat.{ℕ, ◌+◌}
use native.Mathlib.Omega.{arith}
use mathlib.Core.Path.{◌≡◌, refl, ap, ◌∙◌}
use mathlib.Core.List.{List, ◌++◌}
use Rattle.std.specs.Prelude.{Result}
use lib.ListN.{length, drop, length-append}
use Rattle.heads.specs.Head.{head_length_in}
use Rattle.heads.specs.Moving.{moved_bytes}
use Rattle.moves.specs.declared.out.Sent.{Sent}
use Rattle.moves.specs.Moves.{Movable, MovedSoFar}
use Rattle.moves.proofs.Firsts.{head_inside}
use Rattle.moves.proofs.Pieces.{same_moving, more_long}

-- the head was written, and then the rest of the first bytes
pub first_written : {E : Type 0} (v : ℕ) (got : Result ℕ E) (first head rest : List ℕ) (none one both : Sent) → Movable v got first
    → head ≡ moved_bytes v first → rest ≡ drop (head_length_in first) first
    → none.bytes ≡ 0 → one.bytes ≡ none.bytes + length head → both.bytes ≡ one.bytes + length rest
    → MovedSoFar v (length first) both
first_written v got first head rest none one both movable is_head is_rest zero_sent head_sent rest_sent =
    let all = length-append (moved_bytes v first) (drop (head_length_in first) first) in
    record {
      input = first;
      count = refl;
      moves = movable.moves;
      written = omega (arith, zero_sent, head_sent, rest_sent, ap length is_head, ap length is_rest, all);
    }

-- a piece more
pub piece_written : (v read : ℕ) (piece : List ℕ) (before after : Sent) → MovedSoFar v read before
    → after.bytes ≡ before.bytes + length piece
    → MovedSoFar v (read + length piece) after
piece_written v read piece before after r sent =
    let inside = head_inside v r.input 26 r.moves in
    record {
      input = r.input ++ piece;
      count = omega (arith, length-append r.input piece, r.count);
      moves = same_moving v r.input piece inside 26 ∙ r.moves;
      written = omega (arith, sent, r.written, more_long v r.input piece inside);
    }
