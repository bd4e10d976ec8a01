-- What a call, or the end, leaves in an array of 256 bytes: its lines stand in as many bytes as it says.
-- Assumes nothing.
use Prim.Native.Nat.{ℕ, ◌≤◌}
use native.Mathlib.Omega.{arith}
use mathlib.Core.Path.{◌≡◌, refl, ap, ◌∙◌}
use mathlib.Core.List.{List}
use lib.ListN.{length, take}
use lib.Seq.{sets, length-sets}
use Rattle.std.specs.Prelude.{Option, Some, None, Result, Ok, Err}
use Rattle.std.specs.Option.{unwrap_or}
use Rattle.std.specs.Result.{result_unwrap_or}
use Rattle.wire.specs.declared.refusal.Refusal.{Refusal}
use Rattle.wire.proofs.Stores.{sets_taken}
use Rattle.lines.specs.Due.{LinesAnswer}
use Rattle.spans.specs.declared.Span.{Span}
use Rattle.spans.specs.Eating.{Eaten, end_told, eating_of, finishing_of}
use Rattle.spans.proofs.Within.{eating_within, finishing_within}

pub record Lines (text : List ℕ) (wrote : ℕ) (array : List ℕ) : Type 0 where
  pub inside : wrote ≤ length array
  pub bytes : take wrote array ≡ text

stand : (text l array : List ℕ) (wrote : ℕ) → wrote ≡ length text → wrote ≤ length l → array ≡ sets l 0 text → Lines text wrote array
stand text l array wrote count fits stored =
    rw (count, stored)
    (record {
      inside = rw length-sets (omega arith);
      bytes = sets_taken l 0 text (omega arith);
    })

pub lines_of_piece : (s : Span) (piece l array : List ℕ) (r : Eaten) → length l ≡ 256 → r ≡ (eating_of s piece 256).eaten
    → array ≡ sets l 0 (eating_of s piece 256).bytes
    → Lines (eating_of s piece 256).bytes r.wrote array
lines_of_piece s piece l array r long is stored =
    let wrote : r.wrote ≡ (eating_of s piece 256).eaten.wrote = ap (λ (e : Eaten). e.wrote) is in
    let within = eating_within s piece 256 in
    stand (eating_of s piece 256).bytes l array r.wrote (wrote ∙ within.counts) (omega (arith, within.wrote)) stored

pub lines_of_end : (s : Span) (l array : List ℕ) (r : LinesAnswer) → length l ≡ 256 → r ≡ (finishing_of s 256).answer
    → array ≡ sets l 0 (finishing_of s 256).bytes
    → Lines (finishing_of s 256).bytes r.wrote array
lines_of_end s l array r long is stored =
    let wrote : r.wrote ≡ (finishing_of s 256).answer.wrote = ap (λ (t : LinesAnswer). t.wrote) is in
    let within = finishing_within s 256 in
    stand (finishing_of s 256).bytes l array r.wrote (wrote ∙ within.counts) (omega (arith, within.wrote)) stored

-- how many bytes of lines the end has, as it is asked for: none where none are due or it is refused
pub end_wrote : (r : Result (Option ℕ) Refusal) → unwrap_or (result_unwrap_or r None) 0 ≡ (end_told r).wrote
end_wrote (Ok (Some n)) = refl
end_wrote (Ok None) = refl
end_wrote (Err r) = refl
