-- What the first bytes hold whose head moves: the head, and room for it moved.
-- Assumes nothing.
use Prim.Native.Nat.{ℕ, ◌≤◌}
use native.Mathlib.Omega.{arith}
use mathlib.Core.Path.{◌≡◌, refl, sym, ap, ◌∙◌}
use mathlib.Core.Bool.{Bool, true, false}
use mathlib.Core.List.{List}
use lib.ListN.{length, take}
use lib.Seq.{sets, length-sets}
use lib.Dec.{eqb}
use borrow.Author.Tests.{ltb-false, le-ltb, eqb-true, eqb-false}
use Rattle.wire.specs.Codes.{others_write}
use Rattle.wire.specs.Choice.{pick}
use Rattle.wire.proofs.Laws.{by_test}
use Rattle.wire.proofs.Checks.{absent, not_given}
use Rattle.wire.proofs.Stores.{sets_taken}
use Rattle.lines.specs.Lines.{line_text, refusal_line}
use Rattle.heads.specs.declared.Head.{Head}
use Rattle.heads.specs.Head.{is_head_version, head_length, head_length_in, head_bytes, head_in, head_read_checks, head_read_code}
use Rattle.heads.specs.Moving.{loses, moved_to, moving_checks, moving_code, moved_bytes, move_writes}
use Rattle.heads.proofs.Codes.{by_version, bytes_old, bytes_new, most_long, moving_stops, moving_goes, put_by}
use Rattle.moves.specs.Moves.{refused_line}

-- a head that was read is there
pub head_inside : (v : ℕ) (s : List ℕ) (room : ℕ) → moving_code v s room ≡ 1 → head_length_in s ≤ length s
unfolding moving_code
head_inside v s room moves =
    let none = absent (moving_checks v s room) 1 refl moves in
    ltb-false (length s) (head_length_in s) none.1.1.1.0

-- a head of a version has as many bytes as that version has
length_moved : (v : ℕ) (h : Head) → is_head_version v ≡ true → length (head_bytes (moved_to v h)) ≡ head_length v
length_moved v h ok =
    by_version v ok
    (λ (e : v ≡ 1). ap length (bytes_old (moved_to v h) e) ∙ rw e refl)
    (λ (e : v ≡ 2). ap length (bytes_new (moved_to v h) e) ∙ rw e refl)

-- the moved head stands at the start of the lent bytes
pub record Stands (v : ℕ) (first array : List ℕ) : Type 0 where
  pub inside : head_length v ≤ length array
  pub bytes : take (head_length v) array ≡ moved_bytes v first

pub stands : (v : ℕ) (first l array : List ℕ) → is_head_version v ≡ true → length l ≡ 26 → moving_code v first 26 ≡ 1
    → array ≡ sets l 0 (move_writes v first 26) → Stands v first array
stands v first l array ok long moves stored =
    let writes : move_writes v first 26 ≡ moved_bytes v first = ap (λ (n : ℕ). others_write n (moved_bytes v first)) moves in
    let there : array ≡ sets l 0 (moved_bytes v first) = stored ∙ ap (sets l 0) writes in
    let count = length_moved v (head_in first) ok in
    let fits = most_long v in
    let text = moved_bytes v first in
    rw there
    (record {
      inside = rw length-sets (omega (arith, long, fits));
      bytes = ap (λ (n : ℕ). take n (sets l 0 text)) (sym count) ∙ sets_taken l 0 text (omega (arith, long, count, fits));
    })

-- no head is too long for 26 bytes
pub has_room_lem : (v : ℕ) (first : List ℕ) → moving_code v first 26 ≡ 20 → ⊥
unfolding head_read_code
has_room_lem v first none =
    by_test (eqb (head_read_code first) 1)
    (λ (e : eqb (head_read_code first) 1 ≡ true).
    let goes = moving_goes v first 26 (eqb-true (head_read_code first) 1 e) in
    let put = put_by v (head_in first) 26 refl (le-ltb 26 (head_length v) (most_long v)) in
    lost (loses v (head_in first)) (sym put ∙ sym goes ∙ none))
    (λ (e : eqb (head_read_code first) 1 ≡ false).
    let stops = moving_stops v first 26 (eqb-false (head_read_code first) 1 e) in
    not_given (head_read_checks first) 1 20 refl (λ z. omega arith) (sym stops ∙ none))
  where
    lost : (b : Bool) → ◌≡◌ {A = ℕ} (pick b 42 1) 20 → ⊥
    lost true z = omega arith
    lost false z = omega arith

-- a line of a refusal, by its code
pub refused : (v : ℕ) (first : List ℕ) {n : ℕ} → n ≡ moving_code v first 26 → line_text (refusal_line n 0) ≡ line_text (refused_line v first)
refused v first is = ap (λ (n : ℕ). line_text (refusal_line n 0)) is
