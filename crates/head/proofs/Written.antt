-- A head that may be written, in 26 bytes: it is not refused, and its bytes stand at their start.
-- Assumes nothing.
use Prim.Native.Nat.{ℕ}
use native.Mathlib.Omega.{arith}
use mathlib.Core.Path.{◌≡◌, sym, ap, ◌∙◌}
use mathlib.Core.Bool.{true}
use mathlib.Core.List.{List}
use lib.ListN.{length, take}
use lib.Seq.{sets, length-sets, length-take-le}
use borrow.Author.Tests.{le-ltb}
use borrow.Author.Rules.{rules}
use Rattle.wire.specs.Codes.{others_write}
use Rattle.wire.proofs.Stores.{sets_whole, sets_taken}
use Rattle.std.proofs.Common.{Result, Ok, Err}
use Rattle.std.specs.Result.{IsOk}
use Rattle.wire.specs.Refusal.{code_of}
use Rattle.wire.specs.declared.refusal.Refusal.{Refusal}
use Rattle.wire.proofs.Refusals.{done_no_refusal}
use Rattle.heads.specs.declared.Head.{Head}
use Rattle.heads.specs.Head.{head_length, head_bytes, allowed_head, head_write_code, written_bytes}
use Rattle.heads.proofs.Codes.{write_by, most_long, by_version, bytes_old, bytes_new}
use Rattle.heads.proofs.Values.{is_version_lem}

module _ (h : Head) (ok : allowed_head h ≡ true) where
  pub not_refused : head_write_code h 26 ≡ 1
  not_refused = write_by h 26 ok (le-ltb 26 (head_length h.version) (most_long h.version))

  module _ (l array : List ℕ) (long : length l ≡ 26) (stored : array ≡ sets l 0 (written_bytes h 26)) where
    stands : array ≡ sets l 0 (head_bytes h)
    stands = stored ∙ ap (λ (n : ℕ). sets l 0 (others_write n (head_bytes h))) not_refused

    pub all_of_it : h.version ≡ 2 → array ≡ head_bytes h
    all_of_it new = stands ∙ sets_whole l (head_bytes h) (ap length (bytes_new h new) ∙ sym long)

    pub half_of_it : (h.version ≡ 2 → ⊥) → take 14 array ≡ head_bytes h
    half_of_it not_new =
        let old : h.version ≡ 1 = by_version h.version (is_version_lem h ok) (λ e. e) (λ e. absurd (not_new e)) in
        let count : length (head_bytes h) ≡ 14 = ap length (bytes_old h old) in
        let taken = sets_taken l 0 (head_bytes h) (omega (arith, long, count)) in
        ap (take 14) stands ∙ ap (λ (n : ℕ). take n (sets l 0 (head_bytes h))) (sym count) ∙ taken

    pub fourteen : 14 ≡ length (take 14 array)
    fourteen = sym (length-take-le 14 array (rw (stands, length-sets) (omega (arith, long))))

-- what has the code of what was done was done
pub done : {A : Type 0} (r : Result A Refusal) → code_of r ≡ 1 → IsOk r
done (Ok a) e = search rules
done (Err r) e = done_no_refusal r (sym e)
