-- The errors of samples in a row sum to the same wherever the row begins: request No. 3 of document 02. Assumes nothing.
use Prim.Native.Nat.{ℕ, zero, suc, ◌+◌, ◌<◌}
use mathlib.Core.Path.{◌≡◌, refl, sym, ap, ◌∙◌}
use mathlib.Core.Bool.{true}
use mathlib.Core.List.{map}
use native.Mathlib.Omega.{arith}
use lib.IntN.{ℤ, pos, negsuc, suc_ℤ, ◌+ℤ◌, ◌-ℤ◌, ◌*ℤ◌}
use lib.IntN.{+ℤ_assoc, +ℤ_comm, +ℤ_idl, +ℤ_idr, +ℤ_one, +ℤ-neg_ℤ_cancel, suc_ℤ-*ℤ}
use lib.Signed.{lt_z, shr_z}
use borrow.Author.Tests.{ltb-true, lt-ltb}
use Rattle.packets.specs.Samples.{rounded, narrowed}
use Rattle.packets.specs.Rounding.{error_of, in_a_row, sum_of, lean_of, rounded_down, NoLean}
use Rattle.packets.proofs.Quotients.{balance, shift_on}
use Rattle.packets.proofs.Narrowed.{unheld}

-- ---- a function of period n, summed over n numbers in a row

abbrev sum_from : (ℤ → ℤ) → ℕ → ℤ → ℤ
sum_from f n z = sum_of (map f (in_a_row n z))

on : (z : ℤ) (n : ℕ) → z +ℤ pos 1 +ℤ pos n ≡ z +ℤ pos (suc n)
on z n = +ℤ_assoc z (pos 1) (pos n) ∙ ap (λ (k : ℕ). z +ℤ pos k) (omega arith)

-- one at the end for one at the beginning
slide : (f : ℤ → ℤ) (n : ℕ) (z : ℤ) → f z +ℤ sum_from f n (z +ℤ pos 1) ≡ sum_from f n z +ℤ f (z +ℤ pos n)
slide f zero z = +ℤ_idr (f z) ∙ ap f (sym (+ℤ_idr z)) ∙ sym (+ℤ_idl (f (z +ℤ pos 0)))
slide f (suc n) z =
    ap (λ (x : ℤ). f z +ℤ x) (slide f n (z +ℤ pos 1) ∙ ap (λ (y : ℤ). sum_from f n (z +ℤ pos 1) +ℤ f y) (on z n))
    ∙ sym (+ℤ_assoc (f z) (sum_from f n (z +ℤ pos 1)) (f (z +ℤ pos (suc n))))

module _ (f : ℤ → ℤ) (n : ℕ) (period : (z : ℤ) → f (z +ℤ pos n) ≡ f z) where
  one_on : (z : ℤ) → sum_from f n (suc_ℤ z) ≡ sum_from f n z
  one_on z =
      let s = sum_from f n (suc_ℤ z) in
      let both : s +ℤ f z ≡ sum_from f n z +ℤ f z
      = +ℤ_comm s (f z) ∙ ap (λ (y : ℤ). f z +ℤ sum_from f n y) (sym (+ℤ_one z)) ∙ slide f n z
      ∙ ap (λ (x : ℤ). sum_from f n z +ℤ x) (period z) in
      sym (+ℤ-neg_ℤ_cancel s (f z)) ∙ ap (λ (x : ℤ). x -ℤ f z) both ∙ +ℤ-neg_ℤ_cancel (sum_from f n z) (f z)

  anywhere : (z : ℤ) → sum_from f n z ≡ sum_from f n (pos 0)
  anywhere (pos zero) = refl
  anywhere (pos (suc k)) = one_on (pos k) ∙ anywhere (pos k)
  anywhere (negsuc zero) = sym (one_on (negsuc zero))
  anywhere (negsuc (suc k)) = sym (one_on (negsuc (suc k))) ∙ anywhere (negsuc k)

-- ---- the errors of a quotient rounded down, which have the divisor's period, whatever is added before

abbrev floor_of : ℕ → ℕ → ℤ → ℤ
floor_of m a z = shr_z (z +ℤ pos a) m

repeats : (m a : ℕ) → 0 < m → (z : ℤ) → error_of m (floor_of m a) (z +ℤ pos m) ≡ error_of m (floor_of m a) z
repeats m a some z =
    let q = floor_of m a z in
    let swap : z +ℤ pos m +ℤ pos a ≡ z +ℤ pos a +ℤ pos m
    = +ℤ_assoc z (pos m) (pos a) ∙ ap (λ (x : ℤ). z +ℤ x) (+ℤ_comm (pos m) (pos a)) ∙ sym (+ℤ_assoc z (pos a) (pos m)) in
    let next : floor_of m a (z +ℤ pos m) ≡ suc_ℤ q = ap (λ (x : ℤ). shr_z x m) swap ∙ shift_on m some (z +ℤ pos a) in
    let scaled : floor_of m a (z +ℤ pos m) *ℤ pos m ≡ q *ℤ pos m +ℤ pos m
    = ap (λ (x : ℤ). x *ℤ pos m) next ∙ suc_ℤ-*ℤ q (pos m) in
    let level : z +ℤ pos m +ℤ q *ℤ pos m ≡ q *ℤ pos m +ℤ pos m +ℤ z
    = +ℤ_comm (z +ℤ pos m) (q *ℤ pos m) ∙ ap (λ (x : ℤ). q *ℤ pos m +ℤ x) (+ℤ_comm z (pos m))
    ∙ sym (+ℤ_assoc (q *ℤ pos m) (pos m) z) in
    ap (λ (x : ℤ). x -ℤ (z +ℤ pos m)) scaled ∙ balance (q *ℤ pos m +ℤ pos m) (z +ℤ pos m) (q *ℤ pos m) z level

-- ---- below the samples that are held the rule is such a quotient

lower : (b n : ℕ) (z : ℤ) → lt_z (z +ℤ pos n) (pos b) ≡ true → lt_z z (pos b) ≡ true
lower b n (pos k) l = lt-ltb k b (omega (arith, ltb-true (k + n) b l))
lower b n (negsuc k) l = refl

unheld_errors : (n : ℕ) (z : ℤ) → lt_z (z +ℤ pos n) (pos 8_388_480) ≡ true
    → sum_from (error_of 256 (narrowed 16)) (suc n) z ≡ sum_from (error_of 256 (rounded 16)) (suc n) z
unheld_errors zero z l =
    ap (λ (x : ℤ). x *ℤ pos 256 -ℤ z +ℤ pos 0) (unheld 16 (omega arith) (omega arith) z (lower 8_388_480 0 z l))
unheld_errors (suc n) z l =
    let first = unheld 16 (omega arith) (omega arith) z (lower 8_388_480 (suc n) z l) in
    let rest = unheld_errors n (z +ℤ pos 1) (ap (λ (y : ℤ). lt_z y (pos 8_388_480)) (on z n) ∙ l) in
    ap (λ (x : ℤ). x *ℤ pos 256 -ℤ z +ℤ sum_from (error_of 256 (narrowed 16)) (suc n) (z +ℤ pos 1)) first
    ∙ ap (λ (x : ℤ). error_of 256 (rounded 16) z +ℤ x) rest

-- 01's rule is one too, with nothing added
down_repeats : (z : ℤ) → error_of 256 rounded_down (z +ℤ pos 256) ≡ error_of 256 rounded_down z
down_repeats z = same (z +ℤ pos 256) ∙ repeats 256 0 (omega arith) z ∙ sym (same z)
  where
    same : (y : ℤ) → error_of 256 rounded_down y ≡ error_of 256 (floor_of 256 0) y
    same y = ap (λ (x : ℤ). shr_z x 256 *ℤ pos 256 -ℤ y) (sym (+ℤ_idr y))

pub no_lean : NoLean
unfolding lean_of
no_lean =
    record {
      before = anywhere (error_of 256 rounded_down) 256 down_repeats;
      after = λ z l. unheld_errors 255 z l ∙ anywhere (error_of 256 (rounded 16)) 256 (repeats 256 128 (omega arith)) z;
    }
