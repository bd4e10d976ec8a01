-- A part of a list, and an array that it fills.
use Prim.Native.Nat.{ℕ, ◌+◌, ◌≤◌}
use mathlib.Core.Path.{◌≡◌, sym, ◌∙◌}
use mathlib.Core.List.{List}
use native.Mathlib.Omega.{arith}
use lib.ListN.{length, take, drop, length-take, length-drop}
use lib.Seq.{sets}
use Rattle.wire.proofs.Stores.{sets_whole}

pub length_part : (at n : ℕ) (s : List ℕ) → at + n ≤ length s → length (take n (drop at s)) ≡ n
length_part at n s fits = simp (length-take, length-drop) (omega arith)

-- an array that a part was stored in is the part
pub filled : (at n : ℕ) (s l : List ℕ) {r : List ℕ} → length l ≡ n → at + n ≤ length s → r ≡ sets l 0 (take n (drop at s))
    → r ≡ take n (drop at s)
filled at n s l long fits stored = stored ∙ sets_whole l (take n (drop at s)) (length_part at n s fits ∙ sym long)
