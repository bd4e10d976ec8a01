-- Demand 3's bound is sharp: with one packet more lost between two, two choices of what was lost leave the same numbers.
use Prim.Native.Nat.{ℕ, zero, suc, ◌+◌}
use mathlib.Core.Path.{◌≡◌, refl, sym, ap, ◌∙◌}
use mathlib.Core.List.{List, [], ◌∷◌, ◌++◌, map}
use native.Mathlib.Omega.{arith}
use lib.ListN.{length, replicate}
use Rattle.packets.specs.declared.Form.{Form}
use Rattle.packets.specs.Numbers.{number_at, number_in}
use Rattle.cutting.specs.Cutting.{form_now}
use Rattle.positions.specs.Losses.{arrives, lost, arriving, positions_from}
use Rattle.positions.specs.Demand.{next_arrives, later_arrives, BoundIsSharp}
use Rattle.positions.proofs.Demand.{Numbered, from_start, arriving_numbers}

arriving_none : {A : Type 0} (n : ℕ) (xs : List A) → arriving (replicate n lost) xs ≡ []
arriving_none zero xs = refl
arriving_none (suc n) [] = refl
arriving_none (suc n) (x ∷ xs) = arriving_none n xs

arriving_last : {A : Type 0} (n k : ℕ) (xs : List A) → length xs ≡ n + 1
    → arriving (replicate n lost ++ arrives ∷ []) (positions_from k xs) ≡ (k + n) ∷ []
arriving_last zero k [] e = absurd (omega arith)
arriving_last zero k (x ∷ xs) e = ap (λ (m : ℕ). m ∷ []) (omega arith)
arriving_last (suc n) k [] e = absurd (omega arith)
arriving_last (suc n) k (x ∷ xs) e = arriving_last n (k + 1) xs (omega arith) ∙ ap (λ (m : ℕ). m ∷ []) (omega arith)

-- the positions that arrive: 0 and 1, and 0 and n + 1
next_arriving : {A : Type 0} (n : ℕ) (xs : List A) → length xs ≡ n + 2 → arriving (next_arrives n) (positions_from 0 xs) ≡ 0 ∷ 1 ∷ []
unfolding next_arrives
next_arriving n [] e = absurd (omega arith)
next_arriving n (x ∷ []) e = absurd (omega arith)
next_arriving n (x ∷ (y ∷ xs)) e = ap (λ (l : List ℕ). 0 ∷ 1 ∷ l) (arriving_none n (positions_from 2 xs))

later_arriving : {A : Type 0} (n : ℕ) (xs : List A) → length xs ≡ n + 2 → arriving (later_arrives n) (positions_from 0 xs) ≡ 0 ∷ (1 + n) ∷ []
unfolding later_arrives
later_arriving n [] e = absurd (omega arith)
later_arriving n (x ∷ xs) e = ap (λ (l : List ℕ). 0 ∷ l) (arriving_last n 1 xs (omega arith))

alike : (f : Form) (n : ℕ) (packets : List (List ℕ)) → Numbered f 0 packets → length packets ≡ n + 2
    → number_at 1 ≡ number_at (1 + n)
    → map number_in (arriving (next_arrives n) packets) ≡ map number_in (arriving (later_arrives n) packets)
alike f n packets all e turn =
    arriving_numbers f (next_arrives n) packets 0 all
    ∙ ap (map number_at) (next_arriving n packets e)
    ∙ ap (λ (m : ℕ). 0 ∷ m ∷ []) turn
    ∙ sym (ap (map number_at) (later_arriving n packets e))
    ∙ sym (arriving_numbers f (later_arrives n) packets 0 all)

pub bound_is_sharp : BoundIsSharp
bound_is_sharp s packets c e = alike (form_now s.settings) 65_535 packets (from_start c) e refl
