-- The D with the nearest exact rate: the search of the definition finds it, it is found without a search, and no tie can be.
use Prim.Native.Nat.{ℕ, zero, suc, ◌+◌, ◌*◌, ◌-◌, ◌/◌, ◌%◌, ◌≤◌, ◌<◌}
use mathlib.Core.Path.{◌≡◌, refl, sym, ap, ◌∙◌}
use mathlib.Core.Bool.{true, false}
use native.Mathlib.Nat.{le_refl, le_of_lt, div-add-mod, mod-lt, mul-le-mul, mul-le-mul_right, le-div_iff_mul-le}
use native.Mathlib.Decide.{dec_lt, ℕ_discrete}
use native.Mathlib.Omega.{arith}
use lib.Dec.{ltb, ltb→lt}
use borrow.Author.Tests.{lt-ltb, le-ltb, ltb-true, ltb-false}
use Rattle.wire.specs.Choice.{pick}
use Rattle.wire.proofs.Laws.{within_low, within_high, pick_keeps}
use Rattle.rates.specs.Rate.{may_ask, miss, Nearer, Nearest, nearest_up_to, nearest_of}
use Rattle.rates.specs.Entries.{entries}
use Rattle.rates.proofs.Rules.{everywhere}
use Rattle.rates.proofs.Fractions.{between, here_before, here_after, next_before, next_after, tie}

-- ---- at most one D is the nearest

pub nearest_one : (f d e : ℕ) → Nearest f d → Nearest f e → d ≡ e
nearest_one f d e p q =
    elim (ℕ_discrete d e) [
      | yes same ↦ same
      | no other ↦ omega (arith, p.nearest e q.least q.most (λ s. other (sym s)), q.nearest d p.least p.most other)
    ]

-- ---- the search of the definition

-- of 10, 11, .., 10 + n none is nearer than d
pub record Best (f n d : ℕ) : Type 0 where
  pub least : 10 ≤ d
  pub most : d ≤ 10 + n
  pub best : (e : ℕ) → 10 ≤ e → e ≤ 10 + n → miss f d * e ≤ miss f e * d

-- one D more: it is nearer than the best so far, or the best so far stays
module _ (f n d : ℕ) (b : Best f n d) where
  newer : ltb (miss f (11 + n) * d) (miss f d * (11 + n)) ≡ true → Best f (suc n) (11 + n)
  newer test = record { least = omega arith; most = omega arith; best = best }
    where
      best : (e : ℕ) → 10 ≤ e → e ≤ 10 + suc n → miss f (11 + n) * e ≤ miss f e * (11 + n)
      best e low high =
          elim (dec_lt e (11 + n)) [
            | yes less ↦ (
                let d_pos : 0 < d = omega (arith, b.least) in
                let so_far : e ≤ 10 + n = omega arith in
                let than_d : miss f (11 + n) * d ≤ miss f d * (11 + n) = le_of_lt (ltb-true (miss f (11 + n) * d) _ test) in
                between (miss f (11 + n)) (11 + n) (miss f d) d (miss f e) e d_pos than_d (b.best e low so_far))
            | no less ↦ (let same : e ≡ 11 + n = omega arith in rw same (le_refl (miss f (11 + n) * (11 + n))))
          ]

  older : ltb (miss f (11 + n) * d) (miss f d * (11 + n)) ≡ false → Best f (suc n) d
  older test = record { least = b.least; most = omega (arith, b.most); best = best }
    where
      best : (e : ℕ) → 10 ≤ e → e ≤ 10 + suc n → miss f d * e ≤ miss f e * d
      best e low high =
          elim (dec_lt e (11 + n)) [
            | yes less ↦ (let so_far : e ≤ 10 + n = omega arith in b.best e low so_far)
            | no less ↦ (let same : e ≡ 11 + n = omega arith in rw same (ltb-false (miss f (11 + n) * d) (miss f d * (11 + n)) test))
          ]

search_best : (f n : ℕ) → Best f n (nearest_up_to f n)
unfolding nearest_up_to
search_best f zero =
    record {
      least = omega arith;
      most = omega arith;
      best = λ e low high. (let same : e ≡ 10 = omega arith in rw same (le_refl (miss f 10 * 10)));
    }
search_best f (suc n) =
    let d : ℕ = nearest_up_to f n in
    pick_keeps (Best f (suc n)) (ltb (miss f (11 + n) * d) (miss f d * (11 + n))) (11 + n) d
    (newer f n d (search_best f n))
    (older f n d (search_best f n))

-- where one D is the nearest, it is the best of all
best_nearest : (f d x : ℕ) → Nearest f d → Best f 615 x → x ≡ d
best_nearest f d x p b =
    elim (ℕ_discrete x d) [
      | yes same ↦ same
      | no other ↦ omega (arith, p.nearest x b.least b.most other, b.best d p.least p.most)
    ]

-- ---- without a search

-- the nearer of the D on both sides of 20,000,000 / f
unfoldable pub chosen : ℕ → ℕ
chosen f =
    pick (ltb (20000000 % f * (20000000 / f + 1)) ((f - 20000000 % f) * (20000000 / f))) (20000000 / f) (20000000 / f + 1)

-- 2 d (d + 1) divides 20,000,000 for no D: one test over the table
abbrev tie_rest : ℕ → ℕ
tie_rest d = 20000000 % (2 * (d * (d + 1)))

no_tie : (d : ℕ) → 10 ≤ d → d ≤ 625 → 0 < tie_rest d
unfolding entries
no_tie d low high =
    let place : d - 10 + 10 ≡ d = omega arith in
    let here : 0 < tie_rest (d - 10 + 10)
    = ltb→lt 0 (tie_rest (d - 10 + 10)) (everywhere (λ k x. ltb 0 (tie_rest (k + 10))) 616 entries tt refl (d - 10) (omega arith)) in
    rw place at here

module _ (f : ℕ) (asked : may_ask f ≡ true) where
  -- the quotient d, what is left above, and what is missing below
  abbrev d : ℕ
  d = 20000000 / f

  abbrev above : ℕ
  above = 20000000 % f

  abbrev below : ℕ
  below = f - above

  pub low : 32000 ≤ f
  low = within_low 32000 2000000 f asked

  pub high : f ≤ 2000000
  high = within_high 32000 2000000 f asked

  pub whole : f * d + above ≡ 20000000
  whole = div-add-mod 20000000 f

  pub rest : above < f
  rest = mod-lt 20000000 (omega (arith, low))

  pub ten : 10 ≤ d
  ten =
      let some : 0 < f = omega (arith, low) in
      let fits : 10 * f ≤ 20000000 = omega (arith, high) in
      (le-div_iff_mul-le some).1 fits

  pub most : d ≤ 625
  most = omega (arith, whole, mul-le-mul_right d low)

  pub parts : f ≡ above + below
  parts = omega (arith, rest)

  pub some : 0 < below
  some = omega (arith, rest)

  pos : 0 < d
  pos = omega (arith, ten)

  here_nearest : above * (d + 1) < below * d → Nearest f d
  here_nearest less = record { least = ten; most = most; nearest = others }
    where
      others : (e : ℕ) → 10 ≤ e → e ≤ 625 → (e ≡ d → ⊥) → Nearer f d e
      others e l h other =
          elim (dec_lt e d) [
            | yes before ↦ here_before f d above below whole parts some pos e (d - e) (omega arith) (omega arith)
            | no before ↦ here_after f d above below whole parts some pos less e (e - suc d) (omega arith)
          ]

  next_nearest : below * d < above * (d + 1) → Nearest f (d + 1)
  next_nearest less = record { least = omega (arith, ten); most = room; nearest = others }
    where
      room : d + 1 ≤ 625
      room =
          elim (dec_lt d 625) [
            | yes fits ↦ omega arith
            | no full ↦ (
                let all : f * d ≡ f * 625 = ap (λ (m : ℕ). f * m) (omega (arith, most)) in
                let none : above ≡ 0 = omega (arith, whole, low) in
                omega (arith, ap (λ (m : ℕ). m * (d + 1)) none))
          ]

      others : (e : ℕ) → 10 ≤ e → e ≤ 625 → (e ≡ d + 1 → ⊥) → Nearer f (d + 1) e
      others e l h other =
          elim (dec_lt d e) [
            | yes after ↦ next_after f d above below whole parts some pos e (e - suc (suc d)) (omega arith)
            | no after ↦ next_before f d above below whole parts some pos less e (d - e) (omega arith)
          ]

  differ : below * d ≡ above * (d + 1) → ⊥
  differ even =
      omega (arith, no_tie d ten most, tie f d above below whole parts some pos even)

  pub chosen_nearest : Nearest f (chosen f)
  unfolding chosen
  chosen_nearest =
      elim (dec_lt (above * (d + 1)) (below * d)) [
        | yes less ↦ rw (lt-ltb (above * (d + 1)) (below * d) less) (here_nearest less)
        | no less ↦ rw (le-ltb (above * (d + 1)) (below * d) (omega arith)) (next_nearest (more less))
      ]
    where
      more : (above * (d + 1) < below * d → ⊥) → below * d < above * (d + 1)
      more less = elim (ℕ_discrete (below * d) (above * (d + 1))) [ yes even ↦ absurd (differ even) | no odd ↦ omega arith ]

  -- the search and the two candidates agree
  pub nearest_chosen : nearest_of f ≡ chosen f
  nearest_chosen = best_nearest f (chosen f) (nearest_of f) chosen_nearest (search_best f 615)

  -- which of the two the test picks
  pub nearest_here : above * (d + 1) < below * d → nearest_of f ≡ d
  unfolding chosen
  nearest_here less = nearest_chosen ∙ rw (lt-ltb (above * (d + 1)) (below * d) less)

  pub nearest_next : below * d ≤ above * (d + 1) → nearest_of f ≡ d + 1
  unfolding chosen
  nearest_next more = nearest_chosen ∙ rw (le-ltb (above * (d + 1)) (below * d) more)

  -- the products have 32 bits
  pub above_fits : above * (d + 1) ≤ 2000000 * 626
  above_fits =
      let few : above ≤ 2000000 = omega (arith, rest, high) in
      let small : d + 1 ≤ 626 = omega (arith, most) in
      mul-le-mul few small

  pub below_fits : below * d ≤ 2000000 * 625
  below_fits =
      let few : below ≤ 2000000 = omega (arith, high) in
      mul-le-mul few most

  -- "the D with the nearest exact rate is taken"
  pub nearest_is : Nearest f (nearest_of f)
  nearest_is = rw nearest_chosen chosen_nearest

  -- "and no whole rate lies equally near to two": two D, of which neither has a nearer, are one
  pub no_ties : (a b : ℕ) → Best f 615 a → Best f 615 b → a ≡ b
  no_ties a b p q = best_nearest f (chosen f) a chosen_nearest p ∙ sym (best_nearest f (chosen f) b chosen_nearest q)
