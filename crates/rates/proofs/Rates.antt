-- The table of achieved rates: each entry by the rounding rule, all distinct, and each the rate of one D.
use Prim.Native.Nat.{ℕ, zero, suc, ◌+◌, ◌*◌, ◌-◌, ◌/◌, ◌%◌, ◌<◌, ◌≤◌, suc-le-suc}
use mathlib.Core.Path.{◌≡◌, refl, sym, ap, ◌∙◌}
use mathlib.Core.Bool.{Bool, true, false}
use mathlib.Core.List.{List, [], ◌∷◌}
use Rattle.std.proofs.Common.{Option, Some, None}
use Rattle.std.specs.Bool.{then_some}
use native.Mathlib.Nat.{le_of_suc-le-suc, not-suc-le-zero, add-zero}
use native.Mathlib.Decide.{ℕ_discrete}
use native.Mathlib.Omega.{arith}
use lib.Dec.{eqb, ltb, eqb→eq}
use lib.ListN.{length, get_or}
use borrow.Author.Tests.{eq-eqb, ne_eqb, eqb-true, eqb-false, lt-ltb, ltb-true}
use Rattle.wire.specs.Choice.{pick, one_of}
use Rattle.wire.specs.Halves.{NearestUp}
use Rattle.wire.proofs.Halves.{half_up}
use Rattle.wire.proofs.Laws.{true_not_false, test_true, within_low, within_high, is_within, by_test}
use Rattle.rates.specs.Rate.{is_d, rate_of, may_ask, nearest_of}
use Rattle.rates.specs.Entries.{entries}
use Rattle.rates.specs.Table.{rates_from, rates, d_in, d_of}
use Rattle.rates.proofs.Rules.{everywhere, falling}
use Rattle.rates.proofs.Choosing.{chosen, nearest_chosen, nearest_is}

-- The numbers written out in the code are the rule's, in turn: all 616 at once. Whatever is said of the table rests on this.
pub table_rates : entries ≡ rates
unfolding entries rates rate_of
table_rates = refl

-- the rule at each place of its list
from_rule : (n d k : ℕ) → k < n → get_or (rates_from d n) k 0 ≡ rate_of (k + d)
from_rule zero d k h = absurd (not-suc-le-zero h)
from_rule (suc n) d zero h = ap rate_of (omega arith)
from_rule (suc n) d (suc k) h = from_rule n (d + 1) k (le_of_suc-le-suc h) ∙ ap rate_of (omega arith)

-- the rounding rule: the number at the place D less ten is the rate of D
pub table_rule : (k : ℕ) → k < 616 → get_or entries k 0 ≡ rate_of (k + 10)
unfolding rates
table_rule k h = ap (λ (l : List ℕ). get_or l k 0) table_rates ∙ from_rule 616 10 k h

-- "rounded to a whole Hz, halves up"
pub rate_nearest : (d : ℕ) → is_d d ≡ true → NearestUp 20_000_000 d (rate_of d)
unfolding rate_of
rate_nearest d is = half_up 20_000_000 d (omega (arith, within_low 10 625 d is))

-- each entry is below those before it, so that all are distinct
pub table_falls : (j k : ℕ) → j < k → k < 616 → get_or entries k 0 < get_or entries j 0
unfolding entries
table_falls = falling 2000001 entries tt

-- a fact that holds at each place of the table holds of each D
at_d : (P : ℕ → Type 0) → ((k : ℕ) → k < 616 → P (k + 10)) → (d : ℕ) → is_d d ≡ true → P d
at_d P h d is =
    let low : 10 ≤ d = within_low 10 625 d is in
    let high : d ≤ 625 = within_high 10 625 d is in
    let place : d - 10 + 10 ≡ d = omega arith in
    rw place at (h (d - 10) (omega arith))

asked : (k : ℕ) → k < 616 → may_ask (rate_of (k + 10)) ≡ true
unfolding entries
asked k h =
    let here : may_ask (get_or entries k 0) ≡ true = test_true _ (everywhere (λ j x. may_ask x) 616 entries tt refl k h) in
    rw (table_rule k h) at here

-- an achieved rate lies in 32,000 to 2,000,000
pub rate_asked : (d : ℕ) → is_d d ≡ true → may_ask (rate_of d) ≡ true
rate_asked = at_d (λ d. may_ask (rate_of d) ≡ true) asked

back : (k : ℕ) → k < 616 → chosen (rate_of (k + 10)) ≡ k + 10
unfolding entries chosen
back k h =
    let here : chosen (get_or entries k 0) ≡ k + 10 = eqb→eq _ _ (everywhere (λ j x. eqb (chosen x) (j + 10)) 616 entries tt refl k h) in
    rw (table_rule k h) at here

-- and names its D alone: asked for, it gives this D
pub rate_names : (d : ℕ) → is_d d ≡ true → nearest_of (rate_of d) ≡ d
rate_names d is = nearest_chosen (rate_of d) (rate_asked d is) ∙ at_d (λ e. chosen (rate_of e) ≡ e) back d is

-- ---- a place by stretches of 56

-- the place is where its stretch begins, and its place in the stretch
pub stretch : (k i : ℕ) → i / 56 ≡ k → 56 * k + i % 56 ≡ i
stretch k i is = omega arith

-- ---- the D of an achieved rate

lt_ne : (n : ℕ) → 0 < n → n ≡ 0 → ⊥
lt_ne n some none = omega arith

table_length : length entries ≡ 616
unfolding entries
table_length = refl

in_at : (xs : List ℕ) (d rate k : ℕ) → k < length xs → ((j : ℕ) → j < k → get_or xs j 0 ≡ rate → ⊥) → get_or xs k 0 ≡ rate
    → d_in xs d rate ≡ d + k
in_at [] d rate k h others is = absurd (not-suc-le-zero h)
in_at (x ∷ xs) d rate zero h others is = rw (eq-eqb x rate is) (sym (add-zero d))
in_at (x ∷ xs) d rate (suc k) h others is =
    let first : eqb x rate ≡ false = ne_eqb x rate (λ e. others 0 (omega arith) e) in
    rw first
    (in_at xs (d + 1) rate k (le_of_suc-le-suc h) (λ j l e. others (suc j) (suc-le-suc l) e) is ∙ omega arith)

in_none : (xs : List ℕ) (d rate : ℕ) → ((k : ℕ) → k < length xs → get_or xs k 0 ≡ rate → ⊥) → d_in xs d rate ≡ 0
in_none [] d rate none = refl
in_none (x ∷ xs) d rate none =
    let first : eqb x rate ≡ false = ne_eqb x rate (λ e. none 0 (omega arith) e) in
    rw first (in_none xs (d + 1) rate (λ k l e. none (suc k) (suc-le-suc l) e))

of_place : (k : ℕ) → k < 616 → d_of (rate_of (k + 10)) ≡ k + 10
unfolding d_of
of_place k h =
    rw (← table_rates)
    (in_at entries 10 (rate_of (k + 10)) k (rw table_length h)
    (λ j l e. omega (arith, table_falls j k l h, table_rule k h, e)) (table_rule k h)
    ∙ omega arith)

-- the achieved rate of a D has this D
pub d_of_rate : (d : ℕ) → is_d d ≡ true → d_of (rate_of d) ≡ d
d_of_rate = at_d (λ d. d_of (rate_of d) ≡ d) of_place

-- a rate that is no D's achieved rate has none
pub d_of_none : (rate : ℕ) → ((d : ℕ) → is_d d ≡ true → rate_of d ≡ rate → ⊥) → d_of rate ≡ 0
unfolding d_of
d_of_none rate none = rw (← table_rates) (in_none entries 10 rate nowhere)
  where
    nowhere : (k : ℕ) → k < length entries → get_or entries k 0 ≡ rate → ⊥
    nowhere k h e =
        let inside : k < 616 = omega (arith, table_length) in
        none (k + 10) (is_within 10 625 (k + 10) (omega arith) (omega arith)) (sym (table_rule k inside) ∙ e)

-- so has a rate that may not be asked for
pub d_of_unasked : (rate : ℕ) → may_ask rate ≡ false → d_of rate ≡ 0
d_of_unasked rate unasked = d_of_none rate (λ e is same. true_not_false (sym (rate_asked e is) ∙ ap may_ask same ∙ unasked))

-- the nearest D is a D
pub nearest_d : (rate : ℕ) → may_ask rate ≡ true → is_d (nearest_of rate) ≡ true
nearest_d rate asked =
    let n = nearest_is rate asked in
    is_within 10 625 (nearest_of rate) n.least n.most

-- ---- what `nearest` and `achieved` find of a rate

module _ (rate : ℕ) (asked : may_ask rate ≡ true) where
  -- its nearest D has it, or none has
  pub d_of_hit : rate_of (nearest_of rate) ≡ rate → d_of rate ≡ nearest_of rate
  d_of_hit same = ap d_of (sym same) ∙ d_of_rate (nearest_of rate) (nearest_d rate asked)

  pub d_of_miss : (rate_of (nearest_of rate) ≡ rate → ⊥) → d_of rate ≡ 0
  d_of_miss other = d_of_none rate none
    where
      none : (e : ℕ) → is_d e ≡ true → rate_of e ≡ rate → ⊥
      none e is same =
          let found : nearest_of rate ≡ e = sym (ap nearest_of same) ∙ rate_names e is in
          other (ap rate_of found ∙ same)

-- the answer, as `d_of` gives it
abbrev pub Found : ℕ → Option ℕ → Type 0
Found rate found = found ≡ pick (ltb 0 (d_of rate)) (Some (d_of rate)) None

-- no D is the nearest of a rate that may not be asked for
pub none_near : (rate : ℕ) → None ≡ pick (may_ask rate) (Some (nearest_of rate)) None → Found rate None
none_near rate near = by_test (may_ask rate) asked unasked
  where
    asked : may_ask rate ≡ true → Found rate None
    asked a = absurd (let e : None ≡ Some (nearest_of rate) = rw a at near in cc)

    unasked : may_ask rate ≡ false → Found rate None
    unasked u = rw (d_of_unasked rate u)

-- the nearest D has an achieved rate, which is this one or not
module _ (rate d : ℕ) (near : Some d ≡ pick (may_ask rate) (Some (nearest_of rate)) None) where
  may : may_ask rate ≡ true
  may = by_test (may_ask rate) (λ a. a) none
    where
      none : may_ask rate ≡ false → may_ask rate ≡ true
      none u = absurd (let e : Some d ≡ None = rw u at near in cc)

  nearest_has : nearest_of rate ≡ d
  nearest_has = let e : Some d ≡ Some (nearest_of rate) = rw may at near in cc

  its : is_d d ≡ true
  its = rw (← nearest_has) (nearest_d rate may)

  pub none_achieved : None ≡ pick (is_d d) (Some (rate_of d)) None → Found rate None
  none_achieved got = absurd (let e : None ≡ Some (rate_of d) = rw its at got in cc)

  pub some_achieved : (a : ℕ) → Some a ≡ pick (is_d d) (Some (rate_of d)) None → Found rate (then_some (eqb a rate) d)
  some_achieved a got = by_test (eqb a rate) same other
    where
      is : rate_of (nearest_of rate) ≡ a
      is = let e : Some a ≡ Some (rate_of d) = rw its at got in rw nearest_has (cc)

      same : eqb a rate ≡ true → Found rate (then_some (eqb a rate) d)
      same e =
          let here : d_of rate ≡ d = d_of_hit rate may (is ∙ eqb-true a rate e) ∙ nearest_has in
          rw (e, here, lt-ltb 0 d (omega (arith, within_low 10 625 d its)))

      other : eqb a rate ≡ false → Found rate (then_some (eqb a rate) d)
      other e =
          let none : d_of rate ≡ 0 = d_of_miss rate may (λ s. eqb-false a rate e (sym is ∙ s)) in
          rw (e, none)

-- a D that is found is a D, and has this achieved rate
pub d_of_found : (rate : ℕ) → 0 < d_of rate → (is_d (d_of rate) ≡ true) × (rate_of (d_of rate) ≡ rate)
d_of_found rate some = go (may_ask rate) refl
  where
    go : (t : Bool) → may_ask rate ≡ t → (is_d (d_of rate) ≡ true) × (rate_of (d_of rate) ≡ rate)
    go false unasked = absurd (lt_ne (d_of rate) some (d_of_unasked rate unasked))
    go true asked =
        let d : ℕ = nearest_of rate in
        let is : is_d d ≡ true = nearest_d rate asked in
        elim (ℕ_discrete (rate_of d) rate) [
          | yes same ↦ (let its : d_of rate ≡ d = d_of_hit rate asked same in (rw its is, rw its same))
          | no other ↦ absurd (lt_ne (d_of rate) some (d_of_miss rate asked other))
        ]

-- a rate has a D exactly where it is one of the table
found_in_lem : (xs : List ℕ) (d rate : ℕ) → 0 < d → ltb 0 (d_in xs d rate) ≡ one_of rate xs
found_in_lem [] d rate some = refl
found_in_lem (x ∷ xs) d rate some =
    by_test (eqb rate x)
    (λ here. rw (eq-eqb x rate (sym (eqb-true rate x here)), here) (lt-ltb 0 d some))
    (λ other. rw (ne_eqb x rate (λ is. eqb-false rate x other (sym is)), other) (found_in_lem xs (d + 1) rate (omega arith)))

pub rate_listed : (rate : ℕ) → ltb 0 (d_of rate) ≡ one_of rate rates
unfolding d_of
rate_listed rate = found_in_lem rates 10 rate (omega arith)

-- so a rate of the table has a D, and is its achieved rate
pub listed_d : (rate : ℕ) → one_of rate rates ≡ true → (is_d (d_of rate) ≡ true) × (rate_of (d_of rate) ≡ rate)
listed_d rate is = d_of_found rate (ltb-true 0 (d_of rate) (rate_listed rate ∙ is))
