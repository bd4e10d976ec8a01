-- The channels of a packet stand in turn: a place is a pair's, then a channel's, then that of I or Q. Each channel has as many pairs as the
-- other, so all places are taken.
use Prim.Native.Nat.{ℕ, suc, ◌+◌, ◌*◌, ◌/◌, ◌%◌, ◌≤◌, ◌<◌}
use mathlib.Core.Path.{◌≡◌, refl, ap}
use mathlib.Core.Bool.{true}
use mathlib.Core.List.{[], ◌∷◌}
use native.Mathlib.Decide.{dec_lt}
use native.Mathlib.Nat.{mul_comm, mul-suc, mul-le-mul_left, div-one, div-le_self, div-add-mod, mod-lt, div-lt_iff_lt-mul}
use native.Mathlib.Omega.{arith}
use native.Mathlib.Numerals.{add-one}
use lib.Dec.{eqb}
use borrow.Author.Tests.{eqb-true}
use Rattle.wire.proofs.Laws.{one_has}
use Rattle.packets.specs.declared.Form.{Form}
use Rattle.packets.specs.Forms.{listed_form}
use Rattle.packets.specs.Channels.{is_count, pairs_each, place_of, PairsPerChannel, AsPrinted}
use Rattle.packets.specs.Channels.{IsNumber, StandsAt, ChannelsInTurn}
use Rattle.packets.proofs.Forms.{of_listed}

pub pairs_per_channel : PairsPerChannel
pairs_per_channel = record { of_one = refl; of_two = refl }

pub as_printed : AsPrinted
as_printed =
    record {
      of_two = refl;
      of_one = refl;
      onwards = λ n k c j. omega (arith, mul-suc n k, ap (λ (m : ℕ). n * m) (add-one k));
    }

-- what each count has
pub by_count : (P : ℕ → Type 0) (n : ℕ) → P 1 → P 2 → is_count n ≡ true → P n
by_count P n one two = one_has P n (1 ∷ 2 ∷ []) (one, (two, tt))

pub count_some : (n : ℕ) → is_count n ≡ true → 0 < n
count_some n = by_count (λ m. 0 < m) n (omega arith) (omega arith)

-- with one channel the pairs are all its own
pub pairs_alone : (f : Form) → pairs_each 1 f ≡ f.pairs
pairs_alone f = div-one f.pairs

-- a channel has no more pairs than its packet
pub each_fewer : (n : ℕ) (f : Form) → pairs_each n f ≤ f.pairs
each_fewer n f = div-le_self f.pairs n

-- every listed form has an even number of pairs, so all channels together have them all
pub shared_out : (n : ℕ) (f : Form) → is_count n ≡ true → listed_form f ≡ true → n * pairs_each n f ≡ f.pairs
shared_out n f count listed =
    let even : f.pairs % 2 ≡ 0 = eqb-true _ _ (of_listed (λ g. eqb (g.pairs % 2) 0) refl f listed) in
    by_count (λ m. m * (f.pairs / m) ≡ f.pairs) n (omega arith) (omega arith) count

-- the place of a later pair is past all of an earlier one's
later_pair : (n k l : ℕ) → k < l → n * k + n ≤ n * l
later_pair n k l h = let up : n * suc k ≤ n * l = mul-le-mul_left n h in omega (arith, up, mul-suc n k)

same_pair : (n k c l d : ℕ) → c < n → d < n → n * k + c ≡ n * l + d → k ≡ l
same_pair n k c l d small few e =
    elim (dec_lt k l) [
      | yes h ↦ absurd (omega (arith, later_pair n k l h))
      | no h ↦ elim (dec_lt l k) [
        | yes g ↦ absurd (omega (arith, later_pair n l k g))
        | no g ↦ omega arith
      ]
    ]

module _ (n : ℕ) (f : Form) (some : 0 < n) (whole : n * pairs_each n f ≡ f.pairs) where
  number_within : (k c j : ℕ) → IsNumber n f k c j → place_of n k c j < 2 * f.pairs
  number_within k c j x = omega (arith, x.channel, x.part, later_pair n k (pairs_each n f) x.pair, whole)

  numbers_apart : (k c j l d i : ℕ) → IsNumber n f k c j → IsNumber n f l d i → place_of n k c j ≡ place_of n l d i
      → (k ≡ l) × (c ≡ d) × (j ≡ i)
  numbers_apart k c j l d i x y e =
      let level : n * k + c ≡ n * l + d = omega (arith, e, x.part, y.part) in
      let same = same_pair n k c l d x.channel y.channel level in
      (same, omega (arith, level, ap (λ (m : ℕ). n * m) same), omega (arith, e, x.part, y.part))

  every_place : (place : ℕ) → place < 2 * f.pairs → StandsAt n f place
  every_place place h =
      let q : ℕ = place / 2 in
      let below : q < pairs_each n f * n = omega (arith, h, whole, mul_comm n (pairs_each n f)) in
      record {
        k = q / n;
        c = q % n;
        j = place % 2;
        number = record { pair = (div-lt_iff_lt-mul some).1 below; channel = mod-lt q some; part = omega arith };
        there = omega (arith, div-add-mod q n);
      }

pub channels_in_turn : ChannelsInTurn
channels_in_turn n f count listed =
    let some = count_some n count in
    let whole = shared_out n f count listed in
    record { within = number_within n f some whole; apart = numbers_apart n f some whole; all = every_place n f some whole }
