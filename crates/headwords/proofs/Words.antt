-- Numbers from their digits, and serials from their letters.
-- Assumes nothing.
use Prim.Native.Nat.{ℕ, suc, ◌+◌, ◌-◌, ◌*◌, ◌^◌, ◌≤◌, ◌<◌}
use native.Mathlib.Nat.{pow-le-pow_right, lt_of_lt_of_le}
use native.Mathlib.Numerals.{add-one}
use native.Mathlib.Omega.{arith}
use mathlib.Core.Path.{◌≡◌, refl, sym, ap, ◌∙◌}
use mathlib.Core.Bool.{Bool, true, false, ◌&&◌}
use mathlib.Core.List.{List, [], ◌∷◌}
use lib.Dec.{eqb, ltb}
use lib.Pointwise.{pointwise}
use Rattle.std.proofs.Common.{Option, Some, None, Ok, Err}
use Rattle.std.specs.Bool.{then_some}
use Rattle.std.specs.Option.{ok_or}
use Rattle.wire.specs.Choice.{pick}
use Rattle.wire.specs.Lists.{same}
use lib.ListN.{length, get_or, take, drop, drop_of_length-le}
use lib.Seq.{drop-cons, take_all}
use borrow.Author.Tests.{le-leb, lt-leb, lt-ltb, eq-eqb}
use Rattle.wire.specs.Number.{number, bytes, field}
use Rattle.wire.proofs.Laws.{within_low, within_high}
use Rattle.wire.proofs.Numbers.{bytes_number, field_below}
use Rattle.items.specs.Settings.{all_serial, is_serial, holds_serial}
use Rattle.headwords.specs.Words.{is_digit, all_digits, value_behind, only, is_number, number_of}
use Rattle.headwords.specs.Words.{dash, serial_word, serial_of}

-- ---- one digit after the other

-- the digits before i have made n, and the rest of the word makes the whole
pub record Reading (word : List ℕ) (n i : ℕ) : Type 0 where
  pub inside : i ≤ length word
  pub short : length word ≤ 9
  pub below : n < 10 ^ i
  pub value : value_behind n (drop i word) ≡ value_behind 0 word
  pub digits : all_digits (drop i word) ≡ all_digits word

pub read_none : (word : List ℕ) → length word ≤ 9 → Reading word 0 0
read_none word short = record { inside = omega arith; short = short; below = omega arith; value = refl; digits = refl }

module _ (word : List ℕ) (n i : ℕ) (r : Reading word n i) (more : i < length word) where
  abbrev byte : ℕ
  byte = get_or word i 0

  digits_step : is_digit byte && all_digits (drop (suc i) word) ≡ all_digits word
  digits_step = ap all_digits (sym (drop-cons word i 0 more)) ∙ r.digits

  -- a number with a place for a digit more has at most eight
  pub low : n < 100_000_000
  low =
      let places : i ≤ 8 = omega (arith, r.short) in
      lt_of_lt_of_le r.below (pow-le-pow_right {n = 10} (omega arith) places)

  pub no_digit : is_digit byte ≡ false → all_digits word ≡ false
  no_digit other = sym digits_step ∙ rw other refl

  pub digit_low : is_digit byte ≡ true → 48 ≤ byte
  digit_low is = within_low 48 57 byte is

  pub digit_high : is_digit byte ≡ true → byte ≤ 57
  digit_high is = within_high 48 57 byte is

  pub read_one : is_digit byte ≡ true → Reading word (n * 10 + (byte - 48)) (i + 1)
  read_one is =
      rw (add-one i)
      (record {
        inside = omega arith;
        short = r.short;
        below = omega (arith, r.below, digit_high is);
        value = ap (value_behind n) (sym (drop-cons word i 0 more)) ∙ r.value;
        digits = sym (ap (λ (t : Bool). t && all_digits (drop (suc i) word)) is) ∙ digits_step;
      })

pub read_all : (word : List ℕ) (n i : ℕ) → Reading word n i → length word ≤ i → Some n ≡ only (is_number word) (value_behind 0 word)
unfolding is_number
read_all word n i r done =
    let none : drop i word ≡ _ = drop_of_length-le word {i = i} done in
    let digits : all_digits word ≡ true = sym r.digits ∙ ap all_digits none in
    rw (le-leb (length word) 9 r.short, digits) (ap Some (sym (ap (value_behind n) none) ∙ r.value))

pub too_long_lem : (word : List ℕ) → 9 < length word → is_number word ≡ false
unfolding is_number
too_long_lem word long = rw (lt-leb (length word) 9 long) refl

pub not_digits : (word : List ℕ) → length word ≤ 9 → all_digits word ≡ false → is_number word ≡ false
unfolding is_number
not_digits word short other = rw (le-leb (length word) 9 short, other) refl

-- the number where there is one, and 0 where there is none
pub number_is : (word : List ℕ) → number_of word ≡ pick (is_number word) (value_behind 0 word) 0
unfolding number_of
number_is word = refl

-- a value where a test holds, as std says it
pub only_is : {A : Type 0} (b : Bool) (v : A) → then_some b v ≡ only b v
only_is true v = refl
only_is false v = refl

-- so where a test fails at 0, it is tested where there is a number
pub tested : (word : List ℕ) (f : ℕ → Bool) {n : ℕ} {b : Bool} → Some n ≡ only (is_number word) (value_behind 0 word)
    → b ≡ f n → then_some b n ≡ only (f (number_of word)) (number_of word)
tested word f {n} {b} there is =
    only_is b n ∙ ap (λ (t : Bool). only t n) is ∙ ap (λ (m : ℕ). only (f m) m) (by (is_number word) refl there)
  where
    by : (t : Bool) → is_number word ≡ t → Some n ≡ only t (value_behind 0 word) → n ≡ number_of word
    by true e some = rw (number_is word, e) (cc)
    by false e some = cc

pub not_tested : (word : List ℕ) (f : ℕ → Bool) → None ≡ only (is_number word) (value_behind 0 word) → f 0 ≡ false
    → None ≡ only (f (number_of word)) (number_of word)
not_tested word f there none = by (is_number word) refl there
  where
    by : (t : Bool) → is_number word ≡ t → None ≡ only t (value_behind 0 word) → None ≡ only (f (number_of word)) (number_of word)
    by true e lost = cc
    by false e lost = rw (number_is word, e, none)

-- what a value that may be missing comes to
module _ {A E : Type 0} (e : E) (o : Option A) (b : Bool) (v : A) (is : o ≡ only b v) where
  pub found : {x : A} → Ok x ≡ ok_or o e → (b ≡ true) × (x ≡ v)
  found {x} there = by b (there ∙ ap (λ (q : Option A). ok_or q e) is)
    where
      by : (t : Bool) → Ok x ≡ ok_or (only t v) e → (t ≡ true) × (x ≡ v)
      by true same = (refl, cc)
      by false same = cc

  pub missing : {d : E} → Err d ≡ ok_or o e → (b ≡ false) × (d ≡ e)
  missing {d} there = by b (there ∙ ap (λ (q : Option A). ok_or q e) is)
    where
      by : (t : Bool) → Err d ≡ ok_or (only t v) e → (t ≡ false) × (d ≡ e)
      by true same = cc
      by false same = (refl, cc)

-- ---- equal words

pub same_is : (a b : List ℕ) → pointwise eqb a b ≡ same a b
same_is [] [] = refl
same_is [] (y ∷ ys) = refl
same_is (x ∷ xs) [] = refl
same_is (x ∷ xs) (y ∷ ys) = ap (λ (t : Bool). eqb x y && t) (same_is xs ys)

-- ---- serials

-- eight bytes, by their number
pub serial_there : (word : List ℕ) → ((k : ℕ) → get_or word k 0 < 256) → length word ≡ 8
    → bytes 8 (field 0 8 word) ≡ word
serial_there word small long =
    let all : take 8 word ≡ word = take_all 8 word (omega arith) in
    let whole : bytes (length word) (number word) ≡ word = bytes_number word small in
    rw all (rw long at whole)

-- a word of eight bytes that is no dash, by their number
pub serial_by : (word : List ℕ) {n : ℕ} {b : Bool} → same word dash ≡ false → n ≡ field 0 8 word → b ≡ is_serial word
    → then_some b n ≡ only (serial_word word) (serial_of word)
serial_by word {n} {b} other is good = rw (other, only_is b n, is, good)

-- so the number of a word of eight bytes holds a serial exactly where the word is one
pub holds_there : (word : List ℕ) → ((k : ℕ) → get_or word k 0 < 256) → length word ≡ 8 → holds_serial (field 0 8 word) ≡ is_serial word
holds_there word small long =
    let fits : ltb (field 0 8 word) (256 ^ 8) ≡ true = lt-ltb (field 0 8 word) (256 ^ 8) (field_below 0 8 word small) in
    let all : all_serial (bytes 8 (field 0 8 word)) ≡ all_serial word = ap all_serial (serial_there word small long) in
    both all fits ∙ sym (ap (λ (b : Bool). b && all_serial word) (eq-eqb (length word) 8 long))
  where
    both : {a b c : Bool} → a ≡ b → c ≡ true → a && c ≡ b
    both {a} {b} {c} p q = ap (λ (x : Bool). a && x) q ∙ and_true a ∙ p
      where
        and_true : (b : Bool) → b && true ≡ b
        and_true true = refl
        and_true false = refl
