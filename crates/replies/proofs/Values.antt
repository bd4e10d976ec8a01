-- Reading a reply other than the range's: what stands around its value is compared, and the value has at most eight bytes, or a
-- ninth that is zero. And NAK, which has two.
use Prim.Native.Nat.{ℕ, zero, suc, ◌+◌, ◌*◌, ◌^◌, ◌≤◌, ◌<◌}
use mathlib.Core.Path.{◌≡◌, refl, sym, ap, ◌∙◌}
use mathlib.Core.Bool.{Bool, true, false, and-true}
use mathlib.Core.List.{List, [], ◌∷◌}
use native.Mathlib.Nat.{mul_assoc, pow-succ', lt_of_lt_of_le, pow-le-pow_right}
use native.Mathlib.Omega.{arith}
use lib.Dec.{eqb, ltb, lit≤}
use lib.ListN.{length, take, drop, length-drop}
use lib.Seq.{take_all, drop-drop}
use borrow.Author.Tests.{eqb-true, eqb-false, ltb-true}
use Rattle.wire.specs.Number.{number, bytes, field}
use Rattle.wire.specs.Header.{nak}
use Rattle.wire.specs.Lists.{same}
use Rattle.wire.proofs.Laws.{true_not_false, and_right, and_not_right}
use Rattle.wire.proofs.Lists.{same_eq, ne_same}
use Rattle.layouts.specs.Layouts.{has_layout}
use Rattle.layouts.proofs.Sizes.{length_laid}
use Rattle.items.specs.Settings.{all_serial}
use Rattle.wishes.specs.declared.Wish.{Wish}
use Rattle.wishes.specs.declared.Wish.TheVariants.{AskName, AskSerial, AskInterface, AskVersion, AskStatus, SetState, AskState}
use Rattle.wishes.specs.declared.Wish.TheVariants.{SetChannelSetup, AskChannelSetup, SetFrequency, AskFrequency, AskFrequencyRange}
use Rattle.wishes.specs.declared.Wish.TheVariants.{SetGain, AskGain, SetClock, AskClock}
use Rattle.wishes.specs.declared.Wish.TheVariants.{SetRate, AskRate, SetPacketSize, AskPacketSize}
use Rattle.wishes.specs.Wishes.{asking, allowed_wish}
use Rattle.replies.specs.Awaited.{awaited, asks_range, reply_type, reply_layout, reply_bytes, value_at, number_in}
use Rattle.replies.specs.Reading.{is_nak, is_reply}
use Rattle.replies.proofs.Recognised.{could_fits, is_reply_bytes}

-- a value that has eight bytes at most
word : (w : Wish) → (awaited w).width ≤ 8 → (n : ℕ) → allowed_wish w ≡ true → (awaited w).could n ≡ true → n < 256 ^ 8
word w few n e h = lt_of_lt_of_le (could_fits w n e h) (pow-le-pow_right {n = 256} (lit≤ tt) few)

-- such a reply has nine bytes of value at most, is no range reply, and a value in it that a box could give has eight
pub plain : (w : Wish) → asks_range w ≡ false
    → ((awaited w).width ≤ 9) × (reply_type (asking w).kind ≡ 0) × ((n : ℕ) → allowed_wish w ≡ true → (awaited w).could n ≡ true → n < 256 ^ 8)
plain AskName other = (lit≤ tt, refl, word AskName (lit≤ tt))
plain AskSerial other = (lit≤ tt, refl, λ n e h. ltb-true n (256 ^ 8) (and_right (all_serial (bytes 8 n)) (ltb n (256 ^ 8)) h))
plain AskInterface other = (lit≤ tt, refl, word AskInterface (lit≤ tt))
plain (AskVersion id) other = (lit≤ tt, refl, word (AskVersion id) (lit≤ tt))
plain AskStatus other = (lit≤ tt, refl, word AskStatus (lit≤ tt))
plain (SetState f) other = (lit≤ tt, refl, word (SetState f) (lit≤ tt))
plain AskState other = (lit≤ tt, refl, word AskState (lit≤ tt))
plain (SetChannelSetup m) other = (lit≤ tt, refl, word (SetChannelSetup m) (lit≤ tt))
plain AskChannelSetup other = (lit≤ tt, refl, word AskChannelSetup (lit≤ tt))
plain (SetFrequency c hz) other = (lit≤ tt, refl, word (SetFrequency c hz) (lit≤ tt))
plain (AskFrequency c) other = (lit≤ tt, refl, word (AskFrequency c) (lit≤ tt))
plain (AskFrequencyRange c) other = absurd (true_not_false other)
plain (SetGain c g) other = (lit≤ tt, refl, word (SetGain c g) (lit≤ tt))
plain (AskGain c) other = (lit≤ tt, refl, word (AskGain c) (lit≤ tt))
plain (SetClock c hz) other = (lit≤ tt, refl, word (SetClock c hz) (lit≤ tt))
plain (AskClock c) other = (lit≤ tt, refl, word (AskClock c) (lit≤ tt))
plain (SetRate c hz) other = (lit≤ tt, refl, word (SetRate c hz) (lit≤ tt))
plain (AskRate c) other = (lit≤ tt, refl, word (AskRate c) (lit≤ tt))
plain (SetPacketSize m) other = (lit≤ tt, refl, word (SetPacketSize m) (lit≤ tt))
plain AskPacketSize other = (lit≤ tt, refl, word AskPacketSize (lit≤ tt))

-- a number of k + 1 bytes is the one of k bytes, and the last byte 256 ^ k times
number_split : (k : ℕ) (l : List ℕ) → number (take (suc k) l) ≡ number (take k l) + 256 ^ k * number (take 1 (drop k l))
number_split zero [] = refl
number_split zero (b ∷ l) = omega arith
number_split (suc k) [] = omega arith
number_split (suc k) (b ∷ l) =
    let top = number (take 1 (drop k l)) in
    let up : 256 ^ suc k * top ≡ 256 * (256 ^ k * top) = ap (λ (p : ℕ). p * top) (pow-succ' 256 k) ∙ mul_assoc 256 (256 ^ k) top in
    omega (arith, up, number_split k l)

-- all that is left of a reply, read in two parts
rest_number : (bs : List ℕ) (at width : ℕ) → length bs ≡ at + width → width ≤ 9
    → field at width bs ≡ field at 8 bs + 256 ^ 8 * field (at + 8) 1 bs
rest_number bs at width size few =
    let left : length (drop at bs) ≡ width = simp length-drop (omega arith) in
    ap number (take_all width (drop at bs) (omega arith) ∙ sym (take_all 9 (drop at bs) (omega arith)))
    ∙ number_split 8 (drop at bs)
    ∙ ap (λ (l : List ℕ). field at 8 bs + 256 ^ 8 * number (take 1 l)) (drop-drop 8 at bs)

-- a reply is as long as its parts
reply_long : (w : Wish) (n : ℕ) → length (reply_bytes w n) ≡ value_at w + (awaited w).width
unfolding reply_bytes
reply_long w n = length_laid (reply_layout w n)

-- what stands around the value is what the reply with the number in its place has
pub around_reply : (w : Wish) (n : ℕ) (bs : List ℕ) → has_layout bs (reply_layout w n) ≡ same bs (reply_bytes w (number_in w bs))
unfolding has_layout reply_bytes
around_reply w n bs = refl

module _ (w : Wish) (bs : List ℕ) (other : asks_range w ≡ false) where
  -- the first eight bytes in the value's place, and the one behind them
  abbrev eight : ℕ
  eight = field (value_at w) 8 bs

  abbrev ninth : ℕ
  ninth = field (value_at w + 8) 1 bs

  -- bytes that are not the reply with the number in them are none
  pub not_around : same bs (reply_bytes w (number_in w bs)) ≡ false → is_reply w bs ≡ false
  unfolding is_reply
  not_around differs = and_not_right ((awaited w).could (number_in w bs)) _ differs

  module _ (so : same bs (reply_bytes w (number_in w bs)) ≡ true) where
    split : number_in w bs ≡ eight + 256 ^ 8 * ninth
    split =
        let is : bs ≡ reply_bytes w (number_in w bs) = same_eq bs (reply_bytes w (number_in w bs)) so in
        rest_number bs (value_at w) (awaited w).width (ap length is ∙ reply_long w (number_in w bs)) (plain w other).0

    -- no box could give a number that goes on past the eighth byte
    pub goes_on_lem : allowed_wish w ≡ true → eqb ninth 0 ≡ false → is_reply w bs ≡ false
    goes_on_lem e more = go (is_reply w bs) refl
      where
        go : (t : Bool) → is_reply w bs ≡ t → t ≡ false
        go true h =
            let small = (plain w other).2 (number_in w bs) e (is_reply_bytes w bs h).0 in
            absurd (eqb-false ninth 0 more (omega (arith, split, small)))
        go false h = refl

    -- one that ends there is told by eight bytes
    pub ends : eqb ninth 0 ≡ true → number_in w bs ≡ eight
    ends none = omega (arith, split, eqb-true ninth 0 none)

    -- and the bytes are a reply if a valid box could give it
    pub given_could : (t : Bool) → (awaited w).could (number_in w bs) ≡ t → is_reply w bs ≡ t
    unfolding is_reply
    given_could t could = rw (so, could) (and-true t)

-- bytes that are not two are no NAK
pub no_nak : (bs : List ℕ) → (length bs ≡ 2 → ⊥) → false ≡ is_nak bs
no_nak bs longer = sym (ne_same bs nak (λ is. longer (ap length is)))
