-- What is known of an allowed value: that it fits its field, and, of a state, which ones there are.
use Prim.Native.Nat.{ℕ, suc, ◌-◌, ◌<◌}
use mathlib.Core.Path.{◌≡◌, refl, sym, ap, subst, ◌∙◌}
use mathlib.Core.Bool.{true, false, ◌&&◌}
use mathlib.Core.List.{[], ◌∷◌, map}
use native.Mathlib.Omega.{arith}
use lib.Dec.{eqb, lit≤}
use lib.IntN.{ℤ, pos, negsuc}
use lib.Signed.{mag}
use borrow.Author.Tests.{eqb-true, eqb-false, eq-eqb, ne_eqb}
use Rattle.wire.specs.Signed.{minus, coded, same_integer}
use Rattle.wire.proofs.Laws.{never, and_left, and_right, within_high, by_test, by_or, one_has}
use Rattle.tuning.proofs.Covered.{bands_high}
use Rattle.items.specs.Settings.{gains, is_gain, is_mode}
use Rattle.wishes.specs.declared.StateFields.{StateFields}
use Rattle.wishes.specs.declared.Wish.{Wish}
use Rattle.wishes.specs.declared.Wish.TheVariants.{AskName, AskSerial, AskInterface, AskVersion, AskStatus, SetState, AskState}
use Rattle.wishes.specs.declared.Wish.TheVariants.{SetChannelSetup, AskChannelSetup, SetFrequency, AskFrequency, AskFrequencyRange}
use Rattle.wishes.specs.declared.Wish.TheVariants.{SetGain, AskGain, SetClock, AskClock}
use Rattle.wishes.specs.declared.Wish.TheVariants.{SetRate, AskRate, SetPacketSize, AskPacketSize}
use Rattle.wishes.specs.Wishes.{Fits, allowed_wish}

pub gain_below : (n : ℕ) → is_gain n ≡ true → n < 256
gain_below n = one_has (λ m. m < 256) n (map (coded 8) gains) (omega arith, (omega arith, (omega arith, (omega arith, tt))))

-- the states that may be wished for: idle, with any mode, and run in either mode
pub state_has : (P : StateFields → Type 0) → ((m : ℕ) → P (record { run = 1; mode = m })) → P (record { run = 2; mode = 0x80 })
    → P (record { run = 2; mode = 0x00 }) → (f : StateFields) → allowed_wish (SetState f) ≡ true → P f
state_has P idle wide narrow f = by_or (eqb f.run 1) (eqb f.run 2 && is_mode f.mode) rests runs
  where
    with_run : (r : ℕ) → eqb f.run r ≡ true → P (record { run = r; mode = f.mode }) → P f
    with_run r is h = subst (λ (n : ℕ). P (record { run = n; mode = f.mode })) (sym (eqb-true f.run r is)) h

    rests : eqb f.run 1 ≡ true → P f
    rests is = with_run 1 is (idle f.mode)

    runs : eqb f.run 2 && is_mode f.mode ≡ true → P f
    runs is =
        let mode : is_mode f.mode ≡ true = and_right (eqb f.run 2) (is_mode f.mode) is in
        with_run 2 (and_left (eqb f.run 2) (is_mode f.mode) is)
        (one_has (λ (m : ℕ). P (record { run = 2; mode = m })) f.mode (0x80 ∷ 0x00 ∷ []) (wide, (narrow, tt)) mode)

-- ---- gains

integer_eq : (x y : ℤ) → same_integer x y ≡ true → x ≡ y
integer_eq (pos a) (pos b) e = ap pos (eqb-true a b e)
integer_eq (pos a) (negsuc b) e = never e
integer_eq (negsuc a) (pos b) e = never e
integer_eq (negsuc a) (negsuc b) e = ap negsuc (eqb-true a b e)

-- what 0, -10, -20 and -30 have, every gain has
pub gain_has : (P : ℤ → Type 0) → P (pos 0) → P (minus 10) → P (minus 20) → P (minus 30)
    → (c : ℕ) (g : ℤ) → allowed_wish (SetGain c g) ≡ true → P g
gain_has P h i j k c g =
    let at : (z : ℤ) → P z → same_integer g z ≡ true → P g = λ z p e. subst P (sym (integer_eq g z e)) p in
    by_or (same_integer g (pos 0)) _ (at (pos 0) h)
    (by_or (same_integer g (minus 10)) _ (at (minus 10) i)
    (by_or (same_integer g (minus 20)) _ (at (minus 20) j)
    (by_or (same_integer g (minus 30)) false (at (minus 30) k) never)))

-- the bits of a negative number are those of -n - 1 exactly where it is
bits_of : (n k : ℕ) → n < 128 → k < 128 → eqb (256 - suc n) (256 - suc k) ≡ eqb n k
bits_of n k small less =
    by_test (eqb n k) (λ same. eq-eqb (256 - suc n) (256 - suc k) (omega (arith, eqb-true n k same)) ∙ sym same)
    (λ other. ne_eqb (256 - suc n) (256 - suc k) (λ is. eqb-false n k other (omega arith)) ∙ sym other)

-- a signed byte is a gain exactly where its bits are a gain's
pub gain_bits : (c : ℕ) (g : ℤ) → mag g < 128 → is_gain (coded 8 g) ≡ allowed_wish (SetGain c g)
gain_bits c (pos n) small =
    rw (ne_eqb n 246 (λ is. omega arith), ne_eqb n 236 (λ is. omega arith), ne_eqb n 226 (λ is. omega arith)) refl
gain_bits c (negsuc n) small =
    rw (
      ne_eqb (256 - suc n) 0 (λ is. omega arith),
      bits_of n 9 small (omega arith),
      bits_of n 19 small (omega arith),
      bits_of n 29 small (omega arith),
    ) refl

-- an allowed value fits its field
pub value_fits : (w : Wish) → allowed_wish w ≡ true → Fits w
value_fits AskName e = omega arith
value_fits AskSerial e = omega arith
value_fits AskInterface e = omega arith
value_fits (AskVersion id) e = omega arith
value_fits AskStatus e = omega arith
value_fits (SetState f) e = state_has (λ f. Fits (SetState f)) (λ m. search lit≤ depth 20) (search lit≤ depth 20) (search lit≤ depth 20) f e
value_fits AskState e = omega arith
value_fits (SetChannelSetup n) e = one_has (λ n. n < 256) n (0 ∷ 4 ∷ []) (omega arith, (omega arith, tt)) e
value_fits AskChannelSetup e = omega arith
value_fits (SetFrequency c hz) e = omega (arith, bands_high hz e)
value_fits (AskFrequency c) e = omega arith
value_fits (AskFrequencyRange c) e = omega arith
value_fits (SetGain c g) e = (omega arith, gain_has (λ g. mag g < 128) (omega arith) (omega arith) (omega arith) (omega arith) c g e)
value_fits (AskGain c) e = omega arith
value_fits (SetClock c hz) e = omega (arith, within_high 79_992_000 80_008_000 hz e)
value_fits (AskClock c) e = omega arith
value_fits (SetRate c hz) e = omega (arith, within_high 32_000 2_000_000 hz e)
value_fits (AskRate c) e = omega arith
value_fits (SetPacketSize n) e = one_has (λ n. n < 256) n (0 ∷ 1 ∷ []) (omega arith, (omega arith, tt)) e
value_fits AskPacketSize e = omega arith
