-- Two's complement without a branch: a number lifted by half a turn, which makes it whole, and by half a turn more. (Joined
-- lifts by more.) What is sent at 16 bits on the way there: it fits, and is held by two tests.
-- Assumes nothing.
use Prim.Native.Nat.{ℕ, suc, ◌+◌, ◌-◌, ◌%◌, ◌^◌, ◌≤◌, ◌<◌}
use mathlib.Core.Path.{◌≡◌, refl, ap, ◌∙◌}
use mathlib.Core.Bool.{true, false}
use native.Mathlib.Nat.{add-mod_right, mod-eq_of_lt, mod-eq-sub-mod}
use native.Mathlib.Decide.{dec_lt}
use native.Mathlib.Omega.{arith}
use lib.IntN.{ℤ, pos, negsuc, sub_ℕ, ◌+ℤ◌, ◌-ℤ◌}
use lib.Signed.{mag, le_z, lt_z, mag_shr}
use mir.Syntax.{Width, w32}
use mir.Val.{SFits, to_z, of_z}
use mir.Facts.{to_z-of_z, to_z_pos}
use borrow.Author.Tests.{leb-true, ltb-true, ltb-false, lt-ltb, le-ltb, le-leb}
use Rattle.wire.specs.Signed.{minus, coded, signed}
use Rattle.wire.proofs.Laws.{never}
use Rattle.packets.specs.Samples.{is_sample, at_most, rounded, narrowed}
use Rattle.packets.proofs.Quotients.{sub_high, sub_low, less_sub, by_sum}
use Rattle.packets.proofs.Narrowed.{sample_small, narrowed_small}

-- z lifted by h, which is more than -z
abbrev pub lifted : ℕ → ℤ → ℕ
lifted h (pos n) = n + h
lifted h (negsuc n) = h - suc n

lift : (h : ℕ) (z : ℤ) → mag z < h → z +ℤ pos h ≡ pos (lifted h z)
lift h (pos n) l = refl
lift h (negsuc n) l = sub_low h (suc n) l

pub lifted_below : (h : ℕ) (z : ℤ) → mag z < h → lifted h z < h + h
lifted_below h (pos n) l = omega arith
lifted_below h (negsuc n) l = omega arith

-- The machine's sum of a number and h is the lifted number.
module _ (w : Width) (h : ℕ) (z : ℤ) (fits : SFits w z) (l : mag z < h) (room : SFits w (pos (lifted h z))) where
  pub lift_fits : SFits w (to_z w (of_z w z) +ℤ pos h)
  lift_fits = rw (to_z-of_z fits, lift h z l) room

  pub lift_is : to_z w (of_z w (to_z w (of_z w z) +ℤ pos h)) ≡ pos (lifted h z)
  lift_is = to_z-of_z lift_fits ∙ rw (to_z-of_z fits) (lift h z l)

-- the same of a number below half a turn of at most 24 bits
module _ (h : ℕ) (z : ℤ) (l : mag z < h) (small : h ≤ 8_388_608) where
  itself_fits : SFits w32 z
  itself_fits = record { sfits = omega arith }

  lifted_fits : SFits w32 (pos (lifted h z))
  lifted_fits = record { sfits = omega (arith, lifted_below h z l) }

  pub half_fits : SFits w32 (to_z w32 (of_z w32 z) +ℤ pos h)
  half_fits = lift_fits w32 h z itself_fits l lifted_fits

  pub half_is : to_z w32 (of_z w32 (to_z w32 (of_z w32 z) +ℤ pos h)) ≡ pos (lifted h z)
  half_is = lift_is w32 h z itself_fits l lifted_fits

-- half a turn more, and the whole turns off: the k bits that stand for z
pub turned : (k h : ℕ) → 2 ^ k ≡ h + h → (z : ℤ) → mag z < h → (lifted h z + h) % (h + h) ≡ coded k z
turned k h e (pos n) l =
    let turn : n + h + h ≡ n + (h + h) = omega arith in
    let low : n < h + h = omega arith in
    rw turn (add-mod_right n (h + h) ∙ mod-eq_of_lt low)
turned k h e (negsuc n) l =
    let low : h - suc n + h < h + h = omega arith in
    mod-eq_of_lt low ∙ rw e (omega arith)

-- ---- what is sent at 16 bits, on the way to it

raise_mag : (h : ℕ) (z : ℤ) → mag (z +ℤ pos h) ≤ mag z + h
raise_mag h (pos n) = omega arith
raise_mag h (negsuc n) = by_sum (λ y. mag y ≤ n + h) h n (λ l. omega arith) (λ l. omega arith)

module _ (z : ℤ) (s : is_sample z ≡ true) where
  -- a sample and 128, and a 256th of that, fit 32 bits
  pub raised_fits : SFits w32 (z +ℤ pos 128)
  raised_fits = record { sfits = omega (arith, raise_mag 128 z, sample_small z s) }

  pub rounded_fits : SFits w32 (rounded 16 z)
  rounded_fits = record { sfits = omega (arith, mag_shr (z +ℤ pos 128) 256, raise_mag 128 z, sample_small z s) }

  pub sixteen_small : mag (narrowed 16 z) < 32_768
  sixteen_small = narrowed_small 16 (omega arith) (omega arith) z s

  -- the quotient is not below what is held
  pub rounded_low : le_z (minus 32_768) (rounded 16 z) ≡ true
  rounded_low = go (rounded 16 z) sixteen_small
    where
      go : (q : ℤ) → mag (at_most 32_767 q) < 32_768 → le_z (minus 32_768) q ≡ true
      go (pos n) l = refl
      go (negsuc n) l = le-leb n 32_767 (omega arith)

-- ---- held, by the tests

pub hold_high : (m : ℕ) (q : ℤ) → lt_z (pos m) q ≡ true → pos m ≡ at_most m q
hold_high m (pos n) h = ap pos (omega (arith, ltb-true m n h))
hold_high m (negsuc n) h = never h

pub hold_not_above : (m : ℕ) (q : ℤ) → lt_z (pos m) q ≡ false → q ≡ at_most m q
hold_not_above m (pos n) h = ap pos (omega (arith, ltb-false m n h))
hold_not_above m (negsuc n) h = refl

-- a number that is not below the least of the width
pub not_below : {X : Type 0} (m : ℕ) (q : ℤ) → le_z (negsuc m) q ≡ true → lt_z q (negsuc m) ≡ true → X
not_below m (pos n) l h = never h
not_below m (negsuc n) l h = absurd (omega (arith, leb-true n m l, ltb-true m n h))

-- ---- and back: a code lifted by half a turn, the whole turns taken off, and the half turn taken off again

half_small : (u h : ℕ) → u < h + h → mag (sub_ℕ u h) ≤ h
half_small u h l = elim (dec_lt u h) [ yes b ↦ rw (sub_high u h b) (omega arith) | no b ↦ rw (sub_low u h (omega arith)) (omega arith) ]

module _ (h u : ℕ) (small : h ≤ 8_388_608) (l : u < h + h) where
  read_half : to_z w32 u -ℤ pos h ≡ sub_ℕ u h
  read_half = rw (to_z_pos w32 {n = u} (omega arith)) (less_sub u h)

  pub drop_fits : SFits w32 (to_z w32 u -ℤ pos h)
  drop_fits = rw read_half (record { sfits = omega (arith, half_small u h l) })

  pub drop_is : to_z w32 (of_z w32 (to_z w32 u -ℤ pos h)) ≡ sub_ℕ u h
  drop_is = to_z-of_z drop_fits ∙ read_half

pub unturned : (k h v : ℕ) → 2 ^ k ≡ h + h → 2 ^ (k - 1) ≡ h → v < h + h → sub_ℕ ((v + h) % (h + h)) h ≡ signed k v
unturned k h v whole half l = elim (dec_lt v h) [ yes b ↦ low b | no b ↦ high (omega arith) ]
  where
    low : v < h → sub_ℕ ((v + h) % (h + h)) h ≡ signed k v
    low b =
        let turn : (v + h) % (h + h) ≡ v + h = mod-eq_of_lt (omega arith) in
        rw (turn, half, lt-ltb v h b, le-ltb (v + h) h (omega arith)) (ap pos (omega arith))

    high : h ≤ v → sub_ℕ ((v + h) % (h + h)) h ≡ signed k v
    high b =
        let left : v + h - (h + h) ≡ v - h = omega arith in
        let turn : (v + h) % (h + h) ≡ v - h
        = mod-eq-sub-mod (omega arith) ∙ rw left (mod-eq_of_lt (omega arith)) in
        rw (turn, half, whole, le-ltb v h b, lt-ltb (v - h) h (omega arith)) (ap negsuc (omega arith))
