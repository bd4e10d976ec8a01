-- Request No. 3 of document 02, "Sixteen-bit captures lean downward": how far what is sent of a sample lies from it, that samples
-- in a row no longer lean, and the rules that one might take for this one.
use Rattle.std.specs.Prelude.{ℕ, zero, suc, ◌+◌, ◌-◌, ◌/◌, ◌≡◌, Bool, true, ◌&&◌, not, List, [], ◌∷◌, map, eqb, ℤ, pos, negsuc, neg_ℤ, ◌+ℤ◌, ◌-ℤ◌, ◌*ℤ◌}
use Rattle.std.specs.Int.Signed.{le_z, lt_z, shr_z, quot_z}
use Rattle.wire.specs.Signed.{minus, coded}
use Rattle.packets.specs.Samples.{lies_in, is_sample, scale_at, half_at, top_at, rounded, at_most, narrowed}

-- "256 times the result" less the sample: how far above the sample what a rule sends of it lies, scaled
abbrev pub error_of : ℕ → (ℤ → ℤ) → ℤ → ℤ
error_of scale rule z = rule z *ℤ pos scale -ℤ z

abbrev pub error_at : ℕ → ℤ → ℤ
error_at bits = error_of (scale_at bits) (narrowed bits)

-- the least sample that is held: "samples of 8,388,480 and more" at 16 bits; at 24 there is none
abbrev pub held_from : ℕ → ℕ
held_from bits = 8_388_608 - half_at bits

-- "256 times the result lies within 128 of the sample, except for samples of 8,388,480 and more, where it lies below by 128 to
-- 255." Over the width: at 16 bits from -127 to 128; at 24, where the scale is 1 and half of it 0, it is the sample itself. No
-- other number lies so near.
pub record LiesNear (bits : ℕ) : Type 0 where
  pub nearby : (z : ℤ) → lt_z z (pos (held_from bits)) ≡ true
      → lies_in (minus (half_at bits - 1)) (pos (half_at bits)) (error_at bits z) ≡ true
  pub only : (z r : ℤ) → lt_z z (pos (held_from bits)) ≡ true
      → lies_in (minus (half_at bits - 1)) (pos (half_at bits)) (r *ℤ pos (scale_at bits) -ℤ z) ≡ true → r ≡ narrowed bits z
  pub at_the_top : (z : ℤ) → is_sample z ≡ true → le_z (pos (held_from bits)) z ≡ true
      → (narrowed bits z ≡ pos (top_at bits))
      × (lies_in (minus (scale_at bits - 1)) (minus (scale_at bits - half_at bits)) (error_at bits z) ≡ true)

-- n numbers in a row, from z on
abbrev pub in_a_row : ℕ → ℤ → List ℤ
in_a_row zero z = []
in_a_row (suc n) z = z ∷ in_a_row n (z +ℤ pos 1)

abbrev pub sum_of : List ℤ → ℤ
sum_of [] = pos 0
sum_of (z ∷ zs) = z +ℤ sum_of zs

-- what the errors of 256 samples in a row sum to, where 16 bits are sent of each by a rule
unfoldable pub lean_of : (ℤ → ℤ) → ℤ → ℤ
lean_of rule z = sum_of (map (error_of 256 rule) (in_a_row 256 z))

-- 01's rule, which the request replaces: "the value divided by 256, rounded towards minus infinity"
abbrev pub rounded_down : ℤ → ℤ
rounded_down z = shr_z z 256

-- "Averages of quiet 16-bit captures sit half a step low": by 01's rule the errors of any 256 in a row sum to -32,640, which is
-- -127.5 each, half of 256 all but 0.5. By this rule they sum to 128, which is 0.5 each, as long as none of the 256 is held.
pub record NoLean : Type 0 where
  pub before : (z : ℤ) → lean_of rounded_down z ≡ minus 32_640
  pub after : (z : ℤ) → lt_z (z +ℤ pos 255) (pos 8_388_480) ≡ true → lean_of (narrowed 16) z ≡ pos 128

-- A rule that one might take for this one, and a sample of which it sends another number.
pub record WrongRule : Type 0 where
  pub bits : ℕ
  pub rule : ℤ → ℤ
  pub witness : ℤ

abbrev wrong : ℕ → (ℤ → ℤ) → ℤ → WrongRule
wrong bits rule witness = record { bits = bits; rule = rule; witness = witness }

-- halves away from zero
abbrev halves_away : ℤ → ℤ
halves_away (pos n) = pos ((n + 128) / 256)
halves_away (negsuc n) = minus ((suc n + 128) / 256)

abbrev pub differs : WrongRule → Bool
differs w =
    is_sample w.witness
    && not (eqb (coded w.bits (w.rule w.witness)) (coded w.bits (narrowed w.bits w.witness)))

abbrev pub all_differ : List WrongRule → Bool
all_differ [] = true
all_differ (w ∷ ws) = differs w && all_differ ws

abbrev pub wrong_rules : List WrongRule
wrong_rules =
    -- rounding down, as before
    wrong 16 rounded_down (pos 128)
    -- "Dividing towards zero for 16 bits" (01, easy slips), and so after adding 128
    ∷ wrong 16 (λ z. quot_z z (pos 256)) (pos 128)
    ∷ wrong 16 (λ z. quot_z (z +ℤ pos 128) (pos 256)) (minus 129)
    -- 127 for 128; 128 added after dividing
    ∷ wrong 16 (λ z. at_most 32_767 (shr_z (z +ℤ pos 127) 256)) (pos 128)
    ∷ wrong 16 (λ z. at_most 32_767 (shr_z z 256 +ℤ pos 128)) (pos 0)
    -- halves away from zero; halves down
    ∷ wrong 16 halves_away (minus 128)
    ∷ wrong 16 (λ z. neg_ℤ (shr_z (neg_ℤ z +ℤ pos 128) 256)) (pos 128)
    -- not held: 32,768 is the bits of -32,768; held one too low
    ∷ wrong 16 (rounded 16) (pos 8_388_480)
    ∷ wrong 16 (λ z. at_most 32_766 (rounded 16 z)) (pos 8_388_607)
    -- 24 bits rounded too
    ∷ wrong 24 (λ z. at_most 8_388_607 (shr_z (z +ℤ pos 128) 256)) (pos 128)
    ∷ []
