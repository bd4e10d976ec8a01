-- A mode and a size that a box may have are those of a listed form; with bit 6 or without it, a head's mode is one of four.
use Prim.Native.Nat.{ℕ, ◌+◌, ◌/◌, ◌%◌, ◌<◌}
use mathlib.Core.Path.{◌≡◌, refl, sym, subst, ap, ◌∙◌}
use mathlib.Core.Bool.{Bool, true, false, ◌&&◌}
use mathlib.Core.List.{[], ◌∷◌}
use native.Mathlib.Decide.{dec_lt, ℕ_discrete}
use native.Mathlib.Omega.{arith}
use lib.Dec.{eqb}
use borrow.Author.Tests.{ne_eqb, eqb-false}
use Rattle.wire.specs.Choice.{one_of}
use Rattle.packets.specs.Forms.{form_for, listed_form}
use Rattle.packets.specs.Channels.{is_count}
use Rattle.wire.proofs.Laws.{one_has, pick_keeps}
use Rattle.items.specs.Settings.{is_mode, is_size}
use Rattle.heads.specs.declared.Head.{Head}
use Rattle.heads.specs.Head.{channels_in, box_mode, mode_with, FourModes, ModeReadBack}

abbrev Same : ℕ → ℕ → Type 0
Same mode size = listed_form (form_for mode size) ≡ is_mode mode && is_size size

-- a number is one of two, or neither, whichever way it is compared
either : (A : ℕ → Type 0) (a b n : ℕ) → A a → A b → (eqb a n ≡ false → eqb b n ≡ false → eqb n a ≡ false → eqb n b ≡ false → A n) → A n
either A a b n first second none =
    elim (ℕ_discrete n a) [
      | yes e ↦ subst A (sym e) first
      | no p ↦ elim (ℕ_discrete n b) [
        | yes e ↦ subst A (sym e) second
        | no q ↦ none (ne_eqb a n (λ e. p (sym e))) (ne_eqb b n (λ e. q (sym e))) (ne_eqb n a p) (ne_eqb n b q)
      ]
    ]

pub mode_and_size : (mode size : ℕ) → Same mode size
mode_and_size mode size =
    either (λ (m : ℕ). Same m size) 0x80 0x00 mode
    (either (Same 0x80) 0 1 size refl refl (λ p q r s. rw (p, q, r, s)))
    (either (Same 0x00) 0 1 size refl refl (λ p q r s. rw (p, q, r, s)))
    (λ p q r s. rw (p, q, r, s))

-- ---- bit 6

abbrev One : ℕ → Type 0
One mode = is_mode (box_mode mode) ≡ one_of mode (0x80 ∷ 0x00 ∷ 0xC0 ∷ 0x40 ∷ [])

-- without bit 6 it is another than 80 and 00, unless it is one of the four
deep : (mode : ℕ) → eqb mode 0x80 ≡ false → eqb mode 0xC0 ≡ false → eqb (box_mode mode) 0x80 ≡ false
deep mode p q =
    ne_eqb (box_mode mode) 0x80
    (λ (e : box_mode mode ≡ 0x80). omega (arith, e, eqb-false mode 0x80 p, eqb-false mode 0xC0 q))

flat : (mode : ℕ) → eqb mode 0x00 ≡ false → eqb mode 0x40 ≡ false → eqb (box_mode mode) 0x00 ≡ false
flat mode p q =
    ne_eqb (box_mode mode) 0x00
    (λ (e : box_mode mode ≡ 0x00). omega (arith, e, eqb-false mode 0x00 p, eqb-false mode 0x40 q))

one_of_four : (mode : ℕ) → One mode
one_of_four mode =
    either One 0x80 0x00 mode refl refl
    (λ p q r s. either One 0xC0 0x40 mode refl refl (λ t u v w. rw (deep mode r v, flat mode s w, r, s, v, w)))

pub is_count_lem : (h : Head) → is_count (channels_in h) ≡ true
is_count_lem h = one_or_two (h.mode / 0x40 % 2) (omega arith)
  where
    one_or_two : (bit : ℕ) → bit < 2 → is_count (1 + bit) ≡ true
    one_or_two bit small =
        let is : ℕ → Type 0 = λ (k : ℕ). is_count (1 + k) ≡ true in
        elim (dec_lt bit 1) [
          | yes n ↦ let none : 0 ≡ bit = omega arith in subst is none refl
          | no n ↦ let one : 1 ≡ bit = omega arith in subst is one refl
        ]

pub four_modes : FourModes
four_modes =
    record {
      exactly = λ h. mode_and_size (box_mode h.mode) h.size ∙ ap (λ (b : Bool). b && is_size h.size) (one_of_four h.mode);
      channels = is_count_lem;
    }

-- ---- and the way there

-- bit 6 set or not, the box's mode is read from it
mode_back : (mode n : ℕ) → is_mode mode ≡ true → box_mode (mode_with mode n) ≡ mode
mode_back mode n = one_has (λ m. box_mode (mode_with m n) ≡ m) mode (0x80 ∷ 0x00 ∷ []) (of_mode 0x80 refl refl, (of_mode 0x00 refl refl, tt))
  where
    of_mode : (m : ℕ) → box_mode (box_mode m + 0x40) ≡ m → box_mode (box_mode m + 0) ≡ m → box_mode (mode_with m n) ≡ m
    of_mode m two one = pick_keeps (λ (bit : ℕ). box_mode (box_mode m + bit) ≡ m) (eqb n 2) 0x40 0 (λ e. two) (λ e. one)

channels_back : (mode n : ℕ) → is_count n ≡ true → 1 + mode_with mode n / 0x40 % 2 ≡ n
channels_back mode n = one_has (λ k. 1 + mode_with mode k / 0x40 % 2 ≡ k) n (1 ∷ 2 ∷ []) (omega arith, (omega arith, tt))

pub mode_read_back : ModeReadBack
mode_read_back =
    record { mode = mode_back; channels = λ h mode n count is. ap (λ (m : ℕ). 1 + m / 0x40 % 2) is ∙ channels_back mode n count }
