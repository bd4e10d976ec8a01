-- A reply that is laid out with an item's value is the reply that the item's row asks for.
use Prim.Native.Nat.{ℕ, suc, ◌+◌}
use mathlib.Core.Path.{◌≡◌, refl}
use mathlib.Core.List.{[], ◌∷◌}
use native.Mathlib.Omega.{arith}
use lib.ListN.{length, take}
use borrow.Author.Tests.{ne_eqb}
use Rattle.std.specs.Prelude.{Option, Some, None}
use Rattle.wire.specs.Number.{bytes}
use Rattle.wire.specs.Header.{type_reply}
use Rattle.wire.proofs.Numbers.{length_bytes}
use Rattle.layouts.specs.Layouts.{echo_bytes, laid}
use Rattle.items.specs.declared.Settings.{Settings}
use Rattle.items.specs.Items.{echoes, Item, no_item, row_of}
use Rattle.items.specs.Answer.{framed, reply_body}
use Rattle.answers.specs.Inside.{replying}

-- with an echoed byte, and without one
pub shows : (i : Item) (item width value : ℕ) (s : Settings) (echo : ℕ) (echoed : Option ℕ) → i.code ≡ item
    → i.rule.value s (echo ∷ []) ≡ bytes width value → take (echoes i.echoed) (echo ∷ []) ≡ echo_bytes echoed
    → laid (replying item echoed width value) ≡ framed type_reply (reply_body i s (echo ∷ []))
shows i item width value s echo (Some byte) code shown same =
    let size : 5 + width ≡ 2 + suc (suc (suc (length (bytes width value)))) = omega (arith, length_bytes width value) in
    rw (same, shown, code, ← size) refl
shows i item width value s echo None code shown same =
    let size : 4 + width ≡ 2 + suc (suc (length (bytes width value))) = omega (arith, length_bytes width value) in
    rw (same, shown, code, ← size) refl

-- a code that is in no row
pub no_row : (item : ℕ) → (item ≡ 0x0001 → ⊥) → (item ≡ 0x0002 → ⊥) → (item ≡ 0x0003 → ⊥) → (item ≡ 0x0004 → ⊥) → (item ≡ 0x0005 → ⊥)
    → (item ≡ 0x0018 → ⊥) → (item ≡ 0x0019 → ⊥) → (item ≡ 0x0020 → ⊥) → (item ≡ 0x0038 → ⊥) → (item ≡ 0x00B0 → ⊥) → (item ≡ 0x00B8 → ⊥)
    → (item ≡ 0x00C4 → ⊥) → row_of item ≡ no_item
unfolding row_of
no_row item a b c d e f g h i j k l =
    rw (
      ne_eqb item 0x0001 a,
      ne_eqb item 0x0002 b,
      ne_eqb item 0x0003 c,
      ne_eqb item 0x0004 d,
      ne_eqb item 0x0005 e,
      ne_eqb item 0x0018 f,
      ne_eqb item 0x0019 g,
      ne_eqb item 0x0020 h,
      ne_eqb item 0x0038 i,
      ne_eqb item 0x00B0 j,
      ne_eqb item 0x00B8 k,
      ne_eqb item 0x00C4 l,
    )
    refl
