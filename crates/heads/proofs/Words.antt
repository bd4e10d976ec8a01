-- The 14 bytes that both versions have, as numbers of eight bytes: what the code reads of them, and what it stores.
use Prim.Native.Nat.{ℕ, ◌+◌, ◌*◌, ◌/◌, ◌%◌, ◌^◌, ◌≤◌, ◌<◌}
use mathlib.Core.Path.{◌≡◌, ap, ◌∙◌}
use mathlib.Core.Bool.{Bool}
use mathlib.Core.List.{List, [], ◌∷◌, ◌++◌}
use native.Mathlib.Omega.{arith}
use lib.ListN.{length, get_or}
use borrow.Author.Tests.{eq-eqb, ne_eqb}
use Rattle.wire.specs.Number.{bytes, field}
use Rattle.wire.proofs.Numbers.{field_below}
use Rattle.wire.proofs.Words.{field_split}
use Rattle.heads.specs.declared.Head.{Head}
use Rattle.heads.specs.Head.{mark, unknown, nominal, version_in, head_in}
use Rattle.heads.specs.Inside.{head_by_words, first_allowed}
use Rattle.heads.proofs.Codes.{head_by}

-- ---- read: the first eight bytes and the last eight

abbrev pub values_of : Head → Bool
values_of h = first_allowed h.version h.divisor h.frequency h.mode h.size

module _ (s : List ℕ) (small : (k : ℕ) → get_or s k 0 < 256) (long : 14 ≤ length s) where
  below : (at n : ℕ) → field at n s < 256 ^ n
  below at n = field_below at n s small

  -- mark, version, D, the frequency's first byte
  pub low_mark : field 0 8 s % 16_777_216 ≡ field 0 3 s
  low_mark = omega (arith, field_split s 0 3 5 (omega arith), below 0 3)

  after_mark : field 0 8 s / 16_777_216 ≡ field 3 5 s
  after_mark = omega (arith, field_split s 0 3 5 (omega arith), below 0 3)

  pub low_version : field 0 8 s / 16_777_216 % 65_536 ≡ field 3 2 s
  low_version = omega (arith, after_mark, field_split s 3 2 3 (omega arith), below 3 2)

  pub low_divisor : field 0 8 s / 1_099_511_627_776 % 65_536 ≡ field 5 2 s
  low_divisor =
      let after_version : field 3 5 s / 65_536 ≡ field 5 3 s = omega (arith, field_split s 3 2 3 (omega arith), below 3 2) in
      omega (arith, after_mark, after_version, field_split s 5 2 1 (omega arith), below 5 2)

  -- D's second byte, the frequency, mode, size
  after_one : field 6 8 s / 256 ≡ field 7 7 s
  after_one = omega (arith, field_split s 6 1 7 (omega arith), below 6 1)

  pub high_frequency : field 6 8 s / 256 % 1_099_511_627_776 ≡ field 7 5 s
  high_frequency = omega (arith, after_one, field_split s 7 5 2 (omega arith), below 7 5)

  after_frequency : field 6 8 s / 281_474_976_710_656 ≡ field 12 2 s
  after_frequency = omega (arith, after_one, field_split s 7 5 2 (omega arith), below 7 5)

  pub high_mode : field 6 8 s / 281_474_976_710_656 % 256 ≡ field 12 1 s
  high_mode = omega (arith, after_frequency, field_split s 12 1 1 (omega arith), below 12 1)

  pub high_size : field 6 8 s / 72_057_594_037_927_936 ≡ field 13 1 s
  high_size = omega (arith, after_frequency, field_split s 12 1 1 (omega arith), below 12 1)

  -- so they are the head's fields, beside its serial and its clock
  module _ {low high : ℕ} (is_low : low ≡ field 0 8 s) (is_high : high ≡ field 6 8 s) where
    by_words : {serial clock : ℕ} → serial ≡ (head_in s).serial → clock ≡ (head_in s).clock → head_by_words low high serial clock ≡ head_in s
    by_words serial clock =
        head_by (ap (λ (n : ℕ). n / 16_777_216 % 65_536) is_low ∙ low_version)
        (ap (λ (n : ℕ). n / 1_099_511_627_776 % 65_536) is_low ∙ low_divisor)
        (ap (λ (n : ℕ). n / 256 % 1_099_511_627_776) is_high ∙ high_frequency)
        (ap (λ (n : ℕ). n / 281_474_976_710_656 % 256) is_high ∙ high_mode)
        (ap (λ (n : ℕ). n / 72_057_594_037_927_936) is_high ∙ high_size) serial clock

    pub old_by_words : (version_in s ≡ 2 → ⊥) → head_by_words low high unknown nominal ≡ head_in s
    old_by_words other = by_words (rw (ne_eqb (version_in s) 2 other)) (rw (ne_eqb (version_in s) 2 other))

    pub new_by_words : {serial clock : ℕ} → version_in s ≡ 2 → serial ≡ field 14 8 s → clock ≡ field 22 4 s
        → head_by_words low high serial clock ≡ head_in s
    new_by_words two p q = by_words (rw (eq-eqb (version_in s) 2 two) p) (rw (eq-eqb (version_in s) 2 two) q)

-- ---- stored: the first eight bytes

-- eight bytes, one by one
eight : (n : ℕ) {a b c d e f g h : ℕ} → n % 256 ≡ a → n / 256 % 256 ≡ b → n / 256 / 256 % 256 ≡ c → n / 256 / 256 / 256 % 256 ≡ d
    → n / 256 / 256 / 256 / 256 % 256 ≡ e → n / 256 / 256 / 256 / 256 / 256 % 256 ≡ f
    → n / 256 / 256 / 256 / 256 / 256 / 256 % 256 ≡ g → n / 256 / 256 / 256 / 256 / 256 / 256 / 256 % 256 ≡ h
    → bytes 8 n ≡ a ∷ b ∷ c ∷ d ∷ e ∷ f ∷ g ∷ h ∷ []
eight n p q r s t u v w = cc

pub first_eight : (version divisor frequency : ℕ)
    → bytes 8 (0x4E5053 + 16_777_216 * (version % 65_536) + 1_099_511_627_776 * (divisor % 65_536 + 65_536 * (frequency % 256)))
    ≡ mark ++ (bytes 2 version ++ (bytes 2 divisor ++ frequency % 256 ∷ []))
first_eight version divisor frequency =
    eight (0x4E5053 + 16_777_216 * (version % 65_536) + 1_099_511_627_776 * (divisor % 65_536 + 65_536 * (frequency % 256)))
    (omega arith) (omega arith) (omega arith) (omega arith) (omega arith) (omega arith) (omega arith) (omega arith)
