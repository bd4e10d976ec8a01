-- What reading a head comes to, from the numbers that the code reads of its first 14 bytes, and from its tests.
use Prim.Native.Nat.{ℕ, ◌/◌, ◌%◌, ◌≤◌, ◌<◌}
use mathlib.Core.Path.{◌≡◌, refl, sym, ap, ◌∙◌}
use mathlib.Core.Bool.{Bool, true, false, ◌&&◌}
use mathlib.Core.List.{List, [], ◌∷◌}
use native.Mathlib.Omega.{arith}
use lib.Dec.{eqb, ltb}
use lib.ListN.{length, get_or}
use borrow.Author.Tests.{lt-ltb, le-ltb, eq-eqb, ne_eqb}
use Rattle.wire.specs.Choice.{pick}
use Rattle.wire.specs.Number.{number, field}
use Rattle.tuning.specs.Word.{is_clock}
use Rattle.heads.specs.declared.Head.{Head}
use Rattle.heads.specs.Head.{mark, is_head_version, version_in, head_length, head_length_in, head_in, head_serial, allowed_head}
use Rattle.heads.specs.Head.{unknown, nominal, HeadReading, head_reading_of}
use Rattle.heads.specs.Inside.{head_by_words}
use Rattle.heads.proofs.Codes.{code_by, code_by_lem, reading_by, allowed_in_two, named_old, named_new}
use Rattle.heads.proofs.Words.{values_of, low_mark, low_version, old_by_words, new_by_words}

-- the answer of reading that has a code, with a head where it is 1
abbrev pub answers : ℕ → Head → HeadReading
answers n h = record { code = n; heads = pick (eqb n 1) (h ∷ []) [] }

-- under 14 bytes
pub too_short : (s : List ℕ) → length s < 14 → record { code = 40; heads = [] } ≡ head_reading_of s
too_short s short = sym (reading_by s (code_by_lem s (lt-ltb _ _ short) refl refl refl refl))

module _ (s : List ℕ) (long : 14 ≤ length s) where
  begun : {marked known cut ok : Bool} → eqb (field 0 3 s) (number mark) ≡ marked → is_head_version (version_in s) ≡ known
      → ltb (length s) (head_length_in s) ≡ cut → allowed_head (head_in s) ≡ ok
      → answers (code_by false marked known cut ok) (head_in s) ≡ head_reading_of s
  begun m k c a = sym (reading_by s (code_by_lem s (le-ltb (length s) 14 long) m k c a))

  module _ (small : (k : ℕ) → get_or s k 0 < 256) {low high : ℕ} (is_low : low ≡ field 0 8 s) (is_high : high ≡ field 6 8 s) where
    mark_is : low % 16_777_216 ≡ field 0 3 s
    mark_is = ap (λ (n : ℕ). n % 16_777_216) is_low ∙ low_mark s small long

    -- with another mark
    pub no_mark : (low % 16_777_216 ≡ number mark → ⊥) → record { code = 40; heads = [] } ≡ head_reading_of s
    no_mark other = begun (ne_eqb _ _ (λ is. other (mark_is ∙ is))) refl refl refl

    pub marked : low % 16_777_216 ≡ number mark → field 0 3 s ≡ number mark
    marked is = sym mark_is ∙ is

    module _ (is_mark : field 0 3 s ≡ number mark) where
      there : eqb (field 0 3 s) (number mark) ≡ true
      there = eq-eqb (field 0 3 s) (number mark) is_mark

      -- of version 2: cut short, or as its values say
      pub cut_short : version_in s ≡ 2 → length s < 26 → record { code = 40; heads = [] } ≡ head_reading_of s
      cut_short two short =
          begun there (ap is_head_version two) (lt-ltb (length s) (head_length_in s) (omega (arith, short, ap head_length two))) refl

      pub second_reads : {h : Head} {serial clock : ℕ} {first names : Bool} → h ≡ head_by_words low high serial clock
          → serial ≡ field 14 8 s → clock ≡ field 22 4 s → version_in s ≡ 2 → 26 ≤ length s
          → values_of h ≡ first → head_serial serial && is_clock clock ≡ names
          → answers (code_by false true true false (first && names)) h ≡ head_reading_of s
      second_reads {h} {first = first} {names = names} made is_serial is_clock' two enough values named =
          let found : h ≡ head_in s = made ∙ new_by_words s small long is_low is_high two is_serial is_clock' in
          let allowed = allowed_in_two (head_in s) (ap values_of (sym found) ∙ values) (named_new s two is_serial is_clock' ∙ named) in
          let fits = le-ltb (length s) (head_length_in s) (omega (arith, enough, ap head_length two)) in
          ap (answers (code_by false true true false (first && names))) found ∙ begun there (ap is_head_version two) fits allowed

      -- of another: of a version that there is not, or of version 1 as its values say
      module _ {h : Head} (made : h ≡ head_by_words low high unknown nominal) where
        pub version_is : h.version ≡ version_in s
        version_is =
            ap (λ (x : Head). x.version) made ∙ ap (λ (n : ℕ). n / 16_777_216 % 65_536) is_low ∙ low_version s small long

        pub neither : (h.version ≡ 2 → ⊥) → (h.version ≡ 1 → ⊥) → record { code = 41; heads = [] } ≡ head_reading_of s
        neither other none =
            let not_one = ne_eqb (version_in s) 1 (λ is. none (version_is ∙ is)) in
            let not_two = ne_eqb (version_in s) 2 (λ is. other (version_is ∙ is)) in
            begun {known = false} there (rw (not_one, not_two)) refl refl

        pub first_reads : {first : Bool} → h.version ≡ 1 → values_of h ≡ first
            → answers (code_by false true true false (first && true)) h ≡ head_reading_of s
        first_reads {first} old values =
            let one : version_in s ≡ 1 = sym version_is ∙ old in
            let not_two : version_in s ≡ 2 → ⊥ = λ two. omega (arith, one, two) in
            let found : h ≡ head_in s = made ∙ old_by_words s small long is_low is_high not_two in
            let allowed = allowed_in_two (head_in s) (ap values_of (sym found) ∙ values) (named_old s not_two) in
            let fits = le-ltb (length s) (head_length_in s) (omega (arith, long, ap head_length one)) in
            ap (answers (code_by false true true false (first && true))) found ∙ begun there (ap is_head_version one) fits allowed
