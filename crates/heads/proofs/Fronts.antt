-- Of bytes that begin with a head only the head's own are looked at.
use Prim.Native.Nat.{ℕ, ◌+◌, ◌≤◌}
use mathlib.Core.Path.{◌≡◌, refl, sym, ap, ◌∙◌}
use mathlib.Core.Bool.{Bool, true, false}
use mathlib.Core.List.{List}
use native.Mathlib.Omega.{arith}
use lib.Dec.{eqb}
use lib.ListN.{length, take}
use borrow.Author.Tests.{le-ltb}
use Rattle.wire.specs.Choice.{pick}
use Rattle.wire.specs.Number.{number, field}
use Rattle.wire.proofs.Numbers.{field_front}
use Rattle.heads.specs.Head.{mark, is_head_version, head_length, unknown, nominal, head_length_in, version_in, head_in}
use Rattle.heads.specs.Head.{allowed_head, head_read_code}
use Rattle.heads.proofs.Codes.{head_by, code_by_lem, least_long}

module _ (s t : List ℕ) (same : take (head_length_in s) s ≡ take (head_length_in s) t) where
  abbrev n : ℕ
  n = head_length_in s

  -- a field within the head
  alike : (at k : ℕ) → at + k ≤ n → field at k s ≡ field at k t
  alike at k inside =
      sym (field_front at k n s inside) ∙ ap (field at k) same ∙ field_front at k n t inside

  -- one that both versions have
  first : (at k : ℕ) → at + k ≤ 14 → field at k s ≡ field at k t
  first at k inside = alike at k (omega (arith, inside, least_long (version_in s)))

  pub same_version : version_in s ≡ version_in t
  same_version = first 3 2 (omega arith)

  -- one that version 2 adds
  second : (at k d : ℕ) → at + k ≤ 26 → pick (eqb (version_in s) 2) (field at k s) d ≡ pick (eqb (version_in t) 2) (field at k t) d
  second at k d inside = by (eqb (version_in s) 2) refl
    where
      by : (two : Bool) → eqb (version_in s) 2 ≡ two
          → pick (eqb (version_in s) 2) (field at k s) d ≡ pick (eqb (version_in t) 2) (field at k t) d
      by true e = rw (ap (λ (v : ℕ). eqb v 2) (sym same_version) ∙ e, e) (alike at k (rw e inside))
      by false e = rw (ap (λ (v : ℕ). eqb v 2) (sym same_version) ∙ e, e)

  pub same_head : head_in s ≡ head_in t
  same_head =
      let divisor = first 5 2 (omega arith) in
      let frequency = first 7 5 (omega arith) in
      let mode = first 12 1 (omega arith) in
      let size = first 13 1 (omega arith) in
      let serial = second 14 8 unknown (omega arith) in
      let clock = second 22 4 nominal (omega arith) in
      head_by same_version divisor frequency mode size serial clock

  module _ (long : n ≤ length s) (reaches : n ≤ length t) where
    pub same_code : head_read_code s ≡ head_read_code t
    same_code =
        let reach : head_length_in t ≡ n = ap head_length (sym same_version) in
        code_by_lem s (le-ltb (length s) 14 (omega (arith, long, least_long (version_in s))))
        (ap (λ (m : ℕ). eqb m (number mark)) (first 0 3 (omega arith)))
        (ap is_head_version same_version)
        (le-ltb (length s) (head_length_in s) long)
        (ap allowed_head same_head)
        ∙ sym (code_by_lem t (le-ltb (length t) 14 (omega (arith, reaches, least_long (version_in s)))) refl refl
        (le-ltb (length t) (head_length_in t) (omega (arith, reaches, reach))) refl)
