-- Writing and reading a head undo each other, in either version: each allowed head comes back, and bytes that are read as a head
-- begin with the bytes of that head.
use Prim.Native.Nat.{ℕ, ◌+◌, ◌≤◌}
use mathlib.Core.Path.{◌≡◌, refl, sym, ap, ◌∙◌}
use mathlib.Core.Bool.{true}
use mathlib.Core.List.{List, [], ◌∷◌, ◌++◌}
use native.Mathlib.Omega.{arith}
use lib.Dec.{eqb}
use lib.ListN.{length, take, drop}
use lib.Seq.{take-add, drop-drop}
use borrow.Author.Tests.{le-ltb, ltb-false, eqb-true, eq-eqb, not-false}
use Rattle.wire.specs.Choice.{pick}
use Rattle.wire.specs.Number.{number, bytes, field}
use Rattle.wire.specs.Lists.{all_bytes}
use Rattle.wire.proofs.Checks.{absent}
use Rattle.wire.proofs.Lists.{byte_at}
use Rattle.wire.proofs.Numbers.{field_bytes_lem, number_bytes}
use Rattle.heads.specs.declared.Head.{Head}
use Rattle.heads.specs.Head.{mark, is_head_version, fields_of, field_bytes, head_bytes, head_length, head_length_in, version_in, head_in}
use Rattle.heads.specs.Head.{unknown, nominal, box_mode, allowed_head, head_read_checks, head_read_code, head_reading_of}
use Rattle.heads.specs.Head.{AsLongAsItsVersion, ReadAsWritten, WrittenAsRead}
use Rattle.heads.proofs.Codes.{code_by_lem, reading_by, by_version, least_long, more, bytes_old, bytes_new}
use Rattle.heads.proofs.Values.{is_version_lem, divisor_small, frequency_small, form_listed, mode_small, size_small}
use Rattle.heads.proofs.Values.{serial_small, clock_most, old_bare, bare_serial, bare_clock}

-- ---- written and read

-- What has a head's mark and length, and holds an allowed head, is read as that head.
pub reads : (s : List ℕ) (h : Head) → head_length h.version ≤ length s → field 0 3 s ≡ number mark → head_in s ≡ h → allowed_head h ≡ true
    → head_reading_of s ≡ record { code = 1; heads = h ∷ [] }
reads s h long marked is a =
    let version : version_in s ≡ h.version = ap (λ (x : Head). x.version) is in
    let whole : head_length_in s ≤ length s = omega (arith, long, ap head_length version) in
    reading_by s
    (code_by_lem s (le-ltb (length s) 14 (omega (arith, long, least_long h.version))) (eq-eqb _ _ marked)
    (ap is_head_version version ∙ is_version_lem h a) (le-ltb (length s) (head_length_in s) whole) (ap allowed_head is ∙ a))
    ∙ ap (λ (x : Head). record { code = 1; heads = x ∷ [] }) is

-- bytes are read as a head
abbrev ReadAs : List ℕ → Head → Type 0
ReadAs s h = head_reading_of s ≡ record { code = 1; heads = h ∷ [] }

-- a head's bytes, and what follows them, as those that both versions have and what follows these
abbrev begun : Head → List ℕ → List ℕ
begun h after = field_bytes 1 (fields_of h) ++ after

module _ (h : Head) (a : allowed_head h ≡ true) (after : List ℕ) where
  version_back : version_in (begun h after) ≡ h.version
  version_back = number_bytes 2 h.version (by_version h.version (is_version_lem h a) (λ e. omega arith) (λ e. omega arith))

  -- of serial and clock what the version says
  begun_reads : head_length h.version ≤ length (begun h after)
      → pick (eqb h.version 2) (field 14 8 (begun h after)) unknown ≡ h.serial
      → pick (eqb h.version 2) (field 22 4 (begun h after)) nominal ≡ h.clock
      → ReadAs (begun h after) h
  begun_reads long serial clock = reads (begun h after) h long refl holds a
    where
      divisor : field 5 2 (begun h after) ≡ h.divisor
      divisor = number_bytes 2 h.divisor (omega (arith, divisor_small h a))

      frequency : field 7 5 (begun h after) ≡ h.frequency
      frequency = number_bytes 5 h.frequency (omega (arith, frequency_small h a))

      mode : field 12 1 (begun h after) ≡ h.mode
      mode = number_bytes 1 h.mode (omega (arith, mode_small h.mode h.size (form_listed h a)))

      size : field 13 1 (begun h after) ≡ h.size
      size = number_bytes 1 h.size (omega (arith, size_small (box_mode h.mode) h.size (form_listed h a)))

      holds : head_in (begun h after) ≡ h
      holds = rw (version_back, divisor, frequency, mode, size, serial, clock)

pub read_written : ReadAsWritten
read_written h rest a = by_version h.version (is_version_lem h a) old new
  where
    old : h.version ≡ 1 → ReadAs (head_bytes h ++ rest) h
    old e =
        let bare = old_bare h a e in
        rw (bytes_old h e) (begun_reads h a rest (rw e (omega arith)) (rw e (sym (bare_serial h bare))) (rw e (sym (bare_clock h bare))))

    new : h.version ≡ 2 → ReadAs (head_bytes h ++ rest) h
    new e =
        let after : List ℕ = more h ++ rest in
        let serial : field 14 8 (begun h after) ≡ h.serial = number_bytes 8 h.serial (serial_small h a) in
        let clock : field 22 4 (begun h after) ≡ h.clock = number_bytes 4 h.clock (omega (arith, clock_most h a)) in
        rw (bytes_new h e) (begun_reads h a after (rw e (omega arith)) (rw e serial) (rw e clock))

-- a head has as many bytes as its version says
pub bytes_long : AsLongAsItsVersion
bytes_long h known =
    by_version h.version known (λ (e : h.version ≡ 1). rw (bytes_old h e, e)) (λ (e : h.version ≡ 2). rw (bytes_new h e, e))

-- ---- read and written

-- What bytes that are read as a head have.
pub record Passed (s : List ℕ) : Type 0 where
  pub long : head_length_in s ≤ length s
  pub marked : field 0 3 s ≡ number mark
  pub known : is_head_version (version_in s) ≡ true
  pub ok : allowed_head (head_in s) ≡ true

pub passed : (s : List ℕ) → head_read_code s ≡ 1 → Passed s
unfolding head_read_code
passed s e =
    let none = absent (head_read_checks s) 1 refl e in
    record {
      long = ltb-false (length s) (head_length_in s) none.1.1.1.0;
      marked = eqb-true (field 0 3 s) (number mark) (not-false _ none.1.0);
      known = not-false _ none.1.1.0;
      ok = not-false _ none.1.1.1.1.0;
    }

-- fields that stand one after the other
next : (s : List ℕ) (at n m : ℕ) → take (n + m) (drop at s) ≡ take n (drop at s) ++ take m (drop (at + n) s)
next s at n m = take-add n m (drop at s) ∙ ap (λ (l : List ℕ). take n (drop at s) ++ take m l) (drop-drop n at s)

both : {a b c d : List ℕ} → a ≡ b → c ≡ d → a ++ c ≡ b ++ d
both p q = cc

module _ (s : List ℕ) (small : all_bytes s) where
  -- a field that stands there, before what does
  joins : (at n m : ℕ) {after : List ℕ} → at + n ≤ length s → after ≡ take m (drop (at + n) s)
      → bytes n (field at n s) ++ after ≡ take (n + m) (drop at s)
  joins at n m room is =
      both (field_bytes_lem at n s (byte_at s small) room) is ∙ sym (next s at n m)

  -- what both versions have
  first_there : 14 ≤ length s → field 0 3 s ≡ number mark → field_bytes 1 (fields_of (head_in s)) ≡ take 14 s
  first_there long marked =
      let last = joins 12 1 1 (omega arith) (joins 13 1 0 (omega arith) refl) in
      let values = joins 3 2 9 (omega arith) (joins 5 2 7 (omega arith) (joins 7 5 2 (omega arith) last)) in
      ap (λ (l : List ℕ). mark ++ l) values
      ∙ ap (λ (n : ℕ). bytes 3 n ++ take 11 (drop 3 s)) (sym marked)
      ∙ joins 0 3 11 (omega arith) refl

  -- what version 2 adds
  more_there : 26 ≤ length s → version_in s ≡ 2 → more (head_in s) ≡ take 12 (drop 14 s)
  more_there long two = rw two (joins 14 8 4 (omega arith) (joins 22 4 0 (omega arith) refl))

pub written_read : WrittenAsRead
written_read s small e = by_version (version_in s) p.known old new
  where
    p : Passed s
    p = passed s e

    first : field_bytes 1 (fields_of (head_in s)) ≡ take 14 s
    first = first_there s small (omega (arith, p.long, least_long (version_in s))) p.marked

    old : version_in s ≡ 1 → head_bytes (head_in s) ≡ take (head_length_in s) s
    old one = bytes_old (head_in s) one ∙ first ∙ rw one

    new : version_in s ≡ 2 → head_bytes (head_in s) ≡ take (head_length_in s) s
    new two =
        let all : 26 ≤ length s = rw two at p.long in
        bytes_new (head_in s) two ∙ both first (more_there s small all two) ∙ sym (next s 0 14 12) ∙ rw two
