-- What an allowed head has.
use Prim.Native.Nat.{ℕ, ◌^◌, ◌≤◌, ◌<◌}
use mathlib.Core.Path.{◌≡◌, refl, sym, ◌∙◌}
use mathlib.Core.Bool.{Bool, true, false, ◌&&◌}
use native.Mathlib.Decide.{dec_lt}
use native.Mathlib.Omega.{arith}
use lib.Dec.{eqb, ltb}
use borrow.Author.Tests.{eqb-true, ltb-true, ne_eqb}
use Rattle.wire.specs.Number.{bytes}
use Rattle.wire.proofs.Laws.{and_left, and_right, never, by_test, by_or, within_low, within_high}
use Rattle.rates.specs.Rate.{is_d}
use Rattle.tuning.specs.Bands.{in_bands}
use Rattle.tuning.proofs.Covered.{bands_high}
use Rattle.tuning.specs.Word.{is_clock}
use Rattle.packets.specs.Forms.{form_for, listed_form}
use Rattle.packets.proofs.Forms.{is_listed_form}
use Rattle.packets.proofs.Channels.{each_fewer}
use Rattle.items.specs.Settings.{is_serial}
use Rattle.heads.specs.declared.Head.{Head}
use Rattle.heads.specs.Head.{is_head_version, unknown, nominal, head_serial, bare, naming_ok, allowed_head}
use Rattle.heads.specs.Head.{channels_in, box_mode, form_in, each_in}
use Rattle.heads.proofs.Codes.{allowed_by}

-- a serial has eight bytes at most
in_eight : (n : ℕ) → head_serial n ≡ true → n < 256 ^ 8
in_eight n =
    by_or (eqb n unknown) (is_serial (bytes 8 n) && ltb n (256 ^ 8))
    (λ (e : eqb n unknown ≡ true). omega (arith, eqb-true n unknown e))
    (λ (e : is_serial (bytes 8 n) && ltb n (256 ^ 8) ≡ true). ltb-true n (256 ^ 8) (and_right (is_serial (bytes 8 n)) (ltb n (256 ^ 8)) e))

-- ---- a bare head

pub bare_serial : (h : Head) → bare h ≡ true → h.serial ≡ unknown
bare_serial h e = eqb-true h.serial unknown (and_left (eqb h.serial unknown) (eqb h.clock nominal) e)

pub bare_clock : (h : Head) → bare h ≡ true → h.clock ≡ nominal
bare_clock h e = eqb-true h.clock nominal (and_right (eqb h.serial unknown) (eqb h.clock nominal) e)

-- its serial and its clock are such as version 2 may have
bare_well : (h : Head) → bare h ≡ true → head_serial h.serial && is_clock h.clock ≡ true
bare_well h e = rw (bare_serial h e, bare_clock h e)

-- ---- an allowed head

module _ (h : Head) (a : allowed_head h ≡ true) where
  abbrev version_ok : Bool
  version_ok = is_head_version h.version

  abbrev divisor_ok : Bool
  divisor_ok = is_d h.divisor

  abbrev bands_ok : Bool
  bands_ok = in_bands h.frequency

  abbrev form_ok : Bool
  form_ok = listed_form (form_in h)

  all : version_ok && divisor_ok && bands_ok && form_ok && naming_ok h ≡ true
  all = sym (allowed_by h refl refl refl refl refl) ∙ a

  pub well_named : naming_ok h ≡ true
  well_named = and_right (version_ok && divisor_ok && bands_ok && form_ok) (naming_ok h) all

  first_four : version_ok && divisor_ok && bands_ok && form_ok ≡ true
  first_four = and_left (version_ok && divisor_ok && bands_ok && form_ok) (naming_ok h) all

  pub form_listed : form_ok ≡ true
  form_listed = and_right (version_ok && divisor_ok && bands_ok) form_ok first_four

  -- a channel has at most 256 pairs in a packet
  pub few_each : (each_in h).pairs ≤ 256
  few_each = omega (arith, each_fewer (channels_in h) (form_in h), (is_listed_form (form_in h) form_listed).few)

  first_three : version_ok && divisor_ok && bands_ok ≡ true
  first_three = and_left (version_ok && divisor_ok && bands_ok) form_ok first_four

  pub bands_ok_lem : bands_ok ≡ true
  bands_ok_lem = and_right (version_ok && divisor_ok) bands_ok first_three

  pub frequency_small : h.frequency ≤ 150_000_000
  frequency_small = bands_high h.frequency bands_ok_lem

  first_two : version_ok && divisor_ok ≡ true
  first_two = and_left (version_ok && divisor_ok) bands_ok first_three

  pub divisor_ok_lem : divisor_ok ≡ true
  divisor_ok_lem = and_right version_ok divisor_ok first_two

  pub divisor_small : h.divisor ≤ 625
  divisor_small = within_high 10 625 h.divisor divisor_ok_lem

  pub is_version_lem : version_ok ≡ true
  is_version_lem = and_left version_ok divisor_ok first_two

  -- a head of version 1 is bare
  pub old_bare : h.version ≡ 1 → bare h ≡ true
  old_bare old = rw old at well_named

  -- serial and clock of either version are such as version 2 may have
  pub named_new : head_serial h.serial && is_clock h.clock ≡ true
  named_new =
      by_test (eqb h.version 2) (λ (new : eqb h.version 2 ≡ true). rw new at well_named)
      (λ (old : eqb h.version 2 ≡ false). bare_well h (rw old at well_named))

  pub serial_ok : head_serial h.serial ≡ true
  serial_ok = and_left (head_serial h.serial) (is_clock h.clock) named_new

  pub serial_small : h.serial < 256 ^ 8
  serial_small = in_eight h.serial serial_ok

  pub clock_ok : is_clock h.clock ≡ true
  clock_ok = and_right (head_serial h.serial) (is_clock h.clock) named_new

  pub clock_least : 79_992_000 ≤ h.clock
  clock_least = within_low 79_992_000 80_008_000 h.clock clock_ok

  pub clock_most : h.clock ≤ 80_008_000
  clock_most = within_high 79_992_000 80_008_000 h.clock clock_ok

-- a mode or a size that is no byte has no form
mode_byte_lem : (mode size : ℕ) → listed_form (form_for mode size) ≡ true → mode < 256
mode_byte_lem mode size l = elim (dec_lt mode 256) [ yes m ↦ m | no m ↦ never (none (omega arith)) ]
  where
    none : 256 ≤ mode → false ≡ true
    none m = rw (ne_eqb 0x80 mode (λ e. omega arith), ne_eqb 0x00 mode (λ e. omega arith)) at l

pub mode_small : (mode size : ℕ) → listed_form (form_for (box_mode mode) size) ≡ true → mode < 256
mode_small mode size l = omega (arith, mode_byte_lem (box_mode mode) size l)

pub size_small : (mode size : ℕ) → listed_form (form_for mode size) ≡ true → size < 256
size_small mode size l =
    elim (dec_lt size 256) [ yes m ↦ m | no m ↦ never (none (omega arith) (eqb 0x80 mode) (eqb 0x00 mode) refl refl) ]
  where
    none : 256 ≤ size → (deep flat : Bool) → eqb 0x80 mode ≡ deep → eqb 0x00 mode ≡ flat → false ≡ true
    none m true true p q = rw (ne_eqb 0 size (λ e. omega arith), ne_eqb 1 size (λ e. omega arith), p, q) at l
    none m true false p q = rw (ne_eqb 0 size (λ e. omega arith), ne_eqb 1 size (λ e. omega arith), p, q) at l
    none m false true p q = rw (ne_eqb 0 size (λ e. omega arith), ne_eqb 1 size (λ e. omega arith), p, q) at l
    none m false false p q = rw (p, q) at l
