-- What words come to, from their tests; and that a head of theirs may be written.
-- Assumes nothing.
use Prim.Native.Nat.{ℕ, ◌<◌}
use mathlib.Core.Path.{◌≡◌, refl, sym, subst, ◌∙◌}
use mathlib.Core.Bool.{Bool, true, false, ◌&&◌, ◌||◌, not}
use mathlib.Core.List.{List}
use lib.Dec.{eqb}
use lib.ListN.{length, get_or}
use borrow.Author.Tests.{eqb-true}
use Rattle.wire.specs.Choice.{pick}
use Rattle.wire.specs.Lists.{same}
use Rattle.wire.specs.Number.{field}
use Rattle.wire.proofs.Laws.{never, and_left, or_rest, or_right, pick_keeps}
use Rattle.rates.specs.Rate.{is_d}
use Rattle.tuning.specs.Bands.{in_bands}
use Rattle.tuning.specs.Word.{is_clock}
use Rattle.packets.specs.Forms.{form_for, listed_form}
use Rattle.items.specs.Settings.{is_serial, all_serial, holds_serial}
use Rattle.heads.specs.declared.Head.{Head}
use Rattle.heads.specs.Head.{unknown, nominal, is_head_version, head_serial, naming_ok, box_mode, form_in, allowed_head}
use Rattle.heads.proofs.Codes.{allowed_by}
use Rattle.std.proofs.Common.{Ok, Err}
use Rattle.headwords.specs.declared.BadWord.TheVariants as Bad
use Rattle.headwords.specs.Words.{Worded, number_of, word24, word16, twice24, bits_word, mode_of, large, size_word, size_of}
use Rattle.headwords.specs.Words.{dash, serial_word, serial_of}
use Rattle.headwords.specs.Words.{plain_of, names_of, Fit}
use Rattle.headwords.proofs.Words.{holds_there}

-- ---- four words

abbrev pub old : ℕ → ℕ → ℕ → ℕ → Head
old n f m z = record { version = 1; divisor = n; frequency = f; mode = m; size = z; serial = unknown; clock = nominal }

abbrev pub plain_head : List ℕ → List ℕ → List ℕ → List ℕ → Head
plain_head d hz bits size = old (number_of d) (number_of hz) (mode_of bits) (size_of size)

abbrev plain_by : Bool → Bool → Bool → Bool → Head → Worded
plain_by d hz bits size h =
    pick (not d) (Err Bad.Divisor)
    (pick (not hz) (Err Bad.Frequency) (pick (not bits) (Err Bad.Bits) (pick (not size) (Err Bad.Size) (Ok h))))

module _ (d hz bits size : List ℕ) where
  pub plain_by_lem : {p q s t : Bool} → is_d (number_of d) ≡ p → in_bands (number_of hz) ≡ q → bits_word bits ≡ s
      → size_word size ≡ t → plain_of d hz bits size ≡ plain_by p q s t (plain_head d hz bits size)
  unfolding plain_of
  plain_by_lem e f g h = rw (e, f, g, h)

  -- each of the four forms is one of the table, of one channel and of two
  formed : listed_form (form_in (plain_head d hz bits size)) ≡ true
  formed =
      pick_keeps Formed (same bits word24 || same bits word16) (pick (same bits word24) 0x80 0x00) (pick (same bits twice24) 0xC0 0x40)
      (λ one. pick_keeps Formed (same bits word24) 0x80 0x00 (λ e. by 0x80 refl refl) (λ e. by 0x00 refl refl))
      (λ two. pick_keeps Formed (same bits twice24) 0xC0 0x40 (λ e. by 0xC0 refl refl) (λ e. by 0x40 refl refl))
    where
      Formed : ℕ → Type 0
      Formed mode = listed_form (form_for (box_mode mode) (size_of size)) ≡ true

      by : (mode : ℕ) → listed_form (form_for (box_mode mode) 0) ≡ true → listed_form (form_for (box_mode mode) 1) ≡ true → Formed mode
      by mode big little =
          pick_keeps (λ (z : ℕ). listed_form (form_for (box_mode mode) z) ≡ true) (same size large) 0 1 (λ e. big) (λ e. little)

  pub plain_fit : Fit (plain_of d hz bits size)
  plain_fit =
      subst Fit (sym (plain_by_lem refl refl refl refl))
      (go (is_d (number_of d)) (in_bands (number_of hz)) (bits_word bits) (size_word size) refl refl)
    where
      go : (p q s t : Bool) → is_d (number_of d) ≡ p → in_bands (number_of hz) ≡ q → Fit (plain_by p q s t (plain_head d hz bits size))
      go false q s t e f = tt
      go true false s t e f = tt
      go true true false t e f = tt
      go true true true false e f = tt
      go true true true true e f = allowed_by (plain_head d hz bits size) refl e f formed refl

-- ---- two more

abbrev pub named_head : Head → List ℕ → List ℕ → Head
named_head h serial clock =
    record {
      version = 2;
      divisor = h.divisor;
      frequency = h.frequency;
      mode = h.mode;
      size = h.size;
      serial = serial_of serial;
      clock = number_of clock;
    }

-- the other values are those of a head that may be written
others : (v d b f : Bool) → v && d && b && f ≡ true → true && d && b && f && true ≡ true
others true true true true all = refl
others true true true false all = all
others true true false f all = all
others true false b f all = all
others false d b f all = never all

abbrev names_by : Bool → Bool → Head → Worded
names_by serial clock h = pick (not serial) (Err Bad.Serial) (pick (not clock) (Err Bad.Clock) (Ok h))

module _ (h : Head) (serial clock : List ℕ) where
  pub names_by_lem : {p q : Bool} → serial_word serial ≡ p → is_clock (number_of clock) ≡ q
      → names_of h serial clock ≡ names_by p q (named_head h serial clock)
  unfolding names_of
  names_by_lem e f = rw (e, f)

  -- a dash is no serial, and any other is the number of its eight bytes
  serial_ok : ((k : ℕ) → get_or serial k 0 < 256) → serial_word serial ≡ true → head_serial (serial_of serial) ≡ true
  serial_ok bytes_all is = by (same serial dash) refl
    where
      by : (none : Bool) → same serial dash ≡ none → head_serial (pick none unknown (field 0 8 serial)) ≡ true
      by true e = refl
      by false e =
          let good : is_serial serial ≡ true = or_rest (same serial dash) (is_serial serial) is e in
          let long : length serial ≡ 8 = eqb-true (length serial) 8 (and_left (eqb (length serial) 8) (all_serial serial) good) in
          or_right (eqb (field 0 8 serial) 0) (holds_serial (field 0 8 serial)) (holds_there serial bytes_all long ∙ good)

  pub names_fit : allowed_head h ≡ true → ((k : ℕ) → get_or serial k 0 < 256) → Fit (names_of h serial clock)
  names_fit ok bytes_all = subst Fit (sym (names_by_lem refl refl)) (go (serial_word serial) (is_clock (number_of clock)) refl refl)
    where
      go : (p q : Bool) → serial_word serial ≡ p → is_clock (number_of clock) ≡ q → Fit (names_by p q (named_head h serial clock))
      go false q e f = tt
      go true false e f = tt
      go true true e f =
          let all = sym (allowed_by h refl refl refl refl refl) ∙ ok in
          let others_ok : Bool = is_head_version h.version && is_d h.divisor && in_bands h.frequency && listed_form (form_in h) in
          let four = and_left others_ok (naming_ok h) all in
          let names : naming_ok (named_head h serial clock) ≡ true = rw (serial_ok bytes_all e, f) refl in
          allowed_by (named_head h serial clock) refl refl refl refl names
          ∙ others (is_head_version h.version) (is_d h.divisor) (in_bands h.frequency) (listed_form (form_in h)) four
