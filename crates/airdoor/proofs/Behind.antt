-- The shape of packets behind a head.
use Prim.Native.Nat.{ℕ, ◌+◌, ◌*◌, ◌/◌}
use mathlib.Core.Path.{◌≡◌, refl, sym, ap, subst, ◌∙◌}
use mathlib.Core.Bool.{Bool, true, false, ◌&&◌}
use mathlib.Core.List.{[], ◌∷◌}
use native.Mathlib.Nat.{mul_comm, mul_assoc}
use native.Mathlib.Omega.{arith}
use lib.Dec.{eqb, leb}
use lib.ListN.{length}
use Rattle.wire.specs.Choice.{pick}
use Rattle.wire.proofs.Laws.{one_has, and_left, and_right}
use Rattle.rates.specs.Rate.{is_d}
use Rattle.tuning.specs.Word.{is_clock}
use Rattle.packets.specs.declared.Form.{Form}
use Rattle.packets.specs.Forms.{form_for, total_of, listed_form}
use Rattle.packets.specs.Channels.{is_count, pairs_each}
use Rattle.packets.specs.Numbers.{most}
use Rattle.packets.proofs.Forms.{packet_is, picked_some}
use Rattle.std.specs.Prelude.{Some, None}
use Rattle.packets.proofs.Channels.{shared_out}
use Rattle.items.specs.declared.Settings.{Settings}
use Rattle.items.specs.Settings.{is_mode, is_size, is_setup, is_serial, channel_in_range, in_range, open_channels}
use Rattle.heads.specs.declared.Head.{Head}
use Rattle.heads.specs.Head.{channels_in, form_in}
use Rattle.heads.proofs.Listed.{is_count_lem, four_modes}
use Rattle.heads.proofs.Values.{form_listed}
use Rattle.airdoor.specs.Heading.{head_mode_over}
use Rattle.airdoor.specs.Shapes.{Shape, as_shape, shape_of, shape_behind, no_shape, shape_in, some_head, shape_over}
use Rattle.airdoor.specs.Shapes.{ShapesAsPrinted, ShapedByTheHead, ShapedByTheBox, WorksOut, ShapesWorkOut, TotalsAreLengths}

-- what is answered, by whether the head's form is listed
pub shape_by : (h : Head) {listed : Bool} → listed_form (form_in h) ≡ listed → shape_in h ≡ pick listed (shape_behind h) no_shape
unfolding shape_in
shape_by h is = rw is

-- what the library answers of a listed form and a count
pub shaped : (h : Head) (f : Form) (n pairs total : ℕ) → f ≡ form_in h → listed_form f ≡ true → n ≡ channels_in h
    → Some pairs ≡ pick (is_count n) (Some (pairs_each n f)) None → Some total ≡ pick (listed_form f) (Some (total_of f)) None
    → as_shape 1 n f.bits pairs (2 * f.pairs) total ≡ shape_in h
shaped h f n pairs total is listed counts each all =
    rw (shape_by h (rw is at listed), (picked_some _ _ _ all).1, (picked_some _ _ _ each).1, counts, is)

-- ---- all eight, and no others

code_by_lem : (b : Bool) (n : ℕ) (f : Form) → eqb (pick b (shape_of n f) no_shape).code 1 ≡ b
code_by_lem true n f = refl
code_by_lem false n f = refl

pub shapes_as_printed : ShapesAsPrinted
unfolding shape_in
shapes_as_printed =
    record {
      rows = (refl, (refl, (refl, (refl, (refl, (refl, (refl, (refl, tt))))))));
      exactly = λ mode size.
          let h = some_head mode size in
          code_by_lem (listed_form (form_in h)) (channels_in h) (form_in h) ∙ four_modes.exactly h;
    }

-- ---- of a head, and of a box

pub shaped_by_the_head : ShapedByTheHead
shaped_by_the_head h allowed = shape_by (some_head h.mode h.size) (form_listed h allowed)

-- what is answered of a box's mode, setup and size
abbrev ByThree : ℕ → ℕ → ℕ → Type 0
ByThree mode setup size =
    shape_over (head_mode_over mode setup).byte size ≡ shape_of (length (open_channels setup)) (form_for mode size)

by_three : (mode setup size : ℕ) → is_mode mode ≡ true → is_setup setup ≡ true → is_size size ≡ true → ByThree mode setup size
unfolding head_mode_over shape_in
by_three mode setup size m u z =
    one_has (λ x. ByThree x setup size) mode (0x80 ∷ 0x00 ∷ [])
    (of_mode 0x80 refl refl refl refl, (of_mode 0x00 refl refl refl refl, tt)) m
  where
    of_mode : (x : ℕ) → ByThree x 0 0 → ByThree x 0 1 → ByThree x 4 0 → ByThree x 4 1 → ByThree x setup size
    of_mode x a b c d =
        one_has (λ y. ByThree x y size) setup (0 ∷ 4 ∷ [])
        (one_has (ByThree x 0) size (0 ∷ 1 ∷ []) (a, (b, tt)) z, (one_has (ByThree x 4) size (0 ∷ 1 ∷ []) (c, (d, tt)) z, tt)) u

-- of the tests of settings in range those of size, setup and mode; the others that stand before them
abbrev others_of : Settings → Bool
others_of s =
    is_clock s.clock && channel_in_range s.clock s.first && channel_in_range s.clock s.second && leb s.count most
    && is_d s.divisor

three_of : (others size setup mode serial : Bool) → others && size && setup && mode && serial ≡ true
    → (mode ≡ true) × (setup ≡ true) × (size ≡ true)
three_of others size setup mode serial all =
    let four = and_left (others && size && setup && mode) serial all in
    let three = and_left (others && size && setup) mode four in (
      and_right (others && size && setup) mode four,
      and_right (others && size) setup three,
      and_right others size (and_left (others && size) setup three),
    )

pub shaped_by_the_box : ShapedByTheBox
unfolding in_range
shaped_by_the_box s r =
    let three = three_of (others_of s) (is_size s.size) (is_setup s.setup) (is_mode s.mode) (is_serial s.serial) r in
    by_three s.mode s.setup s.size three.0 three.1 three.2

-- ---- what the numbers come to

works_out : (n : ℕ) (f : Form) → is_count n ≡ true → listed_form f ≡ true → WorksOut (shape_of n f)
works_out n f count listed =
    let each : ℕ = pairs_each n f in
    record {
      numbers = omega (arith, shared_out n f count listed, mul_assoc 2 each n, mul_comm n each);
      total = ap (λ (m : ℕ). 4 + m * (f.bits / 8)) (mul_comm f.pairs 2);
    }

-- 1 is answered of a listed form alone
listed_by : (b : Bool) (n : ℕ) (f : Form) → (pick b (shape_of n f) no_shape).code ≡ 1 → b ≡ true
listed_by true n f e = refl
listed_by false n f e = absurd (omega arith)

module _ (mode size : ℕ) (done : (shape_over mode size).code ≡ 1) where
  abbrev h : Head
  h = some_head mode size

  listed : listed_form (form_in h) ≡ true
  listed = listed_by (listed_form (form_in h)) (channels_in h) (form_in h) (sym (ap (λ (s : Shape). s.code) (shape_by h refl)) ∙ done)

  whole : shape_over mode size ≡ shape_behind h
  whole = shape_by h listed

  sums : WorksOut (shape_over mode size)
  sums = subst WorksOut (sym whole) (works_out (channels_in h) (form_in h) (is_count_lem h) listed)

pub shapes_work_out : ShapesWorkOut
shapes_work_out = sums

pub totals_are_lengths : TotalsAreLengths
totals_are_lengths mode size packet done is =
    (packet_is packet (ap listed_form is ∙ listed mode size done)).long
    ∙ ap total_of is
    ∙ sym (ap (λ (s : Shape). s.total) (whole mode size done))
