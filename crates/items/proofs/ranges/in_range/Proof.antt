-- The tests are the definition's, the serial's before the others, and the clock's with each channel's.
use Prim.Native.Nat.{ℕ}
use mathlib.Core.Path.{◌≡◌, refl, ◌∙◌, sym, ap}
use mathlib.Core.Bool.{Bool, true, false, ◌&&◌, and-true, and-false}
use lib.Dec.{eqb, leb}
use lib.ListN.{length}
use borrow.Author.Rules.{rules}
use borrow.Author.Tests.{eq-eqb}
use Rattle.rates.specs.Rate.{is_d}
use Rattle.tuning.specs.Bands.{in_bands}
use Rattle.tuning.specs.Word.{is_clock, word_of}
use Rattle.packets.specs.Numbers.{most}
use Rattle.items.specs.declared.Channel.{Channel}
use Rattle.items.specs.Settings.{in_range, is_gain, is_mode, is_size, is_setup}
use Rattle.items.proofs.ranges.in_range.Statement.{statement}
use Rattle.items.proofs.ranges.in_range.Tie as tie

all-serial-requires : tie.Need-all_serial-requires
all-serial-requires c κs = search rules

long : (c : tie.Start) → length c.args.s.serial ≡ 8
long c = search rules

returns : tie.Need-returns-then-not-all_serial
unfolding in_range
returns c =
    let d = c in
    let start = d in
    simp (
      eq-eqb (length start.args.s.serial) 8 (long start.before.before.before.before),
      sym d.all_serial.ensures ∙ c.if-not-all_serial.true,
      and-false,
    )

agree-requires : tie.Need-agree-requires
agree-requires c κs = search rules

is-gain-requires : tie.Need-is_gain-requires
is-gain-requires c κs = search rules

agree-requires-2 : tie.Need-agree-requires-2
agree-requires-2 c κs = search rules

is-gain-requires-2 : tie.Need-is_gain-requires-2
is-gain-requires-2 c κs = search rules

is-d-requires : tie.Need-is_d-requires
is-d-requires c κs = search rules

is-size-requires : tie.Need-is_size-requires
is-size-requires c κs = search rules

is-setup-requires : tie.Need-is_setup-requires
is-setup-requires c κs = search rules

is-mode-requires : tie.Need-is_mode-requires
is-mode-requires c κs = search rules

-- each channel's test has the clock's; it counts once, before them
clock_once : (band clock word gain : Bool) (band' word' gain' : Bool)
    → (band && clock && word && gain && (band' && clock && word') && gain') ≡ (clock && (band && word && gain) && (band' && word' && gain'))
clock_once true true true true true word' gain' = refl
clock_once true true true true false word' gain' = refl
clock_once true true true false band' word' gain' = refl
clock_once true true false gain band' word' gain' = refl
clock_once true false word gain band' word' gain' = refl
clock_once false true word gain band' word' gain' = refl
clock_once false false word gain band' word' gain' = refl

-- the word is that of frequency and clock
abbrev agrees : ℕ → Channel → Bool
agrees clock c = eqb c.word (word_of c.frequency clock)

returns-2 : tie.Need-returns
unfolding in_range
returns-2 c =
    -- the tests, from the last back to the first
    let setup = c in
    let size = setup in
    let divisor = size in
    let second = divisor in
    let first = second in
    let d = first in
    let start = d in
    let s = start.args.s in
    rw (
      first.agree.ensures,
      first.is_gain.ensures,
      second.agree-2.ensures,
      second.is_gain-2.ensures,
      divisor.is_d.ensures,
      size.is_size.ensures,
      setup.is_setup.ensures,
      c.is_mode.ensures,
      eq-eqb (length s.serial) 8 (long start.before.before.before.before.before.before.before.before.before.before.before.before.before),
      sym d.all_serial.ensures ∙ first.if-not-all_serial.false,
    )
    (sym (and-true _)
    ∙ ap (λ (b : Bool). b && leb s.count most && is_d s.divisor && is_size s.size && is_setup s.setup && is_mode s.mode && true)
    (clock_once (in_bands s.first.frequency) (is_clock s.clock) (agrees s.clock s.first) (is_gain s.first.gain)
    (in_bands s.second.frequency) (agrees s.clock s.second) (is_gain s.second.gain)))

pub in_range_spec : {M : Type 1} → statement M
in_range_spec =
    tie.close
    (tie.spec
    all-serial-requires
    returns
    agree-requires
    is-gain-requires
    agree-requires-2
    is-gain-requires-2
    is-d-requires
    is-size-requires
    is-setup-requires
    is-mode-requires
    returns-2)
