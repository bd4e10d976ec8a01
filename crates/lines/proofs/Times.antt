-- The end time: the split quotient is the whole one rounded down, and at 80,000,000 Hz it is what it was before there was a clock.
-- Assumes nothing.
use Prim.Native.Nat.{ℕ, ◌+◌, ◌*◌, ◌/◌, ◌%◌, ◌≤◌, ◌<◌}
use mathlib.Core.Path.{◌≡◌, sym, ap, ◌∙◌}
use mathlib.Core.Bool.{Bool, true, ◌&&◌}
use native.Mathlib.Nat.{mul_assoc, add-mul, mul_left_comm, div-add-mod, mul-add-div, div-mul-le_self, lt-div-mul-add, div-lt_iff_lt-mul}
use native.Mathlib.Omega.{arith}
use lib.Dec.{T, leb}
use borrow.Author.Tests.{leb-true}
use Rattle.wire.specs.Choice.{pick}
use Rattle.wire.proofs.Laws.{within_low, within_high, and_left, and_right}
use Rattle.rates.specs.Rate.{is_d}
use Rattle.tuning.specs.Word.{is_clock}
use Rattle.lines.specs.Timing.{most_samples, of_a_capture, timing_of}
use Rattle.lines.specs.Inside.{split_time}
use Rattle.lines.specs.Lines.{end_time, TimeExact, TimeAsBefore, times, all_timed}
use Rattle.lines.proofs.Dues.{time_fits}

-- what divides first and multiplies then, the remainder too, is the product's quotient
split_quotient : (n k c : ℕ) → 0 < c → n / c * k + n % c * k / c ≡ n * k / c
split_quotient n k c some =
    let q : ℕ = n / c in
    let r : ℕ = n % c in
    let parts : n * k ≡ c * (q * k) + r * k
    = ap (λ (m : ℕ). m * k) (sym (div-add-mod n c)) ∙ add-mul (c * q) r k ∙ ap (λ (m : ℕ). m + r * k) (mul_assoc c q k) in
    sym (ap (λ (m : ℕ). m / c) parts ∙ mul-add-div some (q * k) (r * k))

-- so what the code counts is the end time
pub counted : (d clock samples : ℕ) → 0 < clock → split_time clock (samples * (4 * d)) ≡ end_time d clock samples
counted d clock samples some = split_quotient (samples * (4 * d)) 1_000_000 clock some

pub time_exact : TimeExact
time_exact d clock samples some =
    let n : ℕ = samples * (4 * d) * 1_000_000 in
    let same : samples * 4 * d * 1_000_000 ≡ n = ap (λ (m : ℕ). m * 1_000_000) (mul_assoc samples 4 d) in
    let next : (n / clock + 1) * clock ≡ n / clock * clock + clock = omega (arith, add-mul (n / clock) 1 clock) in
    record {
      low = omega (arith, same, div-mul-le_self n clock);
      high = omega (arith, same, next, lt-div-mul-add {a = n} some);
    }

pub time_as_before : TimeAsBefore
time_as_before d samples = omega (arith, mul_left_comm samples 4 d)

pub times_hold : T (all_timed times)
times_hold = tt

-- ---- the products fit 64 bits

module _ (samples d : ℕ) (long : samples ≤ 1_024_000_000_000) (slow : d ≤ 625) where
  pub cycles_fit : samples * (4 * d) ≤ 2_560_000_000_000_000
  cycles_fit = omega (arith, mul_left_comm samples 4 d, time_fits samples d long slow)

  -- the longest capture at the least clock is the last of `times`
  pub time_below : (clock : ℕ) → is_clock clock ≡ true → end_time d clock samples ≤ 32_003_200_320_032
  time_below clock c =
      let least = within_low 79_992_000 80_008_000 clock c in
      let some : 0 < clock = omega (arith, least) in
      let less : samples * (4 * d) * 1_000_000 < 32_003_200_320_033 * clock = omega (arith, cycles_fit, least) in
      omega (arith, (div-lt_iff_lt-mul some).1 less)

-- ---- an end time asked for by itself

-- numbers that a capture can have are such as the products fit of
pub capture_fits : (samples d clock : ℕ) → of_a_capture samples d clock ≡ true
    → (samples ≤ most_samples) × (d ≤ 625) × (is_clock clock ≡ true)
capture_fits samples d clock is =
    let long : Bool = leb samples most_samples in
    let both = and_left (long && is_d d) (is_clock clock) is in (
      leb-true samples most_samples (and_left long (is_d d) both),
      within_high 10 625 d (and_right long (is_d d) both),
      and_right (long && is_d d) (is_clock clock) is,
    )

-- what is answered, by whether they are
pub timing_by : (samples d clock : ℕ) {are : Bool} → of_a_capture samples d clock ≡ are
    → timing_of samples d clock
    ≡ pick are (record { code = 1; microseconds = end_time d clock samples }) (record { code = 16; microseconds = 0 })
unfolding timing_of
timing_by samples d clock is = rw is
