use Rattle.std.proofs.Common.{sym, arith}
use mathlib.Core.Path.{◌∙◌}
use Rattle.headwords.proofs.Words.{read_all, too_long_lem, not_digits, low, no_digit, digit_high}
use Rattle.headwords.proofs.number_of.Goals as goal

pub returns-then-word-gt9 : goal.returns-then-word-gt9
returns-then-word-gt9 c = rw (too_long_lem _ c.if-word-gt9.true)

pub returns-then-not-is_ascii_digit : goal.returns-then-not-is_ascii_digit
returns-then-not-is_ascii_digit c =
    let other = sym c.is_ascii_digit.ensures.value ∙ c.if-not-is_ascii_digit.true in
    rw (not_digits _ c.loop-byte.invariant.short (no_digit _ _ _ c.loop-byte.invariant c.loop-byte-test.true other))

pub overflow_mul-n : goal.overflow_mul-n
overflow_mul-n c = omega (arith, low _ _ _ c.loop-byte.invariant c.loop-byte-test.true)

pub overflow_add-n : goal.overflow_add-n
overflow_add-n c =
    let digit = sym c.is_ascii_digit.ensures.value ∙ c.if-not-is_ascii_digit.false in
    omega (
      arith,
      low _ _ _ c.loop-byte.invariant c.loop-byte-test.true,
      digit_high _ _ _ c.loop-byte.invariant c.loop-byte-test.true digit,
    )

pub returns : goal.returns
returns c = read_all _ _ _ c.loop-byte.invariant c.loop-byte-test.false
