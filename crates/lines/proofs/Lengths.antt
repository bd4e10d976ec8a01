-- How long a text is: a number below 2 ^ 64 has at most 20 digits.
use Prim.Native.Nat.{ℕ, zero, suc, ◌+◌, ◌*◌, ◌/◌, ◌^◌, ◌≤◌, ◌<◌}
use mathlib.Core.Path.{◌≡◌, ap}
use mathlib.Core.List.{List, [], ◌∷◌, ◌++◌}
use native.Mathlib.Omega.{arith}
use lib.Dec.{ltb}
use lib.ListN.{length, length-append}
use borrow.Author.Tests.{ltb-false}
use Rattle.wire.proofs.Laws.{pick_keeps}
use Rattle.lines.specs.Lines.{Line, last_digit, digits_in, decimal, numbers_text, line_text, text_of, refusal_line, end_line}

-- a number below a power of ten has no more digits than the power
digits_length : (k r n : ℕ) → n < 10 ^ suc r → length (digits_in k n) ≤ suc r
unfolding digits_in
digits_length zero r n h = omega arith
digits_length (suc k) zero n h =
    pick_keeps (λ (l : List ℕ). length l ≤ 1) (ltb n 10) _ _ (λ e. omega arith)
    (λ e. absurd (omega (arith, ltb-false n 10 e)))
digits_length (suc k) (suc r) n h =
    pick_keeps (λ (l : List ℕ). length l ≤ suc (suc r)) (ltb n 10) _ _ (λ e. omega arith)
    (λ e. omega (arith, length-append (digits_in k (n / 10)) (last_digit n ∷ []), digits_length k r (n / 10) (omega arith)))

pub decimal_length : (n : ℕ) → n < 2 ^ 64 → length (decimal n) ≤ 20
unfolding decimal
decimal_length n small = digits_length n 19 n (omega arith)

-- each number fits 64 bits
abbrev pub all_fit : List ℕ → Type 0
all_fit [] = Unit {0}
all_fit (n ∷ ns) = (n < 2 ^ 64) × all_fit ns

numbers_length : (ns : List ℕ) → all_fit ns → length (numbers_text ns) ≤ 21 * length ns
numbers_length [] fit = omega arith
numbers_length (n ∷ ns) fit =
    let whole : length (0x20 ∷ decimal n ++ numbers_text ns) ≡ suc (length (decimal n) + length (numbers_text ns))
    = ap suc (length-append (decimal n) (numbers_text ns)) in
    omega (arith, whole, decimal_length n fit.0, numbers_length ns fit.1)

pub line_length : (l : Line) → all_fit l.numbers → length (line_text l) ≤ length l.word + 21 * length l.numbers + 1
line_length l fit =
    let text : List ℕ = numbers_text l.numbers in
    omega (arith, length-append l.word (text ++ 0x0A ∷ []), length-append text (0x0A ∷ []), numbers_length l.numbers fit)

pub text_length : (l : Line) (ls : List Line) → length (text_of (l ∷ ls)) ≡ length (line_text l) + length (text_of ls)
text_length l ls = length-append (line_text l) (text_of ls)

-- ---- the lines

pub refusal_length : (code offset : ℕ) → code < 2 ^ 64 → offset < 2 ^ 64 → length (text_of (refusal_line code offset ∷ [])) ≤ 44
refusal_length code offset c o = omega (arith, text_length (refusal_line code offset) [], line_length (refusal_line code offset) (c, (o, tt)))

pub end_length : (captures : ℕ) → captures < 2 ^ 64 → length (text_of (end_line captures ∷ [])) ≤ 23
end_length captures c = omega (arith, text_length (end_line captures) [], line_length (end_line captures) (c, tt))
