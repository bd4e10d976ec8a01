-- Laws of text in a buffer, and of numbers in decimal.
use Prim.Native.Nat.{ℕ, zero, suc, ◌+◌, ◌*◌, ◌-◌, ◌/◌, ◌%◌, ◌^◌, ◌≤◌, ◌<◌}
use mathlib.Core.Path.{◌≡◌, refl, sym, ap, ◌∙◌}
use mathlib.Core.List.{List, [], ◌∷◌, ◌++◌, append_assoc, append-nil}
use native.Mathlib.Decide.{dec_lt}
use native.Mathlib.Nat.{pow-le-pow_right}
use native.Mathlib.Omega.{arith}
use native.Mathlib.Numerals.{add-one}
use lib.ListN.{length, get_or, take, length-append}
use lib.Seq.{sets, take_all}
use borrow.Author.Tests.{lt-ltb, le-ltb}
use Rattle.io.specs.Digits.{last_digits, IsDigitCount}
use Rattle.wire.specs.Number.{bytes}
use Rattle.wire.proofs.Stores.{sets_append}
use Rattle.wire.proofs.Numbers.{length_bytes}
use Rattle.lines.specs.Lines.{digits_in, decimal, numbers_text, text_with}
use Rattle.lines.specs.Inside.{Stored}

-- ---- decimal

tens : (r : ℕ) → 1 ≤ 10 ^ r
tens zero = omega arith
tens (suc r) = omega (arith, tens r)

-- the fewest digits that hold a number are those of `digits_in`, where its bound is no less
spelled : (r k n : ℕ) → r ≤ k → n < 10 ^ suc r → (0 < r → 10 ^ r ≤ n) → last_digits 10 (suc r) n ≡ digits_in k n
unfolding digits_in
spelled zero zero n h below above = rw (lt-ltb (n % 10) 10 (omega arith))
spelled zero (suc k) n h below above = rw (lt-ltb (n % 10) 10 (omega arith), lt-ltb n 10 (omega arith))
spelled (suc r) zero n h below above = absurd (omega arith)
spelled (suc r) (suc k) n h below above =
    let top : 10 ^ suc r ≤ n = above (omega arith) in
    let one : 1 ≤ 10 ^ r = tens r in
    let shorter : last_digits 10 (suc r) (n / 10) ≡ digits_in k (n / 10)
    = spelled r k (n / 10) (omega arith) (omega arith) (λ some. omega arith) in
    rw (lt-ltb (n % 10) 10 (omega arith), le-ltb n 10 (omega arith), shorter)

-- no number has more digits than it counts
counts : (r : ℕ) → r ≤ 10 ^ r
counts zero = omega arith
counts (suc r) = omega (arith, counts r, tens r)

pub decimal_is : (n r : ℕ) → IsDigitCount 10 1 n r → last_digits 10 r n ≡ decimal n
unfolding decimal
decimal_is n zero f = absurd (omega (arith, f.0))
decimal_is n (suc r) f = spelled r n n (enough r f.2) f.1 (λ some. rw (sub_one_suc r) at (f.2 (omega arith)))
  where
    sub_one_suc : (k : ℕ) → suc k - 1 ≡ k
    sub_one_suc k = omega arith

    enough : (k : ℕ) → (1 < suc k → 10 ^ (suc k - 1) ≤ n) → k ≤ n
    enough zero h = omega arith
    enough (suc k) h =
        let top : 10 ^ suc k ≤ n = rw (sub_one_suc (suc k)) at (h (omega arith)) in
        omega (arith, counts (suc k))

-- ---- a number, numbers, a line

pub number_stored : (n k at : ℕ) (a b c d : List ℕ) → b ≡ sets a at (0x20 ∷ []) → c ≡ sets b (at + 1) d → k ≡ length d → k ≤ 20
    → IsDigitCount 10 1 n k → d ≡ last_digits 10 k n → Stored 21 a at (0x20 ∷ decimal n) c (at + 1 + k)
number_stored n k at a b c d space copied counted few fewest is =
    let text : d ≡ decimal n = is ∙ decimal_is n k fewest in
    let long : k ≡ length (decimal n) = counted ∙ ap length text in
    record {
      stored = rw (copied, space, text, add-one at);
      ends = omega arith;
      short = omega arith;
    }

-- two texts, the second where the first ends
pub stored_after : {p q : ℕ} {a b c s t : List ℕ} {at end last : ℕ} → Stored p a at s b end → Stored q b end t c last
    → Stored (p + q) a at (s ++ t) c last
stored_after {p} {q} {a} {b} {c} {s} {t} {at} {end} {last} x y =
    record {
      stored = y.stored ∙ rw (x.stored, x.ends) (sets_append a at s t);
      ends = omega (arith, x.ends, y.ends, length-append s t);
      short = omega (arith, x.short, y.short);
    }

pub stored_within : {p : ℕ} (q : ℕ) {a b s : List ℕ} {at end : ℕ} → p ≤ q → Stored p a at s b end → Stored q a at s b end
stored_within q h x = record { stored = x.stored; ends = x.ends; short = omega (arith, x.short) }

pub nothing_stored : (a : List ℕ) (at : ℕ) → Stored 0 a at [] a at
nothing_stored a at = record { stored = refl; ends = omega arith; short = omega arith }

-- a number of n bytes, least significant byte first
pub put_stored : (n v at : ℕ) (a b : List ℕ) → b ≡ sets a at (bytes n v) → Stored n a at (bytes n v) b (at + n)
put_stored n v at a b is = record { stored = is; ends = omega (arith, length_bytes n v); short = omega arith }

-- the text of numbers is that of the first i, and that of the next
numbers_more : (ns : List ℕ) (i : ℕ) → i < length ns
    → numbers_text (take (i + 1) ns) ≡ numbers_text (take i ns) ++ (0x20 ∷ decimal (get_or ns i 0))
numbers_more [] i h = absurd (omega arith)
numbers_more (n ∷ ns) zero h = append-nil (0x20 ∷ decimal n)
numbers_more (n ∷ ns) (suc i) h =
    let next : suc i + 1 ≡ suc (i + 1) = omega arith in
    let first : List ℕ = 0x20 ∷ decimal n in
    rw next
    (ap (λ (l : List ℕ). first ++ l) (numbers_more ns i (omega arith))
    ∙ sym (append_assoc first (numbers_text (take i ns)) (0x20 ∷ decimal (get_or ns i 0))))

pub numbers_turn : (ns a b c : List ℕ) (at i to end : ℕ) → i < length ns → Stored (21 * i) a at (numbers_text (take i ns)) b to
    → Stored 21 b to (0x20 ∷ decimal (get_or ns i 0)) c end → Stored (21 * (i + 1)) a at (numbers_text (take (i + 1) ns)) c end
numbers_turn ns a b c at i to end h x y = rw (numbers_more ns i h) (stored_within (21 * (i + 1)) (omega arith) (stored_after x y))

pub numbers_end : (ns a b : List ℕ) (at i to : ℕ) → i ≤ length ns → length ns ≤ i → Stored (21 * i) a at (numbers_text (take i ns)) b to
    → Stored (21 * length ns) a at (numbers_text ns) b to
numbers_end ns a b at i to h k x = rw (take_all i ns k) at (stored_within (21 * length ns) (omega arith) x)

-- bytes copied to a place
pub copied : (word : List ℕ) (at : ℕ) (a b : List ℕ) → b ≡ sets a at word → Stored (length word) a at word b (at + length word)
copied word at a b is = record { stored = is; ends = omega arith; short = omega arith }

pub line_stored : (at to : ℕ) (word ns a b c d : List ℕ) → b ≡ sets a at word
    → Stored (21 * length ns) b (at + length word) (numbers_text ns) c to
    → d ≡ sets c to (bytes 1 0x0A) → Stored (length word + 21 * length ns + 1) a at (text_with word ns) d (to + 1)
line_stored at to word ns a b c d first numbers last =
    stored_within (length word + 21 * length ns + 1) (omega arith)
    (stored_after (copied word at a b first) (stored_after numbers (put_stored 1 0x0A to c d last)))

-- a number has at most twenty digits in 64 bits
pub few_digits : (n k : ℕ) → n < 2 ^ 64 → IsDigitCount 10 1 n k → k ≤ 20
few_digits n k small f = elim (dec_lt 20 k) [ yes more ↦ absurd (too_many more f.2) | no more ↦ omega arith ]
  where
    too_many : 20 < k → (1 < k → 10 ^ (k - 1) ≤ n) → ⊥
    too_many more above =
        let some : 0 < 10 = omega arith in
        let long : 20 ≤ k - 1 = omega arith in
        let least : 10 ^ 20 ≤ 10 ^ (k - 1) = pow-le-pow_right some long in
        omega (arith, least, above (omega arith))
