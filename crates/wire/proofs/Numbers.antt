-- Laws of `number`, `bytes` and `field`.
use Prim.Native.Nat.{ℕ, zero, suc, ◌+◌, ◌*◌, ◌-◌, ◌/◌, ◌%◌, ◌^◌, ◌≤◌, ◌<◌, min}
use mathlib.Core.Path.{◌≡◌, refl, sym, ap, ◌∙◌}
use mathlib.Core.List.{List, [], ◌∷◌}
use native.Mathlib.Nat.{le_refl, zero-min, min-zero, suc-min-suc, pow-le-pow_right, lt_of_lt_of_le, zero-add, suc-add}
use native.Mathlib.Omega.{arith}
use native.Mathlib.Decide.{dec_lt}
use lib.ListN.{length, get_or, set, take, drop, length-drop}
use lib.Seq.{drop-cons, sets, take-length, take-nil, take-take, get_or-drop}
use Rattle.wire.proofs.Stores.{sets_out}
use Rattle.wire.specs.Number.{number, bytes, field}

-- a field is its first byte, and 256 times the field after it
pub field_step : (s : List ℕ) (at n : ℕ) → at < length s → field at (suc n) s ≡ get_or s at 0 + 256 * field (suc at) n s
field_step s at n h = rw (drop-cons s at 0 h)

-- a field in the front of a list
pub drop_front : (at m : ℕ) (l : List ℕ) → drop at (take (at + m) l) ≡ take m (drop at l)
drop_front zero m l = ap (λ (k : ℕ). take k l) (zero-add m)
drop_front (suc at) m [] = rw (suc-add at m) (sym (take-nil m))
drop_front (suc at) m (b ∷ l) = rw (suc-add at m) (drop_front at m l)

pub field_front : (at n m : ℕ) (l : List ℕ) → at + n ≤ m → field at n (take m l) ≡ field at n l
field_front at n m l inside =
    let all : m ≡ at + (m - at) = omega arith in
    ap number
    (ap (λ (k : ℕ). take n (drop at (take k l))) all
    ∙ ap (take n) (drop_front at (m - at) l)
    ∙ take-take n (m - at) (drop at l) (omega arith))

-- no more is taken than there is
take_there : (n : ℕ) (l : List ℕ) → take (min n (length l)) l ≡ take n l
take_there zero l = rw (zero-min (length l))
take_there (suc n) [] = rw (min-zero (suc n))
take_there (suc n) (b ∷ l) = rw (suc-min-suc n (length l)) (ap (λ (r : List ℕ). b ∷ r) (take_there n l))

-- bytes past the end are not there
pub field_there : (s : List ℕ) (at n : ℕ) → field at (min n (length s - at)) s ≡ field at n s
field_there s at n = rw (← length-drop at s) (ap number (take_there n (drop at s)))

-- One turn of reading from the last byte down: v is the field from the i-th byte on, of `top` bytes in all.
pub field_down : (s : List ℕ) (at i top v : ℕ) → 0 < i → i ≤ top → at + (i - 1) < length s → v ≡ field (at + i) (top - i) s
    → v * 256 + get_or s (at + (i - 1)) 0 ≡ field (at + (i - 1)) (top - (i - 1)) s
field_down s at i top v some le inside is =
    let more : top - (i - 1) ≡ suc (top - i) = omega arith in
    let next : suc (at + (i - 1)) ≡ at + i = omega arith in
    let whole : field (at + (i - 1)) (suc (top - i)) s ≡ get_or s (at + (i - 1)) 0 + 256 * field (at + i) (top - i) s
    = rw (← next) (field_step s (at + (i - 1)) (top - i) inside) in
    rw (more, whole, ← is) (omega arith)

-- a byte more is a power more
pub power_down : (i top v b : ℕ) → 0 < i → i ≤ top → b < 256 → v < 256 ^ (top - i) → v * 256 + b < 256 ^ (top - (i - 1))
power_down i top v b some le byte small =
    let more : top - (i - 1) ≡ suc (top - i) = omega arith in
    rw more (omega arith)

-- seven bytes at most
pub power_seven : (n v : ℕ) → n ≤ 7 → v < 256 ^ n → v < 72057594037927936
power_seven n v le small = lt_of_lt_of_le small (pow-le-pow_right {n = 256} (omega arith) le)

-- all is read: of n bytes as many as there are
pub field_read : (s : List ℕ) (at n i top v : ℕ) → i ≤ 0 → top ≡ min n (length s - at) → v ≡ field (at + i) (top - i) s → v ≡ field at n s
field_read s at n i top v none is so =
    let here : at + i ≡ at = omega arith in
    let all : top - i ≡ min n (length s - at) = omega arith in
    so ∙ rw (here, all) (field_there s at n)

-- One turn of writing: the i-th byte is stored, and what is still to be stored gives the whole.
pub put_turn : (l w : List ℕ) (at n i v : ℕ) → i < n → sets l (at + i) (bytes (n - i) v) ≡ w
    → sets (set l (at + i) (v % 256)) (at + (i + 1)) (bytes (n - (i + 1)) (v / 256)) ≡ w
put_turn l w at n i v more is =
    let left : n - i ≡ suc (n - (i + 1)) = omega arith in
    let next : at + (i + 1) ≡ suc (at + i) = omega arith in
    rw next (rw left at is)

-- all is written, or the end of the slice is reached
pub put_end : (l w : List ℕ) (at n i v : ℕ) → min n (length l - at) ≤ i → sets l (at + i) (bytes (n - i) v) ≡ w → l ≡ w
put_end l w at n i v done is =
    elim (dec_lt i n) [
      | yes m ↦ sym (sets_out l (at + i) (bytes (n - i) v) (omega arith)) ∙ is
      | no m ↦ (let none : n - i ≡ 0 = omega arith in rw none at is)
    ]

-- ---- numbers and their bytes

pub length_bytes : (n v : ℕ) → length (bytes n v) ≡ n
length_bytes zero v = refl
length_bytes (suc n) v = ap suc (length_bytes n (v / 256))

pub bytes_below : (n v k : ℕ) → get_or (bytes n v) k 0 < 256
bytes_below zero v k = omega arith
bytes_below (suc n) v zero = omega arith
bytes_below (suc n) v (suc k) = bytes_below n (v / 256) k

-- what n bytes can hold comes back
pub number_bytes : (n v : ℕ) → v < 256 ^ n → number (bytes n v) ≡ v
number_bytes zero v h = omega arith
number_bytes (suc n) v h = rw (number_bytes n (v / 256) (omega arith)) (omega arith)

-- n bytes are below their power
taken_below : (n : ℕ) (bs : List ℕ) → ((k : ℕ) → get_or bs k 0 < 256) → number (take n bs) < 256 ^ n
taken_below zero bs h = omega arith
taken_below (suc n) [] h = omega (arith, taken_below n [] h)
taken_below (suc n) (b ∷ bs) h = omega (arith, h 0, taken_below n bs (λ k. h (suc k)))

pub number_below : (bs : List ℕ) → ((k : ℕ) → get_or bs k 0 < 256) → number bs < 256 ^ length bs
number_below bs h = rw (take-length bs) at (taken_below (length bs) bs h)

pub field_below : (at n : ℕ) (s : List ℕ) → ((k : ℕ) → get_or s k 0 < 256) → field at n s < 256 ^ n
field_below at n s h = taken_below n (drop at s) (λ k. rw (get_or-drop at s k 0) (h (at + k)))

-- bytes come back: the first ones of a list, all of them, and those of a field
take_back : (n : ℕ) (bs : List ℕ) → ((k : ℕ) → get_or bs k 0 < 256) → n ≤ length bs → bytes n (number (take n bs)) ≡ take n bs
take_back zero bs h room = refl
take_back (suc n) [] h room = absurd (omega arith)
take_back (suc n) (b ∷ bs) h room =
    let low : (b + 256 * number (take n bs)) % 256 ≡ b = omega (arith, h 0) in
    let high : (b + 256 * number (take n bs)) / 256 ≡ number (take n bs) = omega (arith, h 0) in
    rw (low, high) (ap (λ (r : List ℕ). b ∷ r) (take_back n bs (λ k. h (suc k)) (omega arith)))

pub bytes_number : (bs : List ℕ) → ((k : ℕ) → get_or bs k 0 < 256) → bytes (length bs) (number bs) ≡ bs
bytes_number bs h = rw (take-length bs) at (take_back (length bs) bs h (le_refl (length bs)))

pub field_bytes_lem : (at n : ℕ) (s : List ℕ) → ((k : ℕ) → get_or s k 0 < 256) → at + n ≤ length s → bytes n (field at n s) ≡ take n (drop at s)
field_bytes_lem at n s h room = take_back n (drop at s) (λ k. rw (get_or-drop at s k 0) (h (at + k))) (simp length-drop (omega arith))
