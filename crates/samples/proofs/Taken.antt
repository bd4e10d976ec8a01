-- Taking samples one after the other out of a packet, at any width. Assumes nothing.
use Prim.Native.Nat.{ℕ, zero, suc, ◌+◌, ◌*◌, ◌-◌, ◌/◌, ◌%◌, ◌≤◌, ◌<◌}
use mathlib.Core.Path.{◌≡◌, sym, ap, ◌∙◌}
use mathlib.Core.List.{List}
use native.Mathlib.Nat.{add-zero, zero-add}
use native.Mathlib.Numerals.{add-one}
use native.Mathlib.Omega.{arith}
use lib.IntN.{ℤ}
use lib.ListN.{length, get_or, set, drop, length-set}
use lib.Seq.{sets}
use Rattle.wire.specs.Number.{field}
use Rattle.wire.specs.Signed.{signed}
use Rattle.packets.specs.Samples.{sample_at, samples_from}
use Rattle.wire.proofs.Held.{Held, hold_turn}
use Rattle.samples.proofs.Fields.{field_drop, field_high, field_halves}

-- the i-th sample of a packet stands after its four leading bytes
pub sample_field : (bits : ℕ) (p : List ℕ) (i : ℕ) → sample_at bits (drop 4 p) i ≡ signed bits (field (4 + bits / 8 * i) (bits / 8) p)
sample_field bits p i = ap (signed bits) (field_drop 4 (bits / 8 * i) (bits / 8) p)

-- at 24 bits: the word that ends with the sample, without its lowest byte
pub sample_24 : (p : List ℕ) (i w : ℕ) → ((k : ℕ) → get_or p k 0 < 256) → 4 + 3 * i ≤ length p → w ≡ field (3 + 3 * i) 4 p
    → signed 24 (w / 256) ≡ sample_at 24 (drop 4 p) i
sample_24 p i w small h is =
    let here : 3 + 3 * i + 1 ≡ 4 + 3 * i = omega arith in
    rw (is, field_high p (3 + 3 * i) small (omega arith), here) (sym (sample_field 24 p i))

-- at 16 bits: the halves of the word that holds a pair
pub pair_16 : (p : List ℕ) (i w : ℕ) → ((k : ℕ) → get_or p k 0 < 256) → 4 + 4 * (i + 1) ≤ length p → w ≡ field (4 + 4 * i) 4 p
    → (signed 16 (w % 65_536) ≡ sample_at 16 (drop 4 p) (2 * i)) × (signed 16 (w / 65_536) ≡ sample_at 16 (drop 4 p) (2 * i + 1))
pair_16 p i w small h is =
    let halves = field_halves p (4 + 4 * i) small (omega arith) in
    let first : 4 + 4 * i ≡ 4 + 2 * (2 * i) = omega arith in
    let second : 4 + 4 * i + 2 ≡ 4 + 2 * (2 * i + 1) = omega arith in (
      rw (is, halves.0, first) (sym (sample_field 16 p (2 * i))),
      rw (is, halves.1, second) (sym (sample_field 16 p (2 * i + 1))),
    )

-- One turn: the i-th sample is stored, and what is still to be stored gives the whole.
pub unpack_turn : (bits : ℕ) (s : List ℕ) (out whole : List ℤ) (i n : ℕ) (z : ℤ) → i < n → z ≡ sample_at bits s i
    → sets out i (samples_from bits s i (n - i)) ≡ whole → sets (set out i z) (i + 1) (samples_from bits s (i + 1) (n - (i + 1))) ≡ whole
unpack_turn bits s out whole i n z h is done =
    let left : n - i ≡ suc (n - (i + 1)) = omega arith in
    rw (is, add-one i) (rw (left, add-one i) at done)

-- Many turns at once: the samples from the i-th to the e-th are stored, and what is still to be stored gives the whole.
two_runs : (bits : ℕ) (s : List ℕ) (out : List ℤ) (i a n : ℕ)
    → sets (sets out i (samples_from bits s i a)) (i + a) (samples_from bits s (i + a) n) ≡ sets out i (samples_from bits s i (a + n))
two_runs bits s out i zero n = rw (add-zero i, zero-add n)
two_runs bits s out i (suc a) n =
    let next : i + suc a ≡ i + 1 + a = omega arith in
    let count : suc a + n ≡ suc (a + n) = omega arith in
    rw (next, count, add-one i) (rw (add-one i) at (two_runs bits s (set out i (sample_at bits s i)) (i + 1) a n))

pub unpack_block : (bits : ℕ) (s : List ℕ) (out whole : List ℤ) (i e n : ℕ) → i ≤ e → e ≤ n
    → sets out i (samples_from bits s i (n - i)) ≡ whole
    → sets (sets out i (samples_from bits s i (e - i))) e (samples_from bits s e (n - e)) ≡ whole
unpack_block bits s out whole i e n from to done =
    let end : i + (e - i) ≡ e = omega arith in
    let all : e - i + (n - e) ≡ n - i = omega arith in
    rw (end, all) at (two_runs bits s out i (e - i) (n - e)) ∙ done

-- all is stored
pub unpack_end : (bits : ℕ) (s : List ℕ) (out whole : List ℤ) (i n : ℕ) → n ≤ i
    → sets out i (samples_from bits s i (n - i)) ≡ whole → out ≡ whole
unpack_end bits s out whole i n h done =
    let none : n - i ≡ 0 = omega arith in
    rw none at done

-- ---- 16-bit numbers held for a while

-- the number held at place j stands for the sample at `from + j`
abbrev pub StandFor : List ℕ → ℕ → ℕ → ℕ → Type 0
StandFor s from j v = signed 16 v ≡ sample_at 16 s (from + j)

-- the halves of the word that holds a pair are held
pub hold_pair : (p held : List ℕ) (first i w : ℕ) → ((k : ℕ) → get_or p k 0 < 256)
    → 4 + 4 * (first + i + 1) ≤ length p → 2 * i + 1 < length held → w ≡ field (4 + 4 * (first + i)) 4 p
    → Held (StandFor (drop 4 p) (2 * first)) held (2 * i)
    → Held (StandFor (drop 4 p) (2 * first)) (set (set held (2 * i) (w % 65_536)) (2 * i + 1) (w / 65_536)) (2 * (i + 1))
hold_pair p held first i w small long room is so =
    let known = StandFor (drop 4 p) (2 * first) in
    let pair = pair_16 p (first + i) w small long is in
    let one : 2 * (first + i) ≡ 2 * first + 2 * i = omega arith in
    let two : 2 * first + 2 * i + 1 ≡ 2 * first + (2 * i + 1) = omega arith in
    let next : 2 * (i + 1) ≡ 2 * i + 1 + 1 = omega arith in
    rw next
    (hold_turn known (set held (2 * i) (w % 65_536)) (2 * i + 1) (w / 65_536) (simp length-set room) (rw (one, two) at pair.1)
    (hold_turn known held (2 * i) (w % 65_536) (omega arith) (rw one at pair.0) so))

-- the samples of the block from the k-th on, stored
abbrev pub stored : List ℕ → ℕ → List ℤ → ℕ → List ℤ
stored packet first out k = sets out (2 * first + k) (samples_from 16 (drop 4 packet) (2 * first + k) (2 * (first + 32) - (2 * first + k)))
