-- Writing samples one after the other into a packet, at any width. Assumes nothing.
use Prim.Native.Nat.{ℕ, zero, suc, ◌+◌, ◌*◌, ◌/◌, ◌≤◌, ◌<◌}
use mathlib.Core.Path.{◌≡◌, refl, sym, ap, ◌∙◌}
use mathlib.Core.Bool.{true}
use mathlib.Core.List.{List, [], ◌∷◌, ◌++◌, append_assoc, append-nil}
use native.Mathlib.Nat.{mul-add, mul-suc, mul-zero}
use native.Mathlib.Numerals.{add-one}
use native.Mathlib.Omega.{arith}
use lib.IntN.{ℤ, pos}
use lib.ListN.{length, get_or, take, drop, length-append, length-take, length-drop, drop_of_length-le}
use lib.Seq.{sets, drop-cons, drop-drop}
use Rattle.wire.specs.Number.{bytes}
use Rattle.wire.specs.Signed.{coded}
use Rattle.wire.proofs.Laws.{and_left, and_right}
use Rattle.wire.proofs.Stores.{sets_append}
use Rattle.wire.proofs.Numbers.{length_bytes}
use Rattle.packets.specs.Samples.{is_sample, all_samples, narrowed, sample_bytes, samples_bytes}

-- each of them is a sample
pub sample_at_lem : (zs : List ℤ) (i : ℕ) → all_samples zs ≡ true → i < length zs → is_sample (get_or zs i (pos 0)) ≡ true
sample_at_lem [] i all h = absurd (omega arith)
sample_at_lem (z ∷ zs) zero all h = and_left (is_sample z) (all_samples zs) all
sample_at_lem (z ∷ zs) (suc i) all h = sample_at_lem zs i (and_right (is_sample z) (all_samples zs) all) (omega arith)

-- each sample takes as many bytes as its width has
pub length_samples : (bits : ℕ) (zs : List ℤ) → length (samples_bytes bits zs) ≡ bits / 8 * length zs
length_samples bits [] = sym (mul-zero (bits / 8))
length_samples bits (z ∷ zs) =
    let its : length (sample_bytes bits z) ≡ bits / 8 = length_bytes (bits / 8) (coded bits (narrowed bits z)) in
    rw (length-append (sample_bytes bits z) (samples_bytes bits zs), its, length_samples bits zs, mul-suc (bits / 8) (length zs))
    (omega arith)

-- ---- storing a part, after which what is still to be stored gives the whole

samples_split : (bits k : ℕ) (zs : List ℤ) → samples_bytes bits (take k zs) ++ samples_bytes bits (drop k zs) ≡ samples_bytes bits zs
samples_split bits zero zs = refl
samples_split bits (suc k) [] = refl
samples_split bits (suc k) (z ∷ zs) =
    append_assoc (sample_bytes bits z) (samples_bytes bits (take k zs)) (samples_bytes bits (drop k zs))
    ∙ ap (λ (l : List ℕ). sample_bytes bits z ++ l) (samples_split bits k zs)

-- k samples from the i-th on
pub pack_part : (bits at k i : ℕ) (zs : List ℤ) (l whole : List ℕ) → i + k ≤ length zs
    → sets l (at + bits / 8 * i) (samples_bytes bits (drop i zs)) ≡ whole
    → sets (sets l (at + bits / 8 * i) (samples_bytes bits (take k (drop i zs))))
    (at + bits / 8 * (i + k)) (samples_bytes bits (drop (i + k) zs))
    ≡ whole
pack_part bits at k i zs l whole h done =
    let part = samples_bytes bits (take k (drop i zs)) in
    let count : length (take k (drop i zs)) ≡ k = simp (length-take, length-drop) (omega arith) in
    let long : length part ≡ bits / 8 * k = length_samples bits (take k (drop i zs)) ∙ ap (λ (n : ℕ). bits / 8 * n) count in
    let next : at + bits / 8 * (i + k) ≡ at + bits / 8 * i + length part = rw (long, mul-add (bits / 8) i k) (omega arith) in
    let later = samples_bytes bits (drop k (drop i zs)) in
    rw (next, ← drop-drop k i zs, sets_append l (at + bits / 8 * i) part later, samples_split bits k (drop i zs)) done

-- all is stored
pub pack_end : (bits at : ℕ) (l whole : List ℕ) (zs : List ℤ) (i : ℕ) → length zs ≤ i
    → sets l (at + bits / 8 * i) (samples_bytes bits (drop i zs)) ≡ whole → l ≡ whole
pack_end bits at l whole zs i h done = rw (drop_of_length-le zs {i = i} h) at done

-- ---- a part, by the numbers that are sent of its samples

-- a number is what is sent of the sample at a place
abbrev pub Sent : ℕ → List ℤ → ℕ → ℕ → Type 0
Sent bits zs i v = v ≡ coded bits (narrowed bits (get_or zs i (pos 0)))

-- numbers are what is sent of the samples from a place on, and their bytes
abbrev AllSent : ℕ → List ℤ → ℕ → List ℕ → Type 0
AllSent bits zs i [] = Unit {0}
AllSent bits zs i (v ∷ vs) = Sent bits zs i v × AllSent bits zs (i + 1) vs

abbrev codes_bytes : ℕ → List ℕ → List ℕ
codes_bytes n [] = []
codes_bytes n (v ∷ vs) = bytes n v ++ codes_bytes n vs

pub from_here : (zs : List ℤ) (i : ℕ) → i < length zs → drop i zs ≡ get_or zs i (pos 0) ∷ drop (i + 1) zs
from_here zs i h = rw add-one (drop-cons zs i (pos 0) h)

part_sent : (bits : ℕ) (zs : List ℤ) (vs : List ℕ) (i : ℕ) → i + length vs ≤ length zs → AllSent bits zs i vs
    → samples_bytes bits (take (length vs) (drop i zs)) ≡ codes_bytes (bits / 8) vs
part_sent bits zs [] i h all = refl
part_sent bits zs (v ∷ vs) i h all =
    let later = part_sent bits zs vs (i + 1) (omega arith) all.1 in
    rw (from_here zs i (omega arith), all.0) (ap (λ (l : List ℕ). sample_bytes bits (get_or zs i (pos 0)) ++ l) later)

-- one is stored
pub pack_one : (bits at i v : ℕ) (zs : List ℤ) (l whole : List ℕ) → i < length zs → Sent bits zs i v
    → sets l (at + bits / 8 * i) (samples_bytes bits (drop i zs)) ≡ whole
    → sets (sets l (at + bits / 8 * i) (bytes (bits / 8) v)) (at + bits / 8 * (i + 1)) (samples_bytes bits (drop (i + 1) zs)) ≡ whole
pack_one bits at i v zs l whole h is done =
    let one = part_sent bits zs (v ∷ []) i (omega arith) (is, tt) ∙ append-nil (bytes (bits / 8) v) in
    ap (λ (bs : List ℕ). sets (sets l (at + bits / 8 * i) bs) (at + bits / 8 * (i + 1)) (samples_bytes bits (drop (i + 1) zs))) (sym one)
    ∙ pack_part bits at 1 i zs l whole (omega arith) done

-- four of 24 bits are stored
pub pack_four : (zs : List ℤ) (l whole : List ℕ) (i a b c d : ℕ) → 4 * (i + 1) ≤ length zs
    → Sent 24 zs (4 * i) a → Sent 24 zs (4 * i + 1) b → Sent 24 zs (4 * i + 2) c → Sent 24 zs (4 * i + 3) d
    → sets l (4 + 3 * (4 * i)) (samples_bytes 24 (drop (4 * i) zs)) ≡ whole
    → sets (sets l (4 + 12 * i) (bytes 3 a ++ (bytes 3 b ++ (bytes 3 c ++ bytes 3 d))))
    (4 + 3 * (4 * (i + 1))) (samples_bytes 24 (drop (4 * (i + 1)) zs))
    ≡ whole
pack_four zs l whole i a b c d h is_a is_b is_c is_d done =
    let here : 4 + 12 * i ≡ 4 + 3 * (4 * i) = omega arith in
    let next : 4 * (i + 1) ≡ 4 * i + 4 = omega arith in
    let third : 4 * i + 2 ≡ 4 * i + 1 + 1 = omega arith in
    let fourth : 4 * i + 3 ≡ 4 * i + 1 + 1 + 1 = omega arith in
    let four = part_sent 24 zs (a ∷ b ∷ c ∷ d ∷ []) (4 * i) (omega arith) (is_a, (is_b, (rw third at is_c, (rw fourth at is_d, tt)))) in
    ap (λ (bs : List ℕ). sets (sets l (4 + 12 * i) bs) (4 + 3 * (4 * (i + 1))) (samples_bytes 24 (drop (4 * (i + 1)) zs))) (sym four)
    ∙ rw (here, next) (pack_part 24 4 4 (4 * i) zs l whole (omega arith) done)
