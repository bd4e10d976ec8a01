-- What was packed is unpacked: at every width of whole bytes, what comes back is what was sent of the samples that went in
-- (`narrowed`). Assumes nothing.
use Prim.Native.Nat.{ℕ, ◌+◌, ◌*◌, ◌-◌, ◌/◌, ◌^◌, ◌≤◌, ◌<◌}
use mathlib.Core.Path.{◌≡◌, refl, sym, ap, ◌∙◌}
use mathlib.Core.Bool.{true}
use mathlib.Core.List.{List, [], ◌∷◌, ◌++◌, map, append_assoc}
use native.Mathlib.Nat.{mul-suc, mul-zero}
use native.Mathlib.Numerals.{add-one}
use native.Mathlib.Omega.{arith}
use lib.IntN.{ℤ}
use lib.ListN.{length, length-append}
use lib.Seq.{take_at, drop_at}
use lib.Signed.{mag}
use Rattle.wire.specs.Signed.{coded}
use Rattle.wire.proofs.Laws.{and_left, and_right}
use Rattle.wire.proofs.Numbers.{length_bytes, number_bytes}
use Rattle.wire.proofs.Signed.{coded_below, signed_coded}
use Rattle.packets.specs.declared.Form.{Form}
use Rattle.packets.specs.Forms.{listed_form}
use Rattle.packets.specs.Samples.{is_sample, all_samples, narrowed, sample_bytes, samples_bytes, sample_at, samples_from}
use Rattle.packets.proofs.Forms.{is_listed_form}
use Rattle.packets.proofs.Narrowed.{narrowed_small}

module _ (bits : ℕ) (some : 1 ≤ bits) (most : bits ≤ 24) (whole : 2 ^ bits ≡ 256 ^ (bits / 8)) where
  -- a sample's bytes are read as what was sent of it, whatever stands before and after them
  pub sample_back : (before after : List ℕ) (i : ℕ) (z : ℤ) → length before ≡ bits / 8 * i → is_sample z ≡ true
      → sample_at bits (before ++ (sample_bytes bits z ++ after)) i ≡ narrowed bits z
  sample_back before after i z long s =
      let n = bits / 8 in
      let code = coded bits (narrowed bits z) in
      let small : mag (narrowed bits z) < 2 ^ (bits - 1) = narrowed_small bits some most z s in
      let below : code < 256 ^ (bits / 8) = rw (← whole) (coded_below bits (narrowed bits z) some small) in
      let its = sample_bytes bits z in
      rw (drop_at before (its ++ after) (n * i) long, take_at its after n (length_bytes n code), number_bytes n code below)
      (signed_coded bits (narrowed bits z) some small)

  from : (before : List ℕ) (i : ℕ) (zs : List ℤ) → length before ≡ bits / 8 * i → all_samples zs ≡ true
      → samples_from bits (before ++ samples_bytes bits zs) i (length zs) ≡ map (narrowed bits) zs
  from before i [] long all = refl
  from before i (z ∷ zs) long all =
      let first = sample_back before (samples_bytes bits zs) i z long (and_left (is_sample z) (all_samples zs) all) in
      let its : length (sample_bytes bits z) ≡ bits / 8 = length_bytes (bits / 8) (coded bits (narrowed bits z)) in
      let next : length (before ++ sample_bytes bits z) ≡ bits / 8 * (i + 1)
      = rw (length-append before (sample_bytes bits z), its, add-one i, mul-suc (bits / 8) i, long) in
      let rest = from (before ++ sample_bytes bits z) (i + 1) zs next (and_right (is_sample z) (all_samples zs) all) in
      let joined : before ++ samples_bytes bits (z ∷ zs) ≡ before ++ sample_bytes bits z ++ samples_bytes bits zs
      = sym (append_assoc before (sample_bytes bits z) (samples_bytes bits zs)) in
      rw first
      (ap (λ (l : List ℕ). narrowed bits z ∷ samples_from bits l (i + 1) (length zs)) joined
      ∙ ap (λ (ns : List ℤ). narrowed bits z ∷ ns) rest)

  -- all samples come back, narrowed to the width
  pub round_trip : (zs : List ℤ) → all_samples zs ≡ true → samples_from bits (samples_bytes bits zs) 0 (length zs) ≡ map (narrowed bits) zs
  round_trip zs all = from [] 0 zs (sym (mul-zero (bits / 8))) all

-- so at each listed form
pub round_trip_form : (f : Form) → listed_form f ≡ true → (zs : List ℤ) → all_samples zs ≡ true
    → samples_from f.bits (samples_bytes f.bits zs) 0 (length zs) ≡ map (narrowed f.bits) zs
round_trip_form f l = let g = is_listed_form f l in round_trip f.bits (omega arith) g.narrow g.bytewise
