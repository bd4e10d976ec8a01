-- When packing and unpacking refuse, and that a listed form leaves room for what its loop writes. Assumes nothing.
use Prim.Native.Nat.{ℕ, ◌+◌, ◌*◌, ◌/◌, ◌%◌, ◌≤◌, ◌<◌}
use mathlib.Core.Path.{◌≡◌, refl, sym, ◌∙◌}
use mathlib.Core.Logic.{⊎_elim}
use mathlib.Core.Bool.{true, false, ◌||◌}
use mathlib.Core.List.{List}
use native.Mathlib.Nat.{mul_comm}
use native.Mathlib.Omega.{arith}
use lib.Dec.{eqb}
use lib.IntN.{ℤ}
use lib.ListN.{length, drop}
use lib.Seq.{sets}
use borrow.Author.Tests.{eqb-true, eq-eqb, ne_eqb, le-leb, lt-leb}
use Rattle.packets.specs.declared.Form.{Form}
use Rattle.packets.specs.Forms.{listed_form, total_of}
use Rattle.packets.specs.Samples.{all_samples, samples_bytes, samples_from}
use Rattle.packets.proofs.Forms.{is_listed_form, of_listed}
use Rattle.samples.specs.Packing.{may_pack, packed_of, may_unpack, unpacked_of}

-- a listed form that is not of 24 bits is of 16
pub other_width : (f : Form) → listed_form f ≡ true → (f.bits ≡ 24 → ⊥) → f.bits ≡ 16
other_width f l h = ⊎_elim (λ w. absurd (h w)) (λ w. w) (is_listed_form f l).width

-- all I and Q of a form lie within its total
pub room_for : (f : Form) (w n size : ℕ) → f.bits / 8 ≡ w → n ≡ 2 * f.pairs → total_of f ≤ size → 4 + w * n ≤ size
room_for f w n size is count room =
    rw (← is, count, mul_comm (f.bits / 8) (2 * f.pairs), mul_comm 2 f.pairs) room

-- at 16 bits the pairs are blocks of 32
pub whole_blocks : (f : Form) → listed_form f ≡ true → f.bits ≡ 16 → 64 * (f.pairs / 32) ≡ 2 * f.pairs
whole_blocks f l w =
    let none_left : eqb (f.pairs % 32) 0 ≡ true = rw w at (of_listed (λ g. eqb g.bits 24 || eqb (g.pairs % 32) 0) refl f l) in
    omega (arith, eqb-true (f.pairs % 32) 0 none_left)

-- in every form the pairs are even: its samples are whole fours
pub even_pairs : (f : Form) → listed_form f ≡ true → f.pairs % 2 ≡ 0
even_pairs f l = eqb-true (f.pairs % 2) 0 (of_listed (λ g. eqb (g.pairs % 2) 0) refl f l)

-- ---- packing

module _ (f : Form) (zs : List ℤ) (l : List ℕ) where
  -- what is promised where packing refuses: the packet stays as it was
  abbrev pub PackRefused : Type 0
  PackRefused = (false ≡ may_pack f zs (length l)) × (l ≡ sets l 4 (packed_of f zs (length l)))

  pack_refused : may_pack f zs (length l) ≡ false → PackRefused
  pack_refused e = (sym e, rw e)

  pub pack_unlisted : listed_form f ≡ false → PackRefused
  pack_unlisted e = pack_refused (rw e)

  pub pack_count : listed_form f ≡ true → (length zs ≡ 2 * f.pairs → ⊥) → PackRefused
  pack_count e h = pack_refused (rw (e, ne_eqb (length zs) (2 * f.pairs) h))

  pub pack_room : listed_form f ≡ true → length zs ≡ 2 * f.pairs → length l < total_of f → PackRefused
  pack_room e n h = pack_refused (rw (e, eq-eqb (length zs) (2 * f.pairs) n, lt-leb (total_of f) (length l) h))

  -- nothing but a sample outside 24 bits is left to refuse for
  module _ (e : listed_form f ≡ true) (n : length zs ≡ 2 * f.pairs) (room : total_of f ≤ length l) where
    left_over : may_pack f zs (length l) ≡ all_samples zs
    left_over = rw (e, eq-eqb (length zs) (2 * f.pairs) n, le-leb (total_of f) (length l) room)

    pub pack_outside : all_samples zs ≡ false → PackRefused
    pack_outside out = pack_refused (left_over ∙ out)

    pub pack_done : (bits : ℕ) (l' : List ℕ) → f.bits ≡ bits → all_samples zs ≡ true → l' ≡ sets l 4 (samples_bytes bits zs)
        → (true ≡ may_pack f zs (length l)) × (l' ≡ sets l 4 (packed_of f zs (length l)))
    pack_done bits l' w fit done =
        let may : may_pack f zs (length l) ≡ true = left_over ∙ fit in
        (sym may, done ∙ rw (may, w))

-- ---- unpacking

module _ (f : Form) (p : List ℕ) (out : List ℤ) where
  abbrev pub UnpackRefused : Type 0
  UnpackRefused = (false ≡ may_unpack f (length p) (length out)) × (out ≡ sets out 0 (unpacked_of f p (length out)))

  unpack_refused : may_unpack f (length p) (length out) ≡ false → UnpackRefused
  unpack_refused e = (sym e, rw e)

  pub unpack_unlisted : listed_form f ≡ false → UnpackRefused
  unpack_unlisted e = unpack_refused (rw e)

  pub unpack_short : listed_form f ≡ true → length p < total_of f → UnpackRefused
  unpack_short e h = unpack_refused (rw (e, lt-leb (total_of f) (length p) h))

  pub unpack_room : listed_form f ≡ true → total_of f ≤ length p → length out < 2 * f.pairs → UnpackRefused
  unpack_room e long h = unpack_refused (rw (e, le-leb (total_of f) (length p) long, lt-leb (2 * f.pairs) (length out) h))

  pub unpack_done : (bits : ℕ) (out' : List ℤ) → listed_form f ≡ true → total_of f ≤ length p → 2 * f.pairs ≤ length out → f.bits ≡ bits
      → out' ≡ sets out 0 (samples_from bits (drop 4 p) 0 (2 * f.pairs))
      → (true ≡ may_unpack f (length p) (length out)) × (out' ≡ sets out 0 (unpacked_of f p (length out)))
  unpack_done bits out' e long room w done =
      let may : may_unpack f (length p) (length out) ≡ true
      = rw (e, le-leb (total_of f) (length p) long) (le-leb (2 * f.pairs) (length out) room) in
      (sym may, done ∙ rw (may, w))
