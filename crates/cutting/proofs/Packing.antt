-- What packing and the four leading bytes leave in the lent packet.
-- Assumes nothing.
use Prim.Native.Nat.{ℕ, ◌*◌}
use mathlib.Core.Path.{◌≡◌, refl, ap, ◌∙◌}
use mathlib.Core.Bool.{true, false, ◌&&◌}
use mathlib.Core.List.{List, [], ◌++◌}
use borrow.Author.Tests.{eq-eqb}
use lib.Dec.{leb}
use lib.IntN.{ℤ}
use lib.ListN.{length}
use lib.Seq.{sets}
use Rattle.wire.specs.Number.{bytes}
use Rattle.wire.specs.Header.{header_of, type_data}
use Rattle.packets.specs.declared.Form.{Form}
use Rattle.packets.specs.Forms.{listed_form, total_of}
use Rattle.packets.specs.Numbers.{number_at}
use Rattle.packets.specs.Samples.{all_samples, samples_bytes}
use Rattle.samples.specs.Packing.{may_pack, packed_of}
use Rattle.cutting.specs.Cutting.{packet_of}
use Rattle.cutting.proofs.Parts.{laid}

module _ (f : Form) (samples : List ℤ) (room : ℕ) (l : listed_form f ≡ true) (n : length samples ≡ 2 * f.pairs) where
  -- with a listed form and its samples, packing looks for the room and for a sample outside 24 bits
  pub may_pack_lem : may_pack f samples room ≡ leb (total_of f) room && all_samples samples
  may_pack_lem = rw (l, eq-eqb (length samples) (2 * f.pairs) n)

module _ (f : Form) (samples : List ℤ) (room : ℕ) where
  pub packed_none : may_pack f samples room ≡ false → packed_of f samples room ≡ []
  packed_none a = rw a

  packed_all : may_pack f samples room ≡ true → packed_of f samples room ≡ samples_bytes f.bits samples
  packed_all a = rw a

  pub packet_stored : (lent l₁ l₂ : List ℕ) (position total : ℕ) → may_pack f samples room ≡ true → total ≡ total_of f
      → l₁ ≡ sets lent 4 (packed_of f samples room) → l₂ ≡ sets l₁ 0 (bytes 2 (header_of type_data total) ++ bytes 2 (number_at position))
      → l₂ ≡ sets lent 0 (packet_of f position samples)
  packet_stored lent l₁ l₂ position total a t e₁ e₂ =
      let leading = bytes 2 (header_of type_data total) ++ bytes 2 (number_at position) in
      e₂
      ∙ ap (λ (m : List ℕ). sets m 0 leading) (e₁ ∙ ap (sets lent 4) (packed_all a))
      ∙ laid lent leading (samples_bytes f.bits samples) refl
      ∙ ap (λ (m : ℕ). sets lent 0 (bytes 2 (header_of type_data m) ++ bytes 2 (number_at position) ++ samples_bytes f.bits samples)) t
