-- A packet that the box cuts is whole, of the box's form, and carries the number of its position: over width and pair count.
-- Assumes nothing.
use Prim.Native.Nat.{ℕ, ◌*◌, ◌/◌}
use mathlib.Core.Path.{◌≡◌, ap, ◌∙◌}
use mathlib.Core.Bool.{true}
use mathlib.Core.List.{List}
use native.Mathlib.Nat.{mul_comm}
use native.Mathlib.Omega.{arith}
use lib.IntN.{ℤ}
use lib.ListN.{length}
use Rattle.wire.specs.Number.{field}
use Rattle.wire.specs.Header.{header_of, type_data}
use Rattle.wire.proofs.Numbers.{number_bytes}
use Rattle.wire.proofs.Headers.{header_below}
use Rattle.packets.specs.declared.Form.{Form}
use Rattle.packets.specs.Forms.{total_of, listed_form, whole_of}
use Rattle.packets.specs.Numbers.{number_at, number_in}
use Rattle.packets.specs.Samples.{samples_bytes}
use Rattle.packets.proofs.Forms.{whole_cut}
use Rattle.packets.proofs.Numbers.{number_le}
use Rattle.samples.proofs.Written.{length_samples}
use Rattle.cutting.specs.Cutting.{packet_of}

module _ (f : Form) (p : ℕ) (zs : List ℤ) where
  pub packet_length : length zs ≡ 2 * f.pairs → length (packet_of f p zs) ≡ total_of f
  packet_length e =
      let count : length zs ≡ f.pairs * 2 = omega arith in
      let all : length (samples_bytes f.bits zs) ≡ f.pairs * 2 * (f.bits / 8) =
      length_samples f.bits zs ∙ mul_comm (f.bits / 8) (length zs) ∙ ap (λ (n : ℕ). n * (f.bits / 8)) count in
      omega arith

  packet_header : field 0 2 (packet_of f p zs) ≡ header_of type_data (total_of f)
  packet_header = number_bytes 2 (header_of type_data (total_of f)) (header_below type_data (total_of f))

  pub packet_number : number_in (packet_of f p zs) ≡ number_at p
  packet_number = omega (arith, number_bytes 2 (number_at p) (omega (arith, number_le p)), number_le p)

  pub packet_whole : listed_form f ≡ true → length zs ≡ 2 * f.pairs → whole_of (packet_of f p zs) ≡ f
  packet_whole l e = whole_cut f l (packet_of f p zs) packet_header (packet_length e)
