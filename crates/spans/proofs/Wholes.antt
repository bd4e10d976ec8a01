-- The next packet of the input: when its bytes are a whole packet, and of which form.
use Prim.Native.Nat.{ℕ, ◌≤◌}
use mathlib.Core.Path.{◌≡◌, refl, sym, ap, ◌∙◌}
use mathlib.Core.Bool.{Bool, true, false}
use mathlib.Core.List.{List}
use native.Mathlib.Omega.{arith}
use lib.Dec.{eqb}
use lib.ListN.{length, length-take}
use lib.Seq.{take-take, length-take-le}
use borrow.Author.Tests.{eqb-true, eq-eqb}
use Rattle.wire.specs.Number.{number, field}
use Rattle.wire.specs.Header.{length_in}
use Rattle.wire.proofs.Laws.{true_not_false}
use Rattle.packets.specs.declared.Form.{Form}
use Rattle.packets.specs.Forms.{total_of, listed_form, form_with_header, whole_of, is_packet}
use Rattle.packets.proofs.Forms.{packet_is, whole_split}
use Rattle.spans.specs.Report.{packet_in}
use Rattle.hearing.proofs.Reaches.{form_with_own}

-- a listed header holds the total of its form
pub header_length : (h : ℕ) → listed_form (form_with_header h) ≡ true → length_in h ≡ total_of (form_with_header h)
header_length h l = first (eqb h 0x85A4) refl
  where
    fourth : (b : Bool) → eqb h 0x85A4 ≡ false → eqb h 0x8184 ≡ false → eqb h 0x8404 ≡ false → eqb h 0x8204 ≡ b
        → length_in h ≡ total_of (form_with_header h)
    fourth true p q r e = rw (eqb-true h 0x8204 e)
    fourth false p q r e = absurd (true_not_false (sym (rw (p, q, r, e) at l)))

    third : (b : Bool) → eqb h 0x85A4 ≡ false → eqb h 0x8184 ≡ false → eqb h 0x8404 ≡ b → length_in h ≡ total_of (form_with_header h)
    third true p q e = rw (eqb-true h 0x8404 e)
    third false p q e = fourth (eqb h 0x8204) p q e refl

    second : (b : Bool) → eqb h 0x85A4 ≡ false → eqb h 0x8184 ≡ b → length_in h ≡ total_of (form_with_header h)
    second true p e = rw (eqb-true h 0x8184 e)
    second false p e = third (eqb h 0x8404) p e refl

    first : (b : Bool) → eqb h 0x85A4 ≡ b → length_in h ≡ total_of (form_with_header h)
    first true e = rw (eqb-true h 0x85A4 e)
    first false e = second (eqb h 0x8184) e refl

-- the form with the header of what is left of the input
abbrev pub form_at : List ℕ → Form
form_at rest = form_with_header (field 0 2 rest)

-- the next packet has the header of what is left
same_header_lem : (rest : List ℕ) → field 0 2 (packet_in rest) ≡ field 0 2 rest
same_header_lem rest = ap number (take-take 2 (total_of (form_at rest)) rest (omega arith))

-- a whole packet has the form of its header, and all its bytes are there
pub is_whole : (rest : List ℕ) → is_packet (packet_in rest) ≡ true → (listed_form (form_at rest) ≡ true) × (total_of (form_at rest) ≤ length rest)
is_whole rest e =
    let w = packet_is (packet_in rest) e in
    let form : form_at rest ≡ whole_of (packet_in rest)
    = ap form_with_header (sym (same_header_lem rest) ∙ w.header) ∙ form_with_own (whole_of (packet_in rest)) w.form in
    let long : length (packet_in rest) ≡ total_of (form_at rest) = w.long ∙ ap total_of (sym form) in
    (ap listed_form form ∙ w.form, omega (arith, long, length-take (total_of (form_at rest)) rest))

-- and where they are there, it is one
module _ (rest : List ℕ) (ok : listed_form (form_at rest) ≡ true) (room : total_of (form_at rest) ≤ length rest) where
  pub packet_length : length (packet_in rest) ≡ total_of (form_at rest)
  packet_length = length-take-le (total_of (form_at rest)) rest room

  pub whole_form : whole_of (packet_in rest) ≡ form_at rest
  whole_form =
      let says : length_in (field 0 2 (packet_in rest)) ≡ total_of (form_at rest)
      = ap length_in (same_header_lem rest) ∙ header_length (field 0 2 rest) ok in
      let fits : eqb (length (packet_in rest)) (length_in (field 0 2 (packet_in rest))) ≡ true = eq-eqb _ _ (packet_length ∙ sym says) in
      whole_split (packet_in rest) ∙ rw fits (ap form_with_header (same_header_lem rest))

  pub whole_packet : is_packet (packet_in rest) ≡ true
  whole_packet = ap listed_form whole_form ∙ ok

-- else it is none
pub not_whole : (rest : List ℕ) → (listed_form (form_at rest) ≡ true → total_of (form_at rest) ≤ length rest → ⊥) → is_packet (packet_in rest) ≡ false
not_whole rest no_packet = by (is_packet (packet_in rest)) refl
  where
    by : (b : Bool) → is_packet (packet_in rest) ≡ b → is_packet (packet_in rest) ≡ false
    by true e = absurd (no_packet (is_whole rest e).0 (is_whole rest e).1)
    by false e = e
