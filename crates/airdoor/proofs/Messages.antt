-- How long messages are that begin with some bytes.
use Prim.Native.Nat.{ℕ, ◌≤◌, ◌<◌}
use mathlib.Core.Path.{◌≡◌, refl, sym, ap, ◌∙◌}
use mathlib.Core.List.{List, [], ◌∷◌}
use native.Mathlib.Omega.{arith}
use borrow.Author.Tests.{le-ltb}
use lib.ListN.{length}
use Rattle.wire.specs.Header.{header_of, length_in, type_in, type_data}
use Rattle.wire.proofs.Headers.{length_header, type_header}
use Rattle.framing.specs.Framing.{header_in, announced, announced_by}
use Rattle.framing.proofs.Totals.{total_length, total_least}
use Rattle.packets.specs.Forms.{total_of, whole_of}
use Rattle.packets.proofs.Forms.{packet_is, is_listed_form}
use Rattle.airdoor.specs.Measures.{message_over, MessagesAsPrinted, PacketsAreMessages}

-- two bytes are a header
header_there : (a b : ℕ) (rest : List ℕ) → message_over (a ∷ b ∷ rest) ≡ announced (a ∷ b ∷ [])
header_there a b rest =
    let two : 2 ≤ length (a ∷ b ∷ rest) = omega arith in
    rw (le-ltb (length (a ∷ b ∷ rest)) 2 two) refl

pub messages_as_printed : MessagesAsPrinted
messages_as_printed =
    record {
      rows = (refl, (refl, (refl, (refl, (refl, (refl, (refl, (refl, (refl, (refl, (refl, (refl, (refl, tt)))))))))))));
      header_says = header_there;
      header_belongs = λ a b rest.
          let header : ℕ = header_in (a ∷ b ∷ []) in
          rw (header_there a b rest) (total_least (type_in header) (length_in header));
    }

-- the header of a data item announces its length
data_announced : (t : ℕ) → 4 ≤ t → t < 8_192 → announced_by (header_of type_data t) ≡ t
data_announced t some short =
    rw (length_header type_data t short, type_header type_data t (omega arith)) (total_length type_data t (omega arith) ∙ omega arith)

pub packets_are_messages : PacketsAreMessages
packets_are_messages packet is =
    let whole = packet_is packet is in
    let t = total_of (whole_of packet) in
    let short = (is_listed_form (whole_of packet) whole.form).short in
    let room : 2 ≤ length packet = omega (arith, whole.long) in
    rw (le-ltb (length packet) 2 room) (ap announced_by whole.header ∙ data_announced t (omega arith) short ∙ sym whole.long)
