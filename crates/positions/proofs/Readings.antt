-- One reading of a packet that the box cut: it is taken, at its position, and what was lost before it is missed.
use Prim.Native.Nat.{ℕ, ◌+◌, ◌≤◌, ◌<◌}
use mathlib.Core.Path.{◌≡◌, refl, sym, ap, ◌∙◌}
use mathlib.Core.Bool.{true}
use mathlib.Core.List.{List}
use native.Mathlib.Omega.{arith}
use Rattle.packets.specs.declared.Form.{Form}
use Rattle.packets.specs.Forms.{listed_form, whole_of, is_packet, same_form}
use Rattle.packets.proofs.Forms.{same_self}
use Rattle.packets.specs.Numbers.{number_at, number_in, step_of, most, last}
use Rattle.packets.proofs.Numbers.{number_zero}
use Rattle.reader.specs.declared.Reader.{Reader}
use Rattle.reader.specs.Reading.{sound, reading_of, heard_at}
use Rattle.reader.proofs.Reading.{first, next}
use Rattle.positions.proofs.Steps.{position_is_exact, repeated_is_a_turn}

-- the packet at position n of a capture of form f
pub record At (f : Form) (n : ℕ) (packet : List ℕ) : Type 0 where
  pub fine : listed_form f ≡ true
  pub form : whole_of packet ≡ f
  pub number : number_in packet ≡ number_at n
  pub below : n < most

-- its form is listed, so it is a packet
a_packet : {f : Form} {n : ℕ} {packet : List ℕ} → At f n packet → is_packet packet ≡ true
a_packet a = ap listed_form a.form ∙ a.fine

-- a reader of c channels that has heard position n of a capture of form f, and before it missed total
abbrev pub has_heard : ℕ → Form → ℕ → ℕ → Reader
has_heard c f n total = record { heard = true; channels = c; position = n; total = total; form = f }

-- "Number 0 begins a new capture, at any moment."
pub reads_first : (f : Form) (packet : List ℕ) (r : Reader) → At f 0 packet → sound r ≡ true
    → reading_of r packet ≡ heard_at r.channels 0 0 0 f
reads_first f packet r a fine = sym (first r packet fine (a_packet a) a.number) ∙ ap (heard_at r.channels 0 0 0) a.form

-- A later packet of the same form is taken where its step leads, if that is not past the last position, and the positions that
-- the step passes over are missed.
reads_at : (c : ℕ) (f : Form) (packet : List ℕ) (m t p k n : ℕ) → At f p packet → 0 < p → sound (has_heard c f m t) ≡ true → n ≤ last
    → m + step_of (number_at m) (number_at p) ≡ n → n ≡ m + k + 1 → reading_of (has_heard c f m t) packet ≡ heard_at c n k (t + k) f
reads_at c f packet m t p k n a above fine within there over =
    let later : number_in packet ≡ 0 → ⊥ = λ z. omega (arith, number_zero p (sym a.number ∙ z)) in
    let same : same_form (whole_of packet) f ≡ true = rw a.form (same_self f) in
    let leads : n ≡ m + step_of (number_at m) (number_in packet) = rw a.number (sym there) in
    sym (next (has_heard c f m t) packet fine (a_packet a) later refl same n leads within k (omega arith))
    ∙ ap (heard_at c n k (t + k)) a.form

-- k lost since position m
pub reads_next : (c : ℕ) (f : Form) (packet : List ℕ) (m t k n : ℕ) → At f n packet → sound (has_heard c f m t) ≡ true
    → n ≡ m + k + 1 → k < 65_535 → reading_of (has_heard c f m t) packet ≡ heard_at c n k (t + k) f
reads_next c f packet m t k n a fine e few =
    let below = a.below in
    reads_at c f packet m t n k n a (omega arith) fine (omega arith) (position_is_exact m n (omega arith) (omega arith)) e

-- "A repeated number reads as a full turn; hence the premise "once each"." So it reads as 65,534 missed.
pub reads_twice : (c : ℕ) (f : Form) (packet : List ℕ) (n t : ℕ) → At f n packet → sound (has_heard c f n t) ≡ true → 0 < n
    → n + 65_535 ≤ last → reading_of (has_heard c f n t) packet ≡ heard_at c (n + 65_535) 65_534 (t + 65_534) f
reads_twice c f packet n t a fine h l =
    reads_at c f packet n t n 65_534 (n + 65_535) a h fine l (ap (λ k. n + k) (repeated_is_a_turn (number_at n))) (omega arith)
