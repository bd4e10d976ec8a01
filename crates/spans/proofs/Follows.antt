-- A packet that the report accepts is accepted by the packet reader, which is then the report's reader again.
use Prim.Native.Nat.{ℕ, ◌+◌}
use mathlib.Core.Path.{◌≡◌, refl, sym, ap, ◌∙◌}
use mathlib.Core.Bool.{Bool, true, false, ◌&&◌, not}
use mathlib.Core.List.{List, [], ◌∷◌}
use native.Mathlib.Decide.{ℕ_discrete}
use native.Mathlib.Omega.{arith}
use borrow.Author.Tests.{eqb-true, not-false}
use lib.Dec.{eqb}
use Rattle.wire.specs.Choice.{pick, first_of}
use Rattle.wire.proofs.Laws.{true_not_false}
use Rattle.wire.proofs.Checks.{absent, not_given}
use Rattle.packets.specs.declared.Form.{Form}
use Rattle.packets.specs.Forms.{same_form, whole_of}
use Rattle.packets.specs.Numbers.{number_in}
use Rattle.packets.specs.Missed.{missed_in}
use Rattle.packets.proofs.Forms.{same_is}
use Rattle.reader.specs.declared.Reader.{Reader}
use Rattle.reader.specs.Reading.{step_to, reading_checks, reading_code, heard_with, reading_of}
use Rattle.heads.specs.declared.Head.{Head}
use Rattle.heads.specs.Head.{channels_in, form_in}
use Rattle.spans.specs.Report.{Known, missed_among, reader_after, form_checks, packet_code, accepts, known_after, FollowsTheReader}
use Rattle.spans.proofs.Stepped.{Stepped, stepped_after}

module _ (h : Head) (k : Known) (packet : List ℕ) (taken : accepts h k packet ≡ true) where
  abbrev r : Reader
  r = reader_after h k.accepted

  abbrev n : ℕ
  n = number_in packet

  one : packet_code h k packet ≡ 1
  one = eqb-true (packet_code h k packet) 1 taken

  -- the reader takes it too
  read_one : reading_code r packet ≡ 1
  unfolding packet_code
  read_one =
      let code = reading_code r packet in
      elim (ℕ_discrete code 1) [ yes e ↦ e | no e ↦ absurd (not_given (form_checks h packet) code 1 refl e one) ]

  -- it has the head's form
  form : whole_of packet ≡ form_in h
  unfolding packet_code
  form =
      let none = absent (form_checks h packet) 1 refl (ap (first_of (form_checks h packet)) (sym read_one) ∙ one) in
      same_is (whole_of packet) (form_in h) (not-false (same_form (whole_of packet) (form_in h)) none.1.0)

  -- and a capture is open, or begins with it
  begun : (not (eqb n 0) && not r.heard) ≡ false
  unfolding reading_code
  begun = (absent (reading_checks r packet) 1 refl read_one).1.1.0

  -- after it steps lead to the last position again
  pub accepted_stepped : Stepped k.accepted → Stepped (known_after h k packet).accepted
  accepted_stepped t = stepped_after h k.accepted n t (omega arith) begun

-- the head tells the reader its count, once and for all
told : (h : Head) (accepted : List ℕ) → (reader_after h accepted).channels ≡ channels_in h
told h [] = refl
told h (last ∷ before) = refl

-- the reader's record, by the positions accepted before
reader_by : (h : Head) (accepted : List ℕ) (n : ℕ) (f : Form) → f ≡ form_in h → (zeroth : Bool) → eqb n 0 ≡ zeroth
    → (not (eqb n 0) && not (reader_after h accepted).heard) ≡ false
    → reader_after h ((heard_with (reader_after h accepted) n f).position ∷ pick (eqb n 0) [] accepted)
    ≡ (heard_with (reader_after h accepted) n f).reader
reader_by h accepted n f is true e begun = rw (e, is, told h accepted)
reader_by h [] n f is false e begun = absurd (true_not_false (rw e at begun))
reader_by h (last ∷ before) n f is false e begun =
    let step : ℕ = step_to (reader_after h (last ∷ before)) n in
    let total : missed_among ((last + step) ∷ last ∷ before) ≡ missed_among (last ∷ before) + missed_in step = omega arith in
    rw (e, is, total)

pub follows_the_reader : FollowsTheReader
unfolding reading_of
follows_the_reader h k packet taken =
    let n = number_in packet in
    reader_by h k.accepted n (whole_of packet) (form h k packet taken) (eqb n 0) refl (begun h k packet taken)
    ∙ rw (read_one h k packet taken)
