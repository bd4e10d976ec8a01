-- A call consumes no more than the piece has, writes no more than the slice has room for, and says how many bytes it wrote.
use Prim.Native.Nat.{ℕ, ◌+◌, ◌≤◌}
use mathlib.Core.Path.{◌≡◌, refl}
use mathlib.Core.Bool.{not}
use mathlib.Core.List.{List, [], ◌∷◌}
use native.Mathlib.Omega.{arith}
use lib.Dec.{eqb, ltb}
use lib.ListN.{length}
use borrow.Author.Tests.{ltb-false}
use Rattle.wire.proofs.Laws.{pick_keeps}
use Rattle.packets.specs.declared.Form.{Form}
use Rattle.heads.specs.Head.{form_in}
use Rattle.heads.specs.Head.{head_read_code}
use Rattle.hearing.specs.declared.Tally.{Tally}
use Rattle.hearing.specs.Hearing.{Reach}
use Rattle.spans.specs.declared.Span.{Span}
use Rattle.lines.specs.Lines.{Line, text_of}
use Rattle.lines.specs.Due.{Telling, silent_with, telling}
use Rattle.hearing.specs.Hearing.{taking_byte, settled, reaching}
use Rattle.spans.specs.Eating.{valid_span, head_of, head_lacks, lacking, head_wants_by, head_taken}
use Rattle.spans.specs.Eating.{head_lines, head_read, heard_lines, heard_span}
use Rattle.spans.specs.Eating.{Eating, refused, silently, saying, opening, listening, eating_of, last_lines, finishing_of}
use Rattle.hearing.proofs.Reaches.{settled_at}

-- what was reached lies within the bytes
pub reach_within : (bs : List ℕ) (n : ℕ) (f : Form) (t : Tally) → (reaching n f t bs).at ≤ n + length bs
unfolding reaching
reach_within [] n f t = omega arith
reach_within (b ∷ bs) n f t =
    let r : Reach = settled (n + 1) f (taking_byte t b) in
    let next = reach_within bs (n + 1) f r.tally in
    pick_keeps (λ (x : Reach). x.at ≤ n + length (b ∷ bs)) (eqb r.code 0) _ _ (λ e. omega (arith, next))
    (λ e. omega (arith, settled_at (n + 1) f (taking_byte t b)))

pub record Within (piece : List ℕ) (room : ℕ) (e : Eating) : Type 0 where
  pub consumed : e.eaten.consumed ≤ length piece
  pub wrote : e.eaten.wrote ≤ room
  pub counts : e.eaten.wrote ≡ length e.bytes

module _ (s : Span) (piece : List ℕ) (room : ℕ) where
  refused_within : (code : ℕ) → Within piece room (refused code s)
  refused_within code = record { consumed = omega arith; wrote = omega arith; counts = refl }

  silently_within : (code n : ℕ) (after : Span) → n ≤ length piece → Within piece room (silently code n after)
  silently_within code n after h = record { consumed = h; wrote = omega arith; counts = refl }

  saying_within : (n : ℕ) (lines : List Line) (after : Span) → n ≤ length piece → Within piece room (saying s room n lines after)
  saying_within n lines after h =
      pick_keeps (Within piece room) (ltb room (length (text_of lines))) _ _ (λ e. refused_within 20)
      (λ e. record { consumed = h; wrote = ltb-false _ _ e; counts = refl })

  opening_within : Within piece room (opening s piece room)
  unfolding opening
  opening_within =
      let after : Span = head_taken s piece in
      let code : ℕ = head_read_code after.head in
      let n : ℕ = lacking (head_wants_by s piece) s piece in
      pick_keeps (Within piece room) (head_lacks after) _ _ (λ e. silently_within 0 n after (omega arith))
      (λ e. saying_within n (head_lines code) (head_read code after) (omega arith))

  listening_within : Within piece room (listening s piece room)
  unfolding listening
  listening_within =
      let r : Reach = reaching 0 (form_in (head_of s)) s.tally piece in
      let inside = reach_within piece 0 (form_in (head_of s)) s.tally in
      pick_keeps (Within piece room) (eqb r.code 0) _ _ (λ e. silently_within 0 r.at _ (omega (arith, inside)))
      (λ e. saying_within r.at (heard_lines (head_of s) r) (heard_span s r) (omega (arith, inside)))

  pub eating_within : Within piece room (eating_of s piece room)
  unfolding eating_of
  eating_within =
      pick_keeps (Within piece room) (not (valid_span s)) _ _ (λ e. refused_within 21)
      (λ e.
      pick_keeps (Within piece room) s.stopped _ _ (λ q. silently_within 2 (length piece) s (omega arith))
      (λ q. pick_keeps (Within piece room) (head_lacks s) _ _ (λ h. opening_within) (λ h. listening_within)))

pub record TellsWithin (room : ℕ) (t : Telling) : Type 0 where
  pub wrote : t.answer.wrote ≤ room
  pub counts : t.answer.wrote ≡ length t.bytes

silent_within : (code room : ℕ) → TellsWithin room (silent_with code)
silent_within code room = record { wrote = omega arith; counts = refl }

telling_within : (text : List ℕ) (room : ℕ) → TellsWithin room (telling text room)
telling_within text room =
    pick_keeps (TellsWithin room) (ltb room (length text)) _ _ (λ e. silent_within 20 room)
    (λ e. record { wrote = ltb-false _ _ e; counts = refl })

pub finishing_within : (s : Span) (room : ℕ) → TellsWithin room (finishing_of s room)
unfolding finishing_of
finishing_within s room =
    pick_keeps (TellsWithin room) (not (valid_span s)) _ _ (λ e. silent_within 21 room)
    (λ e. pick_keeps (TellsWithin room) s.stopped _ _ (λ q. silent_within 2 room) (λ q. telling_within (text_of (last_lines s)) room))
