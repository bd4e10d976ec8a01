-- 256 bytes are room enough for the lines that are due at one moment.
use Prim.Native.Nat.{ℕ, ◌+◌, ◌^◌, ◌≤◌, ◌<◌}
use mathlib.Core.Path.{◌≡◌, ap, ◌∙◌}
use mathlib.Core.Bool.{Bool, true, false}
use mathlib.Core.List.{List, [], ◌∷◌, ◌++◌}
use native.Mathlib.Omega.{arith}
use lib.Dec.{eqb}
use lib.ListN.{length, length-append}
use Rattle.wire.specs.Choice.{pick}
use Rattle.wire.proofs.Laws.{pick_keeps}
use Rattle.packets.specs.Numbers.{last}
use Rattle.packets.specs.Missed.{missed_of}
use Rattle.packets.proofs.Forms.{is_listed_form}
use Rattle.heads.specs.declared.Head.{Head}
use Rattle.heads.specs.Head.{form_in, each_in, allowed_head}
use Rattle.heads.proofs.Values.{form_listed, few_each, divisor_small, clock_ok}
use Rattle.hearing.specs.declared.Tally.{Tally}
use Rattle.lines.specs.Lines.{Line, text_of, opening_line, samples_over, end_time, capture_line, refusal_line, end_line}
use Rattle.spans.specs.Eating.{head_lines, ended_now, heard_lines}
use Rattle.lines.proofs.Dues.{text_append, samples_fit}
use Rattle.lines.proofs.Times.{time_below}
use Rattle.lines.proofs.Lengths.{all_fit, line_length, text_length, refusal_length, end_length}
use Rattle.spans.proofs.Telling.{end_lines}

-- ---- the lines

lines_length : (ls ms : List Line) → length (text_of (ls ++ ms)) ≡ length (text_of ls) + length (text_of ms)
lines_length ls ms = ap length (text_append ls ms) ∙ length-append (text_of ls) (text_of ms)

-- nothing, or a refusal
refusal_room : (none : Bool) (code offset : ℕ) → code < 2 ^ 64 → offset < 2 ^ 64
    → length (text_of (pick none [] (refusal_line code offset ∷ []))) ≤ 44
refusal_room true code offset small near = omega arith
refusal_room false code offset small near = refusal_length code offset small near

-- "SPAN 1", and a refusal
pub head_room : (code : ℕ) → code < 2 ^ 64 → length (text_of (head_lines code)) ≤ 256
head_room code small =
    let rest : List Line = pick (eqb code 1) [] (refusal_line code 0 ∷ []) in
    let few = refusal_room (eqb code 1) code 0 small (omega arith) in
    omega (arith, text_length opening_line rest, line_length opening_line (omega arith, tt), few)

-- What the lines of a tally need to be short: an allowed head, and counts that fit.
pub record Short (h : Head) (t : Tally) : Type 0 where
  pub ok : allowed_head h ≡ true
  pub position : t.position ≤ last
  pub captures : t.captures < 2 ^ 64
  pub heard : t.heard < 2 ^ 64
  pub begins : t.begins < 2 ^ 64

module _ (h : Head) (t : Tally) (s : Short h t) where
  ended_length : length (text_of (ended_now h t)) ≤ 170
  ended_length =
      let form = is_listed_form (form_in h) (form_listed h s.ok) in
      let few : (each_in h).pairs ≤ 256 = few_each h s.ok in
      let n : ℕ = samples_over (each_in h) (t.position + 1) in
      let samples : n ≤ 1_024_000_000_000
      = samples_fit (t.position + 1) (each_in h).pairs (omega (arith, s.position)) few in
      let time = time_below n h.divisor samples (divisor_small h s.ok) h.clock (clock_ok h s.ok) in
      let lost : ℕ = missed_of t.heard t.position in
      let line : Line = capture_line (each_in h) h.divisor h.clock t.captures t.heard t.position lost in
      let over : all_fit ((t.position + 1) ∷ n ∷ end_time h.divisor h.clock n ∷ missed_of t.heard t.position ∷ [])
      = (omega (arith, s.position), (omega (arith, samples), (omega (arith, time), (omega (arith, s.position), tt)))) in
      let fit : all_fit line.numbers
      = (s.captures, (omega (arith, form.narrow), (omega (arith, few), (s.heard, over)))) in
      pick_keeps (λ (ls : List Line). length (text_of ls) ≤ 170) (eqb t.heard 0) _ _ (λ e. omega arith)
      (λ e. omega (arith, text_length line [], line_length line fit))

  -- a capture that ends, and a refusal
  pub heard_room : (at code : ℕ) → code < 2 ^ 64 → length (text_of (heard_lines h (record { at = at; code = code; tally = t }))) ≤ 256
  heard_room at code small =
      let rest : List Line = pick (eqb code 1) [] (refusal_line code t.begins ∷ []) in
      let few = refusal_room (eqb code 1) code t.begins small s.begins in
      omega (arith, lines_length (ended_now h t) rest, ended_length, few)

  -- the last capture, and a refusal or the end
  pub end_room : length (text_of (end_lines h t)) ≤ 256
  end_room =
      let end : List Line = end_line t.captures ∷ [] in
      let rest : List Line = pick (eqb t.came 0) end (refusal_line 30 t.begins ∷ []) in
      let few : length (text_of rest) ≤ 44
      = pick_keeps (λ (ls : List Line). length (text_of ls) ≤ 44) (eqb t.came 0) _ _
      (λ e. omega (arith, end_length t.captures s.captures))
      (λ e. refusal_length 30 t.begins (omega arith) s.begins) in
      omega (arith, lines_length (ended_now h t) rest, ended_length, few)
