-- What is printed for pieces of an input is the report of the input.
use Prim.Native.Nat.{ℕ, ◌+◌, ◌≤◌, ◌<◌}
use mathlib.Core.Path.{◌≡◌, refl, sym, ap, ◌∙◌}
use mathlib.Core.Bool.{Bool, true, false}
use mathlib.Core.List.{List, [], ◌∷◌, ◌++◌}
use native.Mathlib.Decide.{dec_lt}
use native.Mathlib.Omega.{arith}
use lib.Dec.{eqb}
use lib.ListN.{length, take, drop, replicate, length-drop}
use lib.Seq.{sets, length-sets, length-take-le}
use borrow.Author.Tests.{lt-ltb, le-ltb, eqb-true}
use Rattle.wire.specs.Choice.{pick}
use Rattle.wire.specs.Lists.{all_bytes, joined}
use Rattle.wire.specs.Number.{number, field}
use Rattle.wire.proofs.Lists.{bytes_drop}
use Rattle.wire.proofs.Numbers.{field_front}
use Rattle.wire.proofs.Stores.{sets_taken}
use Rattle.heads.specs.declared.Head.{Head}
use Rattle.heads.specs.Head.{mark, is_head_version, nominal, head_length, head_length_in, version_in, head_in}
use Rattle.heads.specs.Head.{head_read_code}
use Rattle.heads.proofs.Codes.{code_by_lem, longer, most_long}
use Rattle.heads.proofs.Fronts.{same_code, same_head}
use Rattle.heads.proofs.Rounds.{passed}
use Rattle.heads.proofs.Values.{form_listed}
use Rattle.spans.specs.declared.Span.{Span}
use Rattle.lines.specs.Lines.{Line, text_of, opening_line, end_time, refusal_line}
use Rattle.lines.proofs.Times.{time_as_before}
use Rattle.spans.specs.Report.{nothing, packet_lines, lines_of, report, OldTimesStay}
use Rattle.spans.specs.Eating.{tally_from, fresh_span, head_lacks, head_of, lacking, head_wants_by, head_taken, head_lines}
use Rattle.spans.specs.Pieces.{PrintsTheReport}
use Rattle.spans.proofs.Telling.{if_one, coming_by}
use Rattle.spans.proofs.Filling.{wants_of, wants_many, wants_least, by_least, by_is, early_lacks, late_whole}
use Rattle.spans.proofs.Cuts.{coming_head, coming, coming_head_lem, printed_is}
use Rattle.spans.proofs.Reported.{Knows, coming_lines}

-- ---- a head that begins an input

abbrev zeros : List ℕ
zeros = replicate 26 0

-- the first bytes of an input, stored where there were zeros
stored_front : (k : ℕ) (input : List ℕ) → k ≤ 26 → k ≤ length input → take k (sets zeros 0 (take k input)) ≡ take k input
stored_front k input few there =
    let long : length (take k input) ≡ k = length-take-le k input there in
    ap (λ (n : ℕ). take n (sets zeros 0 (take k input))) (sym long) ∙ sets_taken zeros 0 (take k input) (omega (arith, long))

nothing_known : (begins : ℕ) → Knows (tally_from begins) (nothing begins)
nothing_known begins =
    record { came = refl; offset = refl; captures = refl; heard = refl; position = refl; allowed = omega arith; stepped = tt }

module _ (input : List ℕ) where
  abbrev all : ℕ
  all = head_length_in input

  -- 14 bytes tell how many the head has
  wants_all : 14 ≤ length input → head_wants_by fresh_span input ≡ all
  wants_all some =
      let k : ℕ = lacking 26 fresh_span input in
      let head : List ℕ = sets zeros 0 (take k input) in
      let version : version_in head ≡ version_in input
      = sym (field_front 3 2 k head (omega arith))
      ∙ ap (field 3 2) (stored_front k input (omega arith) (omega arith))
      ∙ field_front 3 2 k input (omega arith) in
      by_is fresh_span input ∙ wants_many (0 + k) head (omega arith) ∙ ap head_length version

  -- the head is cut off: under 14 bytes, or under 26 of version 2
  cut_code_lem : length input < head_wants_by fresh_span input → head_read_code input ≡ 40
  cut_code_lem short =
      elim (dec_lt (length input) 14) [
        | yes few ↦ code_by_lem input (lt-ltb (length input) 14 few) refl refl refl refl
        | no few ↦ second (omega arith) (eqb (field 0 3 input) (number mark)) refl
      ]
    where
      second : 14 ≤ length input → (marked : Bool) → eqb (field 0 3 input) (number mark) ≡ marked → head_read_code input ≡ 40
      second some false other = code_by_lem input (le-ltb (length input) 14 some) other refl refl refl
      second some true marked =
          let less : length input < all = omega (arith, short, wants_all some) in
          let two : eqb (version_in input) 2 ≡ true = longer (version_in input) (omega arith) in
          code_by_lem input (le-ltb (length input) 14 some) marked (ap is_head_version (eqb-true (version_in input) 2 two))
          (lt-ltb (length input) all less) refl

  cut_head : length input < head_wants_by fresh_span input → coming_head fresh_span input ≡ lines_of input
  unfolding lines_of
  cut_head short =
      let after : Span = head_taken fresh_span input in
      rw (lt-ltb after.came (wants_of after) (early_lacks fresh_span input [] (omega (arith, short))), cut_code_lem short)

  abbrev rest : List ℕ
  rest = drop all input

  -- a head that reads with a code, and the packets behind it
  abbrev by_head : ℕ → Head → ℕ → List ℕ → List Line
  by_head code h begins left = head_lines code ++ if_one code (coming_by h (tally_from begins) left)

  -- the head is whole
  module _ (late : head_wants_by fresh_span input ≤ length input) where
    wants : head_wants_by fresh_span input ≡ all
    wants = wants_all (omega (arith, late, by_least fresh_span input))

    count : lacking (head_wants_by fresh_span input) fresh_span input ≡ all
    count = omega (arith, late, wants)

    abbrev first : List ℕ
    first = sets zeros 0 (take all input)

    alike : take all input ≡ take all first
    alike = sym (stored_front all input (most_long (version_in input)) (omega (arith, late, wants)))

    few : 0 < wants_of fresh_span
    few = omega (arith, wants_least 0 zeros)

    after_head : coming_head fresh_span input ≡ by_head (head_read_code input) (head_in input) all rest
    after_head =
        let after : Span = head_taken fresh_span input in
        let n : ℕ = lacking (head_wants_by fresh_span input) fresh_span input in
        let reached : after.came ≡ n = omega arith in
        let whole = late_whole fresh_span input few (omega (arith, late)) in
        let none : head_lacks after ≡ false = le-ltb after.came (wants_of after) (omega (arith, whole)) in
        let reach : all ≤ length first
        = rw (length-sets zeros 0 (take all input)) (most_long (version_in input)) in
        (rw none)
        ∙ ap (λ (k : ℕ). by_head (head_read_code after.head) (head_of after) k (drop n input)) reached
        ∙ ap (λ (k : ℕ). by_head (head_read_code (sets zeros 0 (take k input))) (head_in (sets zeros 0 (take k input))) k (drop k input)) count
        ∙ ap (λ (c : ℕ). by_head c (head_in first) all rest) (sym (same_code input first alike (omega (arith, late, wants)) reach))
        ∙ ap (λ (h : Head). by_head (head_read_code input) h all rest) (sym (same_head input first alike))

    whole_head : all_bytes input → coming_head fresh_span input ≡ lines_of input
    unfolding lines_of
    whole_head small = after_head ∙ by (eqb (head_read_code input) 1) refl
      where
        by : (one : Bool) → eqb (head_read_code input) 1 ≡ one
            → by_head (head_read_code input) (head_in input) all rest
            ≡ opening_line ∷ pick (eqb (head_read_code input) 1) (packet_lines input) (refusal_line (head_read_code input) 0 ∷ [])
        by true e =
            let form = form_listed (head_in input) (passed input (eqb-true (head_read_code input) 1 e)).ok in
            let less : length rest ≤ length input = simp length-drop (omega arith) in
            let small_rest = bytes_drop all input small in
            let known = nothing_known all in
            let same = coming_lines (length input) (head_in input) form (tally_from all) (nothing all) rest less known small_rest in
            rw e (ap (λ (ls : List Line). opening_line ∷ ls) same)
        by false e = rw e

  pub coming_input : all_bytes input → coming fresh_span input ≡ lines_of input
  coming_input small =
      coming_head_lem fresh_span input refl (omega (arith, wants_least 0 zeros))
      ∙ elim (dec_lt (length input) (head_wants_by fresh_span input)) [ yes short ↦ cut_head short | no short ↦ whole_head (omega arith) small ]

pub report_is : PrintsTheReport
unfolding report
report_is pieces small near = printed_is pieces near ∙ ap text_of (coming_input (joined pieces) small)

pub old_times_stay : OldTimesStay
old_times_stay input samples one =
    ap (λ (v : ℕ). end_time (head_in input).divisor (pick (eqb v 2) (field 22 4 input) nominal) samples) one
    ∙ time_as_before (head_in input).divisor samples
