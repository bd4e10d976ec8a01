-- However the input is cut into pieces, the same is printed.
use Prim.Native.Nat.{ℕ, zero, suc, ◌+◌, ◌-◌, ◌≤◌, ◌<◌}
use mathlib.Core.Path.{◌≡◌, refl, sym, ap, subst, ◌∙◌}
use mathlib.Core.Bool.{Bool, true, false}
use mathlib.Core.List.{List, [], ◌∷◌, ◌++◌, append_assoc}
use native.Mathlib.Decide.{dec_lt, ℕ_discrete}
use native.Mathlib.Omega.{arith}
use lib.Dec.{eqb}
use lib.ListN.{length, take, drop, length-append, length-drop, drop_of_length-le}
use lib.Seq.{length-sets, drop-append-le, drop-length}
use borrow.Author.Tests.{not-false, lt-ltb, le-ltb, ne_eqb, eqb-true}
use Rattle.wire.specs.Choice.{pick}
use Rattle.wire.specs.Lists.{joined}
use Rattle.wire.proofs.Laws.{true_not_false}
use Rattle.wire.proofs.Checks.{given_below}
use Rattle.packets.specs.declared.Form.{Form}
use Rattle.heads.specs.declared.Head.{Head}
use Rattle.heads.specs.Head.{form_in, head_read_checks}
use Rattle.heads.specs.Head.{head_read_code}
use Rattle.hearing.specs.declared.Tally.{Tally}
use Rattle.hearing.specs.Hearing.{Reach}
use Rattle.spans.specs.declared.Span.{Span}
use Rattle.lines.specs.Lines.{Line, text_of, opening_line, refusal_line}
use Rattle.hearing.specs.Hearing.{farthest, accepting, reaching}
use Rattle.hearing.specs.Inside.{Counted, Sane}
use Rattle.spans.specs.Eating.{tally_from, fresh_span, valid_span, head_lacks, head_of, with_tally}
use Rattle.spans.specs.Eating.{lacking, head_wants_by, head_taken, head_lines}
use Rattle.spans.specs.Eating.{head_read, heard_lines, heard_span, Eating, silently, saying, saying_all}
use Rattle.spans.specs.Eating.{opening, opening_by, listening, listening_by, eating_of, last_lines, finishing_of}
use Rattle.lines.specs.Due.{Telling, telling}
use Rattle.spans.specs.Pieces.{room, Handed, handing, handed, handed_all, printed_from, printed, CutsDoNotMatter}
use Rattle.lines.proofs.Dues.{text_append}
use Rattle.hearing.proofs.Heard.{accepted_fits, accepted_open, heard_small, counted_accepting}
use Rattle.hearing.proofs.Goings.{Is-due, reach_due}
use Rattle.spans.proofs.Eats.{opening_waits, opening_says, listening_by_lem, listening_waits, listening_says}
use Rattle.spans.proofs.Eats.{eating_stopped, eating_head, eating_packets, finishing_stopped, finishing_says}
use Rattle.spans.proofs.Rooms.{Short, head_room, heard_room, end_room}
use Rattle.spans.proofs.Telling.{end_lines, if_one, coming_by, reach_ahead, reach_used, coming_on, coming_first}
use Rattle.spans.proofs.Within.{reach_within}
use Rattle.spans.proofs.Filling.{wants_of, by_above, early_all, early_lacks, early_taken, early_left}
use Rattle.spans.proofs.Filling.{late_whole, late_taken, late_left}
use Rattle.spans.proofs.Going.{Going, fresh_counted, fresh_going, going_valid, going_short, stopped_valid}
use Rattle.spans.proofs.Going.{passed_by, passed_reach, passed_accepting}
use Rattle.hearing.proofs.Ranges.{reach_sane}

-- ---- all lines of the bytes to come

-- from a head on that has been taken so far, with what is left of the bytes
abbrev pub head_coming : Span → List ℕ → List Line
head_coming after left =
    let code = head_read_code after.head in
    pick (head_lacks after) (opening_line ∷ refusal_line 40 0 ∷ [])
    (head_lines code ++ if_one code (coming_by (head_of after) (tally_from after.came) left))

-- from a span on whose head is not whole
abbrev pub coming_head : Span → List ℕ → List Line
coming_head s bs = head_coming (head_taken s bs) (drop (lacking (head_wants_by s bs) s bs) bs)

unfoldable pub coming : Span → List ℕ → List Line
coming s bs = pick s.stopped [] (pick (head_lacks s) (coming_head s bs) (coming_by (head_of s) s.tally bs))

coming_stopped : (s : Span) (bs : List ℕ) → s.stopped ≡ true → coming s bs ≡ []
unfolding coming
coming_stopped s bs e = rw e

pub coming_head_lem : (s : Span) (bs : List ℕ) → s.stopped ≡ false → s.came < wants_of s → coming s bs ≡ coming_head s bs
unfolding coming
coming_head_lem s bs e h = rw (e, lt-ltb s.came (wants_of s) h)

coming_packets : (s : Span) (bs : List ℕ) → s.stopped ≡ false → wants_of s ≤ s.came → coming s bs ≡ coming_by (head_of s) s.tally bs
unfolding coming
coming_packets s bs e h = rw (e, le-ltb s.came (wants_of s) h)

coming_end : (h : Head) (t : Tally) → coming_by h t [] ≡ end_lines h t
unfolding coming_by
coming_end h t = refl

-- ---- one call

-- A call for a piece, in front of the rest of the input.
pub record OneCall (s : Span) (used : ℕ) (piece rest : List ℕ) (e : Eating) : Type 0 where
  pub text : text_of (coming s (piece ++ rest)) ≡ e.bytes ++ text_of (coming e.eaten.span (drop e.eaten.consumed piece ++ rest))
  pub moves : 1 ≤ e.eaten.consumed
  pub inside : e.eaten.consumed ≤ length piece
  pub goes : e.eaten.span.stopped ≡ false → Going e.eaten.span (used + e.eaten.consumed)

-- a span that has stopped takes all, and says nothing
call_stopped : (s : Span) (used : ℕ) (piece rest : List ℕ) → s.stopped ≡ true → 1 ≤ length piece
    → OneCall s used piece rest (silently 2 (length piece) s)
call_stopped s used piece rest e some =
    record {
      text = ap text_of (coming_stopped s (piece ++ rest) e ∙ sym (coming_stopped s (drop (length piece) piece ++ rest) e));
      moves = some;
      inside = omega arith;
      goes = λ g. absurd (true_not_false (sym e ∙ g));
    }

-- lines that fit are said
says : (s : Span) (n : ℕ) (lines : List Line) (after : Span) → length (text_of lines) ≤ room
    → saying s room n lines after ≡ saying_all n lines after
says s n lines after fits = rw (le-ltb room (length (text_of lines)) fits)

-- the packets' part of a piece b ∷ bs
module _ (s : Span) (used b : ℕ) (bs rest : List ℕ) (goes : s.stopped ≡ false) (whole : wants_of s ≤ s.came)
    (g : Going s used) (near : used + length (b ∷ bs) ≤ farthest) where
  abbrev h : Head
  h = head_of s

  abbrev f : Form
  f = form_in h

  abbrev piece : List ℕ
  piece = b ∷ bs

  abbrev r : Reach
  r = reaching 0 f s.tally piece

  -- the bytes behind what was reached
  abbrev behind : List ℕ
  behind = drop r.at piece ++ rest

  passed : passed_by r.tally ≡ used + r.at
  passed = omega (arith, passed_reach piece 0 f s.tally, (g.packets whole).2)

  within : r.at ≤ length piece
  within = omega (arith, reach_within piece 0 f s.tally)

  counted : Counted r.tally
  counted =
      let sane : Sane (0 + length piece) s.tally = record { room = omega (arith, (g.packets whole).2); counted = g.counted } in
      (reach_sane piece 0 0 f s.tally sane).counted

  -- the span with a tally that stands as far
  goes_on_with : (t : Tally) → passed_by t ≡ used + r.at → Counted t → Going (with_tally false s t) (used + r.at)
  goes_on_with t there c =
      record {
        long = g.long;
        head = λ few. absurd (omega arith);
        packets = λ all. ((g.packets whole).0, (g.packets whole).1, there);
        counted = c;
      }

  -- no line is due in the piece
  call_silent : r.code ≡ 0 → OneCall s used piece rest (silently 0 r.at (with_tally false s r.tally))
  call_silent none =
      let end : length piece ≤ r.at = omega (arith, reach_used piece 0 f s.tally none) in
      let all : drop r.at piece ≡ [] = drop_of_length-le piece end in
      record {
        text =
            ap text_of
            (coming_packets s (piece ++ rest) goes whole
            ∙ coming_on h s.tally piece rest none
            ∙ sym (coming_packets (with_tally false s r.tally) rest refl whole)
            ∙ ap (λ (l : List ℕ). coming (with_tally false s r.tally) (l ++ rest)) (sym all));
        moves = reach_ahead b bs 0 f s.tally;
        inside = within;
        goes = λ e. goes_on_with r.tally passed counted;
      }

  -- lines are due: the packet that brings them
  module _ (due : r.code ≡ 0 → ⊥) where
    packet : Is-due f r
    packet = reach_due piece 0 f s.tally due

    short : Short h r.tally
    short =
        record {
          ok = (going_short s used g (omega arith) whole).ok;
          position = counted.position;
          captures = omega (arith, counted.captures, passed, within);
          heard = omega (arith, counted.heard, passed, within);
          begins = omega (arith, passed, within);
        }

    fits : length (text_of (heard_lines h r)) ≤ room
    fits = heard_room h r.tally short r.at r.code (omega (arith, packet.code, heard_small f r.tally))

    -- where the open capture ends, the accepted packet leaves a span that goes on
    accepted_going : r.code ≡ 1 → Going (with_tally false s (accepting r.tally)) (used + r.at)
    accepted_going one =
        let done = sym packet.code ∙ one in
        goes_on_with (accepting r.tally) (passed_accepting r.tally ∙ passed)
        (counted_accepting r.tally counted packet.some (accepted_open f r.tally done) (accepted_fits f r.tally done))

    abbrev RestComes : Type 0
    RestComes = if_one r.code (coming_by h (accepting r.tally) (drop r.at (piece ++ rest))) ≡ coming (heard_span s r) behind

    rest_comes : RestComes
    rest_comes = by (eqb r.code 1) refl
      where
        by : (one : Bool) → eqb r.code 1 ≡ one → RestComes
        by true e =
            rw e
            (ap (coming_by h (accepting r.tally)) (drop-append-le r.at piece rest within)
            ∙ sym (coming_packets (with_tally false s (accepting r.tally)) behind refl whole))
        by false e = rw e (sym (coming_stopped (with_tally true s r.tally) behind refl))

    after_going : (heard_span s r).stopped ≡ false → Going (heard_span s r) (used + r.at)
    after_going = by (eqb r.code 1) refl
      where
        by : (one : Bool) → eqb r.code 1 ≡ one → (heard_span s r).stopped ≡ false → Going (heard_span s r) (used + r.at)
        by true e z = rw e (accepted_going (eqb-true _ _ e))
        by false e z = absurd (true_not_false (rw e at z))

    call_says : OneCall s used piece rest (saying_all r.at (heard_lines h r) (heard_span s r))
    call_says =
        record {
          text =
              ap text_of
              (coming_packets s (piece ++ rest) goes whole
              ∙ coming_first h s.tally piece rest due
              ∙ ap (λ (ls : List Line). heard_lines h r ++ ls) rest_comes)
              ∙ text_append (heard_lines h r) (coming (heard_span s r) behind);
          moves = reach_ahead b bs 0 f s.tally;
          inside = within;
          goes = after_going;
        }

  call_packets : OneCall s used piece rest (listening s piece room)
  call_packets = elim (ℕ_discrete r.code 0) [ yes none ↦ quiet none | no due ↦ said due ]
    where
      by : listening s piece room ≡ listening_by s room r
      by = listening_by_lem s piece room r refl

      quiet : r.code ≡ 0 → OneCall s used piece rest (listening s piece room)
      quiet none = subst (OneCall s used piece rest) (sym (by ∙ listening_waits s room r none)) (call_silent none)

      said : (r.code ≡ 0 → ⊥) → OneCall s used piece rest (listening s piece room)
      said due =
          let all = says s r.at (heard_lines h r) (heard_span s r) (fits due) in
          subst (OneCall s used piece rest) (sym (by ∙ listening_says s room r due ∙ all)) (call_says due)

-- ---- the head's part

head_code_small : (s : List ℕ) → head_read_code s < 42
unfolding head_read_code
head_code_small s = given_below 42 (head_read_checks s) 1 refl (omega arith)

-- the head's part of a piece b ∷ bs
module _ (s : Span) (used b : ℕ) (bs rest : List ℕ) (goes : s.stopped ≡ false) (few : s.came < wants_of s) (g : Going s used) where
  abbrev chunk : List ℕ
  chunk = b ∷ bs

  -- how many bytes the head has, and how many it lacks of them
  abbrev all : ℕ
  all = head_wants_by s chunk

  abbrev n : ℕ
  n = lacking all s chunk

  abbrev after : Span
  after = head_taken s chunk

  above : s.came < all
  above = by_above s chunk few

  after_long : length after.head ≡ 26
  after_long = length-sets s.head s.came (take n chunk) ∙ g.long

  -- the piece ends before the head does
  module _ (early : s.came + length chunk < all) where
    taken : n ≡ length chunk
    taken = early_all s chunk rest early

    lacks : after.came < wants_of after
    lacks = early_lacks s chunk rest early

    early_going : Going after (used + n)
    early_going =
        record {
          long = after_long;
          head = λ h. (omega (arith, (g.head few).0), (g.head few).1);
          packets = λ h. absurd (omega (arith, lacks));
          counted = g.counted;
        }

    call_early : OneCall s used chunk rest (silently 0 n after)
    call_early =
        let used_up : drop n chunk ≡ [] = ap (λ (k : ℕ). drop k chunk) taken ∙ drop-length chunk in
        let whole : List ℕ = chunk ++ rest in
        record {
          text =
              ap text_of
              (coming_head_lem s whole goes few
              ∙ ap (λ (x : Span). head_coming x (drop (lacking (head_wants_by s whole) s whole) whole)) (early_taken s chunk rest early)
              ∙ ap (head_coming (head_taken after rest)) (early_left s chunk rest early)
              ∙ sym (coming_head_lem after rest refl lacks)
              ∙ ap (λ (l : List ℕ). coming after (l ++ rest)) (sym used_up));
          moves = omega (arith, taken);
          inside = omega (arith, taken);
          goes = λ e. early_going;
        }

  -- the head ends within the piece
  module _ (late : all ≤ s.came + length chunk) where
    whole : wants_of after ≡ after.came
    whole = late_whole s chunk few late

    no_more : head_lacks after ≡ false
    no_more = le-ltb after.came (wants_of after) (omega (arith, whole))

    came : after.came ≡ s.came + n
    came = refl

    abbrev code : ℕ
    code = head_read_code after.head

    abbrev left : List ℕ
    left = drop n chunk ++ rest

    abbrev RestFollows : Type 0
    RestFollows = if_one code (coming_by (head_of after) (tally_from after.came) left) ≡ coming (head_read code after) left

    rest_follows : RestFollows
    rest_follows = by (eqb code 1) refl
      where
        by : (one : Bool) → eqb code 1 ≡ one → RestFollows
        by true e = rw e (sym (coming_packets (with_tally false after (tally_from after.came)) left refl (omega (arith, whole))))
        by false e = rw e (sym (coming_stopped (with_tally true after (tally_from after.came)) left refl))

    read_going : (head_read code after).stopped ≡ false → Going (head_read code after) (used + n)
    read_going e =
        let one : eqb code 1 ≡ true = not-false (eqb code 1) e in
        record {
          long = after_long;
          head = λ h. absurd (omega (arith, whole));
          packets = λ h. (sym whole, eqb-true code 1 one, omega (arith, (g.head few).0));
          counted = fresh_counted after.came;
        }

    call_late : OneCall s used chunk rest (saying_all n (head_lines code) (head_read code after))
    call_late =
        let input : List ℕ = chunk ++ rest in
        record {
          text =
              ap text_of
              (coming_head_lem s input goes few
              ∙ ap (λ (x : Span). head_coming x (drop (lacking (head_wants_by s input) s input) input)) (late_taken s chunk rest late)
              ∙ ap (head_coming after) (late_left s chunk rest late)
              ∙ (rw no_more)
              ∙ ap (λ (ls : List Line). head_lines code ++ ls) rest_follows)
              ∙ text_append (head_lines code) (coming (head_read code after) left);
          moves = omega (arith, above);
          inside = omega arith;
          goes = read_going;
        }

  call_head : OneCall s used chunk rest (opening s chunk room)
  unfolding opening
  call_head = elim (dec_lt (s.came + length chunk) all) [ yes early ↦ waits early | no late ↦ said (omega arith) ]
    where
      waits : s.came + length chunk < all → OneCall s used chunk rest (opening_by s room n after)
      waits early =
          let by = opening_waits s after room n (lt-ltb after.came (wants_of after) (lacks early)) in
          subst (OneCall s used chunk rest) (sym by) (call_early early)

      said : all ≤ s.came + length chunk → OneCall s used chunk rest (opening_by s room n after)
      said late =
          let c : ℕ = head_read_code after.head in
          let by = opening_says s after room n c (no_more late) refl in
          let fits = head_room c (omega (arith, head_code_small after.head)) in
          subst (OneCall s used chunk rest) (sym (by ∙ says s n (head_lines c) (head_read c after) fits)) (call_late late)

-- ---- any call, all calls of a piece, all pieces

pub one_call : (s : Span) (used b : ℕ) (bs rest : List ℕ) → (s.stopped ≡ false → Going s used) → used + length (b ∷ bs) ≤ farthest
    → OneCall s used (b ∷ bs) rest (eating_of s (b ∷ bs) room)
one_call s used b bs rest good near = by s.stopped refl
  where
    piece' : List ℕ
    piece' = b ∷ bs

    Call : Eating → Type 0
    Call = OneCall s used piece' rest

    valid : s.stopped ≡ false → valid_span s ≡ true
    valid e = going_valid s used (good e) (omega arith) e

    by : (stop : Bool) → s.stopped ≡ stop → Call (eating_of s piece' room)
    by true e = subst Call (sym (eating_stopped s piece' room (stopped_valid s e) e)) (call_stopped s used piece' rest e (omega arith))
    by false e = elim (dec_lt s.came (wants_of s)) [ yes few ↦ opened few | no few ↦ heard (omega arith) ]
      where
        opened : s.came < wants_of s → Call (eating_of s piece' room)
        opened few =
            let lacks = lt-ltb s.came (wants_of s) few in
            subst Call (sym (eating_head s piece' room (valid e) e lacks)) (call_head s used b bs rest e few (good e))

        heard : wants_of s ≤ s.came → Call (eating_of s piece' room)
        heard all' =
            let whole = le-ltb s.came (wants_of s) all' in
            subst Call (sym (eating_packets s piece' room (valid e) e whole)) (call_packets s used b bs rest e all' (good e) near)

-- What handing a piece over comes to, in front of the rest of the input.
pub record AllCalls (s : Span) (used : ℕ) (piece rest : List ℕ) (d : Handed) : Type 0 where
  pub text : text_of (coming s (piece ++ rest)) ≡ d.text ++ text_of (coming d.span rest)
  pub goes : d.span.stopped ≡ false → Going d.span (used + length piece)

none_handed : (s : Span) (used : ℕ) (rest : List ℕ) → (s.stopped ≡ false → Going s used)
    → AllCalls s used [] rest (record { text = []; span = s })
none_handed s used rest good = record { text = refl; goes = λ e. subst (Going s) (omega arith) (good e) }

pub all_calls : (n : ℕ) (s : Span) (used : ℕ) (piece rest : List ℕ) → length piece ≤ n → (s.stopped ≡ false → Going s used)
    → used + length piece ≤ farthest → AllCalls s used piece rest (handing n s piece)
unfolding handing
all_calls zero s used [] rest few good near = none_handed s used rest good
all_calls zero s used (b ∷ bs) rest few good near = absurd (omega arith)
all_calls (suc n) s used [] rest few good near = none_handed s used rest good
all_calls (suc n) s used (b ∷ bs) rest few good near =
    let e : Eating = eating_of s (b ∷ bs) room in
    let one = one_call s used b bs rest good near in
    let k : ℕ = e.eaten.consumed in
    let next : Span = e.eaten.span in
    let left : List ℕ = drop k (b ∷ bs) in
    let long : length left ≡ length (b ∷ bs) - k = length-drop k (b ∷ bs) in
    let d : Handed = handing n next left in
    let then' : AllCalls next (used + k) left rest d
    = all_calls n next (used + k) left rest (omega (arith, one.moves, long)) one.goes (omega (arith, one.inside, long)) in
    let count : used + k + length left ≡ used + length (b ∷ bs) = omega (arith, one.inside, long) in
    rw (ne_eqb (suc (length bs)) 0 (λ z. omega arith))
    (record {
      text =
          one.text
          ∙ ap (λ (l : List ℕ). e.bytes ++ l) then'.text
          ∙ sym (append_assoc e.bytes d.text (text_of (coming d.span rest)));
      goes = λ z. subst (Going d.span) count (then'.goes z);
    })

-- the end of the input
end_comes : (s : Span) (used : ℕ) → (s.stopped ≡ false → Going s used) → used ≤ farthest → (finishing_of s room).bytes ≡ text_of (coming s [])
end_comes s used good near = by s.stopped refl
  where
    whole_text : (lines : List Line) → length (text_of lines) ≤ room → (telling (text_of lines) room).bytes ≡ text_of lines
    whole_text lines fits = rw (le-ltb room (length (text_of lines)) fits)

    by : (stop : Bool) → s.stopped ≡ stop → (finishing_of s room).bytes ≡ text_of (coming s [])
    by true e =
        ap (λ (t : Telling). t.bytes) (finishing_stopped s room (stopped_valid s e) e) ∙ ap text_of (sym (coming_stopped s [] e))
    by false e = elim (dec_lt s.came (wants_of s)) [ yes few ↦ cut few | no few ↦ ended (omega arith) ]
      where
        -- the last lines are said, where they are those and fit
        last : (lines : List Line) → last_lines s ≡ lines → length (text_of lines) ≤ room → (finishing_of s room).bytes ≡ text_of lines
        last lines are fits =
            ap (λ (t : Telling). t.bytes) (finishing_says s room (going_valid s used (good e) near e) e)
            ∙ ap (λ (ls : List Line). (telling (text_of ls) room).bytes) are
            ∙ whole_text lines fits

        cut : s.came < wants_of s → (finishing_of s room).bytes ≡ text_of (coming s [])
        cut few =
            let more = by_above s [] few in
            let lacks : (head_taken s []).came < wants_of (head_taken s []) = early_lacks s [] [] (omega (arith, more)) in
            let short : coming_head s [] ≡ head_lines 40 = rw (lt-ltb (head_taken s []).came (wants_of (head_taken s [])) lacks) in
            last (head_lines 40) (rw (lt-ltb s.came (wants_of s) few)) (head_room 40 (omega arith))
            ∙ ap text_of (sym (coming_head_lem s [] e few ∙ short))

        ended : wants_of s ≤ s.came → (finishing_of s room).bytes ≡ text_of (coming s [])
        ended all' =
            let h' : Head = head_of s in
            let fits = end_room h' s.tally (going_short s used (good e) near all') in
            last (end_lines h' s.tally) (rw (le-ltb s.came (wants_of s) all')) fits
            ∙ ap text_of (sym (coming_packets s [] e all' ∙ coming_end h' s.tally))

pub prints_coming : (pieces : List (List ℕ)) (s : Span) (used : ℕ) → (s.stopped ≡ false → Going s used)
    → used + length (joined pieces) ≤ farthest → printed_from s pieces ≡ text_of (coming s (joined pieces))
unfolding handed_all
prints_coming [] s used good near = end_comes s used good (omega arith)
prints_coming (p ∷ ps) s used good near =
    let long = length-append p (joined ps) in
    let calls = all_calls (length p) s used p (joined ps) (omega arith) good (omega (arith, long)) in
    let first : Handed = handed s p in
    let next : Handed = handed_all first.span ps in
    let later = prints_coming ps first.span (used + length p) calls.goes (omega (arith, long)) in
    append_assoc first.text next.text (finishing_of next.span room).bytes
    ∙ ap (λ (l : List ℕ). first.text ++ l) later
    ∙ sym calls.text

-- All that is printed for pieces is what their bytes bring.
pub printed_is : (pieces : List (List ℕ)) → length (joined pieces) ≤ farthest → printed pieces ≡ text_of (coming fresh_span (joined pieces))
printed_is pieces near = prints_coming pieces fresh_span 0 (λ e. fresh_going) (omega arith)

pub cuts_do_not_matter : CutsDoNotMatter
cuts_do_not_matter ps qs same near =
    let other = subst (λ (l : List ℕ). length l ≤ farthest) same near in
    printed_is ps near ∙ ap (λ (l : List ℕ). text_of (coming fresh_span l)) same ∙ sym (printed_is qs other)
