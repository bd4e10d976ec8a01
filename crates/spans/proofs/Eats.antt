-- What the functions over a span need of its definitions.
use Prim.Native.Nat.{ℕ, ◌+◌, ◌-◌, ◌≤◌, ◌<◌}
use mathlib.Core.Path.{◌≡◌, refl, sym, ap, subst, ◌∙◌}
use mathlib.Core.Bool.{Bool, true, false, ◌&&◌, ◌||◌}
use mathlib.Core.List.{List, []}
use Rattle.std.specs.Prelude.{Option, Result, Ok, Err, IsOk}
use Rattle.wire.specs.declared.refusal.Refusal.{Refusal}
use Rattle.wire.specs.Refusal.{refusal_code}
use Rattle.wire.proofs.Refusals.{done_no_refusal}
use native.Mathlib.Omega.{arith}
use lib.Dec.{eqb, ltb}
use lib.ListN.{length, take}
use lib.Seq.{sets, length-take-le}
use borrow.Author.Tests.{eqb-true, eq-eqb, ne_eqb}
use Rattle.wire.proofs.Laws.{and_left, and_right, and_both, or_rest}
use Rattle.packets.specs.declared.Form.{Form}
use Rattle.packets.specs.Forms.{listed_form}
use Rattle.heads.specs.declared.Head.{Head}
use Rattle.heads.specs.Head.{form_in, allowed_head}
use Rattle.heads.proofs.Rounds.{passed}
use Rattle.heads.proofs.Values.{form_listed, few_each, divisor_small, clock_ok}
use Rattle.heads.specs.Head.{head_read_code}
use Rattle.hearing.specs.declared.Tally.{Tally}
use Rattle.spans.specs.declared.Span.{Span}
use Rattle.spans.specs.declared.Eaten as Ate
use Rattle.lines.specs.declared.Due.{Due}
use Rattle.lines.specs.declared.Ending.{Ending}
use Rattle.lines.specs.Due.{LinesAnswer}
use Rattle.spans.specs.Eating.{Eaten}
use Rattle.hearing.specs.Hearing.{Reach}
use Rattle.lines.specs.Lines.{Line, text_of}
use Rattle.lines.specs.Due.{due_lines, sized, lines_told, Telling, silent_with, telling, telling_of}
use Rattle.lines.proofs.Dues.{is_sized, telling_sized}
use Rattle.hearing.specs.Hearing.{Outcome, tally_in_range, reaching, next_tally, outcome, hearing_of, hearing_code}
use Rattle.hearing.proofs.Ranges.{range_sane, reach_sane, hearing_is}
use Rattle.hearing.specs.Inside.{Counted}
use Rattle.spans.specs.Eating.{head_wants, head_lacks, head_ok, valid_span, head_of, with_tally, lacking, head_filled}
use Rattle.spans.specs.Eating.{head_wants_by, head_taken, head_lines}
use Rattle.spans.specs.Eating.{head_read, heard_lines, heard_span, Eating, refused, silently, saying, opening}
use Rattle.spans.specs.Eating.{eaten_told, opening_by, listening, listening_by, eating_of, last_lines, finishing_of}
use Rattle.spans.specs.Inside.{due_now}

pub valid_by : (s : Span) {a b c : Bool} → s.stopped ≡ a → tally_in_range s.tally ≡ b → head_ok s ≡ c → valid_span s ≡ a || (b && c)
unfolding valid_span
valid_by s p q r = cc

-- ---- the head

pub lacked : (all : ℕ) (s : Span) (piece : List ℕ) (k : ℕ) → k ≡ lacking all s piece → k ≡ length (take k piece)
lacked all s piece k is = sym (length-take-le k piece (omega arith))

pub head_filled_lem : (all : ℕ) (s : Span) (piece head : List ℕ) (k : ℕ) → k ≡ lacking all s piece
    → head ≡ sets s.head s.came (take k piece)
    → record { stopped = false; came = s.came + k; head = head; tally = s.tally } ≡ head_filled all s piece
head_filled_lem all s piece head k is stored = rw (stored, is)

-- ---- the lines that are due

pub due_sized : (h : Head) (t : Tally) (ending : Option Ending) → allowed_head h ≡ true → Counted t → sized (due_now h t ending) ≡ true
due_sized h t ending ok c =
    is_sized (due_now h t ending)
    (record {
      position = c.position;
      pairs = few_each h ok;
      divisor = divisor_small h ok;
      clock = clock_ok h ok;
      heard = c.least;
    })

-- a record that is another has its lines and its sizes
pub due_is : {d e : Due} {ls : List Line} → d ≡ e → due_lines e ≡ ls → sized e ≡ true → (due_lines d ≡ ls) × (sized d ≡ true)
due_is p q s = (ap due_lines p ∙ q, ap sized p ∙ s)

-- ---- what a call answers

-- What `tell` answered for lines, in a slice with so much room: 20, or the lines' text.
module _ (lines : List Line) (room : ℕ) (told : LinesAnswer) (is : told ≡ (telling (text_of lines) room).answer) where
  short : told.code ≡ 20 → ltb room (length (text_of lines)) ≡ true
  short no_room_lem = by (ltb room (length (text_of lines))) refl
    where
      by : (b : Bool) → ltb room (length (text_of lines)) ≡ b → ltb room (length (text_of lines)) ≡ true
      by true e = e
      by false e =
          let code : told.code ≡ 1 = ap (λ (t : LinesAnswer). t.code) is ∙ rw e in
          absurd (omega arith)

  long : (told.code ≡ 20 → ⊥) → ltb room (length (text_of lines)) ≡ false
  long fits = by (ltb room (length (text_of lines))) refl
    where
      by : (b : Bool) → ltb room (length (text_of lines)) ≡ b → ltb room (length (text_of lines)) ≡ false
      by true e = absurd (fits (ap (λ (t : LinesAnswer). t.code) is ∙ rw e))
      by false e = e

  -- with 20 nothing is written
  pub nothing_told : told.code ≡ 20 → (telling (text_of lines) room).bytes ≡ []
  nothing_told no_room_lem = rw (short no_room_lem)

  pub refused_20 : (s after : Span) (n : ℕ) → told.code ≡ 20 → saying s room n lines after ≡ refused 20 s
  refused_20 s after n no_room_lem = rw (short no_room_lem)

  -- and else the whole text
  pub text_told : (told.code ≡ 20 → ⊥) → (telling (text_of lines) room).bytes ≡ text_of lines
  text_told fits = rw (long fits)

  pub said : (s after : Span) (n : ℕ) → (told.code ≡ 20 → ⊥)
      → saying s room n lines after
      ≡ record { eaten = record { code = 1; consumed = n; wrote = told.wrote; span = after }; bytes = text_of lines }
  said s after n fits =
      let wrote : told.wrote ≡ length (text_of lines) = ap (λ (t : LinesAnswer). t.wrote) is ∙ rw (long fits) in
      rw (long fits, wrote)

-- an answer for what something is, is an answer for it
pub answers : {e : Eaten} (out : List ℕ) {after : List ℕ} {x : Eating} (y : Eating) → x ≡ y → e ≡ y.eaten → after ≡ sets out 0 y.bytes
    → (e ≡ x.eaten) × (after ≡ sets out 0 x.bytes)
answers {e} out {after} y same p q = subst (λ (z : Eating). (e ≡ z.eaten) × (after ≡ sets out 0 z.bytes)) (sym same) (p, q)

pub opening_by_lem : (s : Span) (piece : List ℕ) (room : ℕ) (after : Span) → after ≡ head_taken s piece
    → opening s piece room ≡ opening_by s room (after.came - s.came) after
unfolding opening
opening_by_lem s piece room after is =
    let n : ℕ = lacking (head_wants_by s piece) s piece in
    let came : after.came ≡ s.came + n = ap (λ (x : Span). x.came) is in
    let count : after.came - s.came ≡ n = omega arith in
    ap (λ (x : Span). opening_by s room n x) (sym is) ∙ ap (λ (k : ℕ). opening_by s room k after) (sym count)

-- a head that is not whole
pub opening_waits : (s after : Span) (room n : ℕ) → head_lacks after ≡ true → opening_by s room n after ≡ silently 0 n after
opening_waits s after room n h = rw h

-- a whole head
pub opening_says : (s after : Span) (room n code : ℕ) → head_lacks after ≡ false → code ≡ head_read_code after.head
    → opening_by s room n after ≡ saying s room n (head_lines code) (head_read code after)
opening_says s after room n code h is = rw (h, is)

pub listening_by_lem : (s : Span) (piece : List ℕ) (room : ℕ) (r : Reach) → r ≡ reaching 0 (form_in (head_of s)) s.tally piece
    → listening s piece room ≡ listening_by s room r
unfolding listening
listening_by_lem s piece room r is = ap (listening_by s room) (sym is)

pub listening_waits : (s : Span) (room : ℕ) (r : Reach) → r.code ≡ 0
    → listening_by s room r ≡ silently 0 r.at (with_tally false s r.tally)
listening_waits s room r e = rw (eq-eqb r.code 0 e)

pub listening_says : (s : Span) (room : ℕ) (r : Reach) → (r.code ≡ 0 → ⊥)
    → listening_by s room r ≡ saying s room r.at (heard_lines (head_of s) r) (heard_span s r)
listening_says s room r e = rw (ne_eqb r.code 0 e)

-- What was told of lines that are due: those of d, into a slice `out` that is `after` then, in a call that comes to x.
pub record Tells (s next : Span) (n : ℕ) (lines : List Line) (out after : List ℕ) (told : LinesAnswer) (x : Eating) : Type 0 where
  pub due : Due
  pub are : due_lines due ≡ lines
  pub fit : sized due ≡ true
  pub did : (told ≡ (telling_of due (length out)).answer) × (after ≡ sets out 0 (telling_of due (length out)).bytes)
  pub is : x ≡ saying s (length out) n lines next

-- The two answers of such a call.
module _ {s next : Span} {n : ℕ} {lines : List Line} {out after : List ℕ} {told : LinesAnswer} {x : Eating}
    (t : Tells s next n lines out after told x) where
  same_lines : telling_of t.due (length out) ≡ telling (text_of lines) (length out)
  same_lines = telling_sized t.due (length out) t.fit ∙ ap (λ (ls : List Line). telling (text_of ls) (length out)) t.are

  told_is : told ≡ (telling (text_of lines) (length out)).answer
  told_is = t.did.0 ∙ ap (λ (y : Telling). y.answer) same_lines

  after_is : after ≡ sets out 0 (telling (text_of lines) (length out)).bytes
  after_is = t.did.1 ∙ ap (λ (y : Telling). sets out 0 y.bytes) same_lines

  pub no_room_lem : (e : Eaten) → e ≡ (refused 20 s).eaten → told.code ≡ 20 → (e ≡ x.eaten) × (after ≡ sets out 0 x.bytes)
  no_room_lem e same short =
      answers out (refused 20 s) (t.is ∙ refused_20 lines (length out) told told_is s next n short) same
      (after_is ∙ ap (sets out 0) (nothing_told lines (length out) told told_is short))

  pub room : (e : Eaten) → e ≡ record { code = 1; consumed = n; wrote = told.wrote; span = next } → (told.code ≡ 20 → ⊥)
      → (e ≡ x.eaten) × (after ≡ sets out 0 x.bytes)
  room e same fits =
      let all = said lines (length out) told told_is s next n fits in
      answers out (record { eaten = record { code = 1; consumed = n; wrote = told.wrote; span = next }; bytes = text_of lines })
      (t.is ∙ all) same (after_is ∙ ap (sets out 0) (text_told lines (length out) told told_is fits))

-- and that is all that they can be: of lines that are a capture's only the room decides
module _ {s next : Span} {n : ℕ} {lines : List Line} {out after : List ℕ} {x : Eating} (r : Refusal)
    (t : Tells s next n lines out after (lines_told (Err r)) x) where
  only_no_room : refusal_code r ≡ 20
  only_no_room = by (ltb (length out) (length (text_of lines))) refl
    where
      by : (b : Bool) → ltb (length out) (length (text_of lines)) ≡ b → refusal_code r ≡ 20
      by true e = ap (λ (y : LinesAnswer). y.code) (told_is t) ∙ rw e
      by false e =
          let code : refusal_code r ≡ 1 = ap (λ (y : LinesAnswer). y.code) (told_is t) ∙ rw e in
          done_no_refusal r (sym code)

  pub refuses : (eaten_told s (Err r) ≡ x.eaten) × (after ≡ sets out 0 x.bytes)
  refuses = no_room_lem t (eaten_told s (Err r)) (ap (λ (c : ℕ). (refused c s).eaten) only_no_room) only_no_room

-- a call that consumes some of a piece refuses nothing
pub is_ok : (s : Span) (r : Result Ate.Eaten Refusal) (e : Eaten) → eaten_told s r ≡ e → 0 < e.consumed → IsOk r
is_ok s (Ok a) e is some = refl
is_ok s (Err r) e is some = absurd (omega (arith, ap (λ (x : Eaten). x.consumed) is))

-- the lines of a whole head, by how it reads
pub head_tells : (s after : Span) (piece out now : List ℕ) (code : ℕ) (due : Due) (told : LinesAnswer)
    → after ≡ head_taken s piece → head_lacks after ≡ false → code ≡ head_read_code after.head
    → (due_lines due ≡ head_lines code) × (sized due ≡ true)
    → (told ≡ (telling_of due (length out)).answer) × (now ≡ sets out 0 (telling_of due (length out)).bytes)
    → Tells s (head_read code after) (after.came - s.came) (head_lines code) out now told (opening s piece (length out))
head_tells s after piece out now code due told is whole read lines did =
    record {
      due = due;
      are = lines.0;
      fit = lines.1;
      did = did;
      is = opening_by_lem s piece (length out) after is ∙ opening_says s after (length out) (after.came - s.came) code whole read;
    }

-- the lines of the packets, where hearing stopped
pub heard_tells : (s : Span) (piece out now : List ℕ) (r : Reach) (due : Due) (told : LinesAnswer)
    → r ≡ reaching 0 (form_in (head_of s)) s.tally piece → (r.code ≡ 0 → ⊥)
    → (due_lines due ≡ heard_lines (head_of s) r) × (sized due ≡ true)
    → (told ≡ (telling_of due (length out)).answer) × (now ≡ sets out 0 (telling_of due (length out)).bytes)
    → Tells s (heard_span s r) r.at (heard_lines (head_of s) r) out now told (listening s piece (length out))
heard_tells s piece out now r due told is stops lines did =
    record {
      due = due;
      are = lines.0;
      fit = lines.1;
      did = did;
      is = listening_by_lem s piece (length out) r is ∙ listening_says s (length out) r stops;
    }

-- what hearing answered of a span's packets
module _ (s : Span) (piece : List ℕ) (ok : allowed_head (head_of s) ≡ true) (near : tally_in_range s.tally ≡ true)
    (h : Head) (form : Form) (is_head : h ≡ head_of s) (is_form : form ≡ form_in h) where
  form_is : form ≡ form_in (head_of s)
  form_is = is_form ∙ ap form_in is_head

  -- it refuses none
  pub hears_all : (r : Refusal) {B : Type 0} → refusal_code r ≡ hearing_code form s.tally → B
  hears_all r e =
      let listed : listed_form form ≡ true = ap listed_form form_is ∙ form_listed (head_of s) ok in
      done_no_refusal r (sym (e ∙ rw (and_both (tally_in_range s.tally) (listed_form form) near listed)))

  module _ (reach : Reach) (next : Tally) (heard : record { reach = reach; next = next } ≡ hearing_of form s.tally piece) where
    heard_is : record { reach = reach; next = next } ≡ outcome (reaching 0 (form_in (head_of s)) s.tally piece)
    heard_is =
        heard
        ∙ ap (λ (f : Form). hearing_of f s.tally piece) form_is
        ∙ hearing_is (form_in (head_of s)) s.tally piece near (form_listed (head_of s) ok)

    pub reach_is : reach ≡ reaching 0 (form_in (head_of s)) s.tally piece
    reach_is = ap (λ (o : Outcome). o.reach) heard_is

    pub next_is : next ≡ next_tally reach
    next_is = ap (λ (o : Outcome). o.next) heard_is ∙ ap next_tally (sym reach_is)

    pub reach_counted : s.tally.number ≤ 65_535 → length piece < 0x8000_0000_0000_0000 → Counted reach.tally
    reach_counted small short =
        let before = range_sane s.tally (0 + length piece) near small (omega arith) in
        let sane = reach_sane piece 0 0 (form_in (head_of s)) s.tally before in
        subst (λ (r : Reach). Counted r.tally) (sym reach_is) sane.counted

-- ---- valid spans

module _ (s : Span) (ok : valid_span s ≡ true) (goes : s.stopped ≡ false) where
  unbroken : tally_in_range s.tally && head_ok s ≡ true
  unbroken = sym (valid_by s goes refl refl) ∙ ok

  pub valid_range : tally_in_range s.tally ≡ true
  valid_range = and_left (tally_in_range s.tally) (head_ok s) unbroken

  -- the head of a valid span that has all of it is one that may be written
  pub valid_head : head_lacks s ≡ false → allowed_head (head_of s) ≡ true
  valid_head whole =
      let here : head_ok s ≡ true = and_right (tally_in_range s.tally) (head_ok s) unbroken in
      let all : Bool = eqb s.came (head_wants s.came s.head) in
      let read : all && eqb (head_read_code s.head) 1 ≡ true = or_rest (head_lacks s) _ here whole in
      (passed s.head (eqb-true _ _ (and_right all (eqb (head_read_code s.head) 1) read))).ok

-- ---- which part of a call

module _ (s : Span) (piece : List ℕ) (room' : ℕ) where
  pub eating_broken : valid_span s ≡ false → eating_of s piece room' ≡ refused 21 s
  unfolding eating_of
  eating_broken v = rw v

  pub eating_stopped : valid_span s ≡ true → s.stopped ≡ true → eating_of s piece room' ≡ silently 2 (length piece) s
  unfolding eating_of
  eating_stopped v p = rw (v, p)

  pub eating_head : valid_span s ≡ true → s.stopped ≡ false → head_lacks s ≡ true → eating_of s piece room' ≡ opening s piece room'
  unfolding eating_of
  eating_head v p h = rw (v, p, h)

  pub eating_packets : valid_span s ≡ true → s.stopped ≡ false → head_lacks s ≡ false → eating_of s piece room' ≡ listening s piece room'
  unfolding eating_of
  eating_packets v p h = rw (v, p, h)

module _ (s : Span) (room' : ℕ) where
  pub finishing_broken : valid_span s ≡ false → finishing_of s room' ≡ silent_with 21
  unfolding finishing_of
  finishing_broken v = rw v

  pub finishing_stopped : valid_span s ≡ true → s.stopped ≡ true → finishing_of s room' ≡ silent_with 2
  unfolding finishing_of
  finishing_stopped v p = rw (v, p)

  pub finishing_says : valid_span s ≡ true → s.stopped ≡ false → finishing_of s room' ≡ telling (text_of (last_lines s)) room'
  unfolding finishing_of
  finishing_says v p = rw (v, p)

-- as `answers`, for the end
pub finishes : {e : LinesAnswer} (out : List ℕ) {after : List ℕ} {x : Telling} (y : Telling) → x ≡ y
    → (e ≡ y.answer) × (after ≡ sets out 0 y.bytes)
    → (e ≡ x.answer) × (after ≡ sets out 0 x.bytes)
finishes {e} out {after} y same did = subst (λ (z : Telling). (e ≡ z.answer) × (after ≡ sets out 0 z.bytes)) (sym same) did
