-- The lines that packets bring byte by byte are those of the report.
use Prim.Native.Nat.{ℕ, zero, suc, ◌+◌, ◌*◌, ◌-◌, ◌%◌, ◌≤◌, ◌<◌}
use mathlib.Core.Path.{◌≡◌, refl, sym, ap, ◌∙◌}
use mathlib.Core.Bool.{Bool, true, false, ◌&&◌, not}
use mathlib.Core.List.{List, [], ◌∷◌, ◌++◌, append-nil}
use native.Mathlib.Decide.{dec_lt, dec_le, ℕ_discrete}
use native.Mathlib.Omega.{arith}
use lib.Dec.{eqb, leb, ltb}
use lib.ListN.{length, get_or, take, drop, length-drop}
use lib.Seq.{length-take-le, drop-drop, get_or-take}
use borrow.Author.Tests.{le-ltb, le-leb, ne_eqb}
use Rattle.wire.specs.Choice.{pick, check, first_of}
use Rattle.wire.specs.Lists.{all_bytes}
use Rattle.wire.specs.Number.{field}
use Rattle.wire.proofs.Laws.{and_left, and_both, true_not_false}
use Rattle.wire.proofs.Lists.{byte_at, bytes_drop}
use Rattle.packets.specs.declared.Form.{Form}
use Rattle.packets.specs.Forms.{same_form, total_of, listed_form, form_with_header, whole_of, is_packet}
use Rattle.packets.specs.Numbers.{number_at, step_of, number_in, last}
use Rattle.packets.specs.Missed.{missed_of, steps_give}
use Rattle.packets.proofs.Numbers.{field_two}
use Rattle.reader.specs.declared.Reader.{Reader}
use Rattle.reader.specs.Reading.{sound, position_after, reading_code}
use Rattle.reader.proofs.Reading.{heard_sound}
use Rattle.reader.proofs.Sound.{silent_sound}
use Rattle.heads.specs.declared.Head.{Head}
use Rattle.heads.specs.Head.{channels_in, form_in}
use Rattle.heads.proofs.Listed.{is_count_lem}
use Rattle.hearing.specs.declared.Tally.{Tally}
use Rattle.hearing.specs.Hearing.{Reach}
use Rattle.lines.specs.Lines.{Line, refusal_line}
use Rattle.spans.specs.Report.{Known, missed_among, line_of, ended, reader_after, packet_in, packet_code}
use Rattle.spans.specs.Report.{known_after, packets_in, at_packet, at_end, at_refusal, lines_from}
use Rattle.hearing.specs.Hearing.{low_high, taking_byte, form_coming, position_now, lacks_first, heard_code, accepting, closes, settled, reaching}
use Rattle.hearing.specs.Inside.{goes_on}
use Rattle.spans.specs.Eating.{ended_now, heard_lines}
use Rattle.hearing.proofs.Heard.{code_by, heard_by, settled_by, accepted_fits, accepted_open}
use Rattle.hearing.proofs.Reaches.{heard_waits, tallied, low_again, reach_whole, packet_parts, total_least}
use Rattle.spans.proofs.Telling.{end_lines, if_one, by_reach, coming_by, coming_wait, coming_due, after_reach, coming_reach, reach_from}
use Rattle.spans.proofs.Stepped.{Stepped, stepped_adds_up, stepped_given, stepped_after}
use Rattle.spans.proofs.Wholes.{form_at, not_whole, packet_length, whole_form, whole_packet}

-- ---- what is known where a packet begins

-- the last position of a capture, 0 of none
abbrev pub last_of : List ℕ → ℕ
last_of [] = 0
last_of (p ∷ ps) = p

-- The tally between two packets is what the report knows there.
pub record Knows (t : Tally) (k : Known) : Type 0 where
  pub came : t.came ≡ 0
  pub offset : t.begins ≡ k.offset
  pub captures : t.captures ≡ k.captures
  pub heard : t.heard ≡ length k.accepted
  pub position : t.position ≡ last_of k.accepted
  pub allowed : t.position ≤ last
  pub stepped : Stepped k.accepted

-- the line of the open capture
line_by : (h : Head) (captures : ℕ) (accepted : List ℕ) (t : Tally) → t.captures ≡ captures → t.heard ≡ length accepted
    → t.position ≡ last_of accepted → Stepped accepted → ended_now h t ≡ line_of h captures accepted
line_by h captures [] t c n p stepped = rw n
line_by h captures (q ∷ qs) t c n p stepped =
    let missed : missed_of (length (q ∷ qs)) q ≡ missed_among (q ∷ qs) = omega (arith, stepped_adds_up q qs stepped) in
    rw (n, c, p, ne_eqb (suc (length qs)) 0 (λ e. omega arith), missed)

pub ended_same : (h : Head) (t : Tally) (k : Known) → Knows t k → ended_now h t ≡ ended h k
ended_same h t k m = line_by h k.captures k.accepted t m.captures m.heard m.position m.stepped

-- ---- a packet that is cut off, or has no listed header

header_kept : (t : Tally) (b : ℕ) → 2 ≤ t.came → (taking_byte t b).header ≡ t.header
unfolding taking_byte
header_kept t b some = rw (ne_eqb t.came 0 (λ e. omega arith), ne_eqb t.came (0 + 1) (λ e. omega arith))

one_more : (t : Tally) (b : ℕ) → (taking_byte t b).came ≡ t.came + 1
unfolding taking_byte
one_more t b = refl

-- the lines of a packet that is refused
abbrev pub refused_at : Head → Tally → ℕ → List Line
refused_at h t code = ended_now h t ++ refusal_line code t.begins ∷ []

refused_taking : (h : Head) (t : Tally) (b code : ℕ) → refused_at h (taking_byte t b) code ≡ refused_at h t code
unfolding taking_byte
refused_taking h t b code = refl

-- the input ends within a packet
coming_within : (h : Head) (t : Tally) → 0 < t.came → coming_by h t [] ≡ refused_at h t 30
unfolding coming_by
coming_within h t some = rw (ne_eqb t.came 0 (λ e. omega arith))

-- two bytes and more of a listed header, and the input ends before the packet does
coming_cut : (bs : List ℕ) (h : Head) (t : Tally) → 2 ≤ t.came → listed_form (form_coming t) ≡ true
    → t.came + length bs < total_of (form_coming t) → coming_by h t bs ≡ refused_at h t 30
coming_cut [] h t some ok short = coming_within h t (omega arith)
coming_cut (b ∷ bs) h t some ok short =
    let u : Tally = taking_byte t b in
    let more : u.came ≡ t.came + 1 = one_more t b in
    let form : form_coming u ≡ form_coming t = ap form_with_header (header_kept t b some) in
    let named : listed_form (form_coming u) ≡ true = ap listed_form form ∙ ok in
    coming_wait h t b bs (heard_waits (form_in h) u (omega (arith, more)) named (omega (arith, more, ap total_of form)))
    ∙ coming_cut bs h u (omega (arith, more)) named (omega (arith, more, ap total_of form))
    ∙ refused_taking h t b 30

-- a byte with which a packet is refused
coming_refused : (h : Head) (t : Tally) (b : ℕ) (bs : List ℕ) (code : ℕ) → heard_code (form_in h) (taking_byte t b) ≡ code → 1 < code
    → coming_by h t (b ∷ bs) ≡ refused_at h t code
coming_refused h t b bs code is some =
    let f : Form = form_in h in
    let u : Tally = taking_byte t b in
    let no : eqb code 0 ≡ false = ne_eqb code 0 (λ e. omega arith) in
    let other : eqb code 1 ≡ false = ne_eqb code 1 (λ e. omega arith) in
    let came : settled 1 f u ≡ record { at = 1; code = code; tally = u } = settled_by 1 f u is refl ∙ rw (no, other) in
    coming_due h t b bs (ap (λ (r : Reach). eqb r.code 0) came ∙ no)
    ∙ ap (λ (r : Reach). heard_lines h r ++ if_one r.code (coming_by h (accepting u) bs)) came
    ∙ rw other (append-nil (refused_at h u code))
    ∙ refused_taking h t b code

-- no whole packet begins with the bytes
abbrev pub NoPacket : List ℕ → Type 0
NoPacket rest = listed_form (form_at rest) ≡ true → total_of (form_at rest) ≤ length rest → ⊥

-- the first two bytes of a packet
module _ (t : Tally) (none : t.came ≡ 0) where
  abbrev starts : Tally
  starts = tallied t 0 t.header t.number

  pub start_is : t ≡ starts
  start_is = ap (λ (k : ℕ). tallied t k t.header t.number) none

  first_byte : (a : ℕ) → taking_byte t a ≡ tallied t 1 (a % 256) t.number
  unfolding taking_byte
  first_byte a = ap (λ (u : Tally). taking_byte u a) start_is

  second_byte : (a b : ℕ) → taking_byte (tallied t 1 (a % 256) t.number) b ≡ tallied t 2 (low_high a b) t.number
  unfolding taking_byte
  second_byte a b = ap (λ (x : ℕ). tallied t 2 x t.number) (low_again a b)

  pub first_coming : (h : Head) (a : ℕ) (bs : List ℕ) → coming_by h t (a ∷ bs) ≡ coming_by h (tallied t 1 (a % 256) t.number) bs
  first_coming h a bs =
      let f : Form = form_in h in
      let short = heard_by f (tallied t 1 (a % 256) t.number) refl refl refl refl refl refl in
      let waits : heard_code f (taking_byte t a) ≡ 0 = ap (heard_code f) (first_byte a) ∙ short in
      coming_wait h t a bs waits ∙ ap (λ (x : Tally). coming_by h x bs) (first_byte a)

  -- no whole packet is there
  pub coming_no_packet : (h : Head) (a : ℕ) (bs : List ℕ) → all_bytes (a ∷ bs) → NoPacket (a ∷ bs) → coming_by h t (a ∷ bs) ≡ refused_at h t 30
  coming_no_packet h a [] small no_packet = first_coming h a [] ∙ coming_within h (tallied t 1 (a % 256) t.number) (omega arith)
  coming_no_packet h a (b ∷ bs) small no_packet = first_coming h a (b ∷ bs) ∙ by (listed_form (form_at rest)) refl
    where
      rest : List ℕ
      rest = a ∷ b ∷ bs

      f : Form
      f = form_in h

      u : Tally
      u = tallied t 1 (a % 256) t.number

      v : Tally
      v = tallied t 2 (low_high a b) t.number

      after : taking_byte u b ≡ v
      after = second_byte a b

      header : low_high a b ≡ field 0 2 rest
      header = omega (arith, small.0, small.1.0)

      form : form_coming v ≡ form_at rest
      form = ap form_with_header header

      by : (l : Bool) → listed_form (form_at rest) ≡ l → coming_by h u (b ∷ bs) ≡ refused_at h t 30
      by true e =
          let named : listed_form (form_coming v) ≡ true = ap listed_form form ∙ e in
          let least = total_least (form_at rest) e in
          let total : ℕ = total_of (form_at rest) in
          let short : length rest < total = elim (dec_lt (length rest) total) [ yes s ↦ s | no s ↦ absurd (no_packet e (omega arith)) ] in
          let waits = heard_waits f v (omega arith) named (omega (arith, least, ap total_of form)) in
          coming_wait h u b bs (ap (heard_code f) after ∙ waits)
          ∙ ap (λ (x : Tally). coming_by h x bs) after
          ∙ coming_cut bs h v (omega arith) named (omega (arith, short, ap total_of form))
      by false e =
          let unnamed : listed_form (form_coming v) ≡ false = ap listed_form form ∙ e in
          coming_refused h u b bs 30 (ap (heard_code f) after ∙ heard_by f v refl unnamed refl refl refl refl) (omega arith)

-- ---- a whole packet

-- all bytes of a packet of n bytes
reach_of : (f : Form) (t : Tally) (rest : List ℕ) (n header number : ℕ) → t.came ≡ 0 → 5 ≤ n → n ≤ length rest
    → low_high (get_or rest 0 0) (get_or rest 1 0) ≡ header → low_high (get_or rest 2 0) (get_or rest 3 0) ≡ number
    → listed_form (form_with_header header) ≡ true → n ≡ total_of (form_with_header header)
    → reaching 0 f t rest ≡ goes_on f (settled n f (tallied t n header number)) (drop n rest)
reach_of f t rest n header number none least room two four ok total =
    let k : ℕ = n - 5 in
    let b0 : ℕ = get_or rest 0 0 in
    let b1 : ℕ = get_or rest 1 0 in
    let b2 : ℕ = get_or rest 2 0 in
    let b3 : ℕ = get_or rest 3 0 in
    let xs : List ℕ = take k (drop 4 rest) in
    let z : ℕ = get_or rest (0 + 4 + k) 0 in
    let counted : length xs ≡ k = length-take-le k (drop 4 rest) (simp length-drop (omega arith)) in
    let form : form_with_header (low_high b0 b1) ≡ form_with_header header = ap form_with_header two in
    let size : length xs + 5 ≡ n = omega (arith, counted) in
    let end : 0 + (k + 5) ≡ n = omega arith in
    let count : 0 + (length xs + 5) ≡ n = omega (arith, size) in
    let all : rest ≡ b0 ∷ b1 ∷ b2 ∷ b3 ∷ (xs ++ z ∷ drop n rest)
    = packet_parts rest 0 k (omega arith) ∙ ap (λ (i : ℕ). b0 ∷ b1 ∷ b2 ∷ b3 ∷ (xs ++ z ∷ drop i rest)) end in
    let long : length xs + 5 ≡ total_of (form_with_header (low_high b0 b1)) = size ∙ total ∙ ap total_of (sym form) in
    ap (reaching 0 f t) all
    ∙ reach_whole 0 f t b0 b1 b2 b3 xs z (drop n rest) none (ap listed_form form ∙ ok) long
    ∙ ap (λ (i : ℕ). goes_on f (settled i f (tallied t (length xs + 5) (low_high b0 b1) (low_high b2 b3))) (drop n rest)) count
    ∙ ap (λ (i : ℕ). goes_on f (settled n f (tallied t i (low_high b0 b1) (low_high b2 b3))) (drop n rest)) size
    ∙ ap (λ (i : ℕ). goes_on f (settled n f (tallied t n i (low_high b2 b3))) (drop n rest)) two
    ∙ ap (λ (i : ℕ). goes_on f (settled n f (tallied t n header i)) (drop n rest)) four

-- The lines from a whole packet on, with w the tally after its n bytes: by its code.
module _ (h : Head) (t w : Tally) (rest : List ℕ) (n : ℕ)
    (reach : reaching 0 (form_in h) t rest ≡ goes_on (form_in h) (settled n (form_in h) w) (drop n rest)) (room : n ≤ length rest) where
  abbrev own : Form
  own = form_in h

  -- what the packet came to is what is reached, or goes on
  settled_reach : {r : Reach} → settled n own w ≡ r → reaching 0 own t rest ≡ goes_on own r (drop n rest)
  settled_reach came = reach ∙ ap (λ (x : Reach). goes_on own x (drop n rest)) came

  -- refused
  pub whole_refused : (code : ℕ) → heard_code own w ≡ code → 1 < code → coming_by h t rest ≡ refused_at h w code
  unfolding goes_on
  whole_refused code is some =
      let no : eqb code 0 ≡ false = ne_eqb code 0 (λ e. omega arith) in
      let other : eqb code 1 ≡ false = ne_eqb code 1 (λ e. omega arith) in
      let came : settled n own w ≡ record { at = n; code = code; tally = w } = settled_by n own w is refl ∙ rw (no, other) in
      let there : reaching 0 own t rest ≡ record { at = n; code = code; tally = w } = settled_reach came ∙ rw no in
      coming_reach rest 0 h t
      ∙ ap (λ (r : Reach). after_reach h 0 r rest) there
      ∙ rw (no, other) (append-nil (refused_at h w code))

  -- accepted: where the number is 0, the open capture ends
  abbrev later : List Line
  later = coming_by h (accepting w) (drop n rest)

  pub whole_accepted : heard_code own w ≡ 1 → coming_by h t rest ≡ pick (eqb w.number 0) (ended_now h w) [] ++ later
  unfolding goes_on
  whole_accepted is = by (closes w) refl
    where
      no_line : (zero' silent' : Bool) → eqb w.number 0 ≡ zero' → eqb w.heard 0 ≡ silent' → closes w ≡ false
          → pick (eqb w.number 0) (ended_now h w) [] ≡ []
      no_line false s p q c = rw p
      no_line true true p q c = rw (p, q)
      no_line true false p q c = absurd (true_not_false (rw (p, q) at c))

      by : (close : Bool) → closes w ≡ close → coming_by h t rest ≡ pick (eqb w.number 0) (ended_now h w) [] ++ later
      by true e =
          let there : reaching 0 own t rest ≡ record { at = n; code = 1; tally = w } = settled_reach (settled_by n own w is e) in
          let zero' : eqb w.number 0 ≡ true = and_left (eqb w.number 0) (not (eqb w.heard 0)) e in
          let from : n - 0 ≡ n = omega arith in
          coming_reach rest 0 h t
          ∙ ap (λ (r : Reach). after_reach h 0 r rest) there
          ∙ ap (λ (ls : List Line). ls ++ coming_by h (accepting w) (drop (n - 0) rest)) (append-nil (ended_now h w))
          ∙ ap (λ (i : ℕ). ended_now h w ++ coming_by h (accepting w) (drop i rest)) from
          ∙ ap (λ (b : Bool). pick b (ended_now h w) [] ++ later) (sym zero')
      by false e =
          let next : Reach = reaching n own (accepting w) (drop n rest) in
          let there : reaching 0 own t rest ≡ next = settled_reach (settled_by n own w is e) in
          let ahead : n ≤ next.at = reach_from (drop n rest) n own (accepting w) in
          let count : next.at - 0 ≡ n + (next.at - n) = omega (arith, ahead) in
          let left : drop (next.at - 0) rest ≡ drop (next.at - n) (drop n rest)
          = ap (λ (i : ℕ). drop i rest) count ∙ sym (drop-drop (next.at - n) n rest) in
          coming_reach rest 0 h t
          ∙ ap (λ (r : Reach). after_reach h 0 r rest) there
          ∙ ap (λ (l : List ℕ). by_reach h next (end_lines h next.tally) (coming_by h (accepting next.tally) l)) left
          ∙ sym (coming_reach (drop n rest) n h (accepting w))
          ∙ ap (λ (ls : List Line). ls ++ later) (sym (no_line (eqb w.number 0) (eqb w.heard 0) refl refl e))

-- ---- the packet's code

-- the packet reader of the report, and the tally
record Reads (h : Head) (t : Tally) (r : Reader) : Type 0 where
  sounds : sound r ≡ true
  quiet : not r.heard ≡ eqb t.heard 0
  position : r.position ≡ t.position
  form : eqb t.heard 0 ≡ false → r.form ≡ form_in h

reads_by : (h : Head) (accepted : List ℕ) (t : Tally) → listed_form (form_in h) ≡ true → t.heard ≡ length accepted
    → t.position ≡ last_of accepted → t.position ≤ last → Stepped accepted → Reads h t (reader_after h accepted)
reads_by h [] t ok n p near stepped =
    record {
      sounds = silent_sound (channels_in h) (is_count_lem h);
      quiet = rw n;
      position = sym p;
      form = λ e. absurd (true_not_false (rw n at e));
    }
reads_by h (q ∷ qs) t ok n p near stepped =
    let given = steps_give q (missed_among (q ∷ qs)) in
    record {
      sounds =
          heard_sound (reader_after h (q ∷ qs)) (is_count_lem h) refl
          (and_both (leb q last) given (le-leb q last (omega arith)) (stepped_given q qs stepped)) ok;
      quiet = rw n (sym (ne_eqb (suc (length qs)) 0 (λ e. omega arith)));
      position = sym p;
      form = λ e. refl;
    }

-- a field of two bytes
two_bytes : (rest : List ℕ) → all_bytes rest → (at : ℕ) → low_high (get_or rest at 0) (get_or rest (at + 1) 0) ≡ field at 2 rest
two_bytes rest small at = omega (arith, field_two rest at, byte_at rest small at, byte_at rest small (at + 1))

-- a field within the packet's first bytes
field_in_packet : (n at : ℕ) (rest : List ℕ) → at + 2 ≤ n → field at 2 (take n rest) ≡ field at 2 rest
field_in_packet n at rest h =
    field_two (take n rest) at
    ∙ ap (λ (x : ℕ). x + 256 * get_or (take n rest) (at + 1) 0) (get_or-take n rest at 0 (omega arith))
    ∙ ap (λ (x : ℕ). get_or rest at 0 + 256 * x) (get_or-take n rest (at + 1) 0 (omega arith))
    ∙ sym (field_two rest at)

-- the two orders of checking agree: what the reader checks of a form is settled by the head's
abbrev checked_by : Bool → Bool → Bool → Bool → Bool → Bool → ℕ
checked_by whole same snd lone other past =
    first_of (check 30 (not whole) ∷ check 32 (not same) ∷ [])
    (first_of (check 21 (not snd) ∷ check 30 (not whole) ∷ check 31 lone ∷ check 32 other ∷ check 33 past ∷ []) 1)

codes_agree : (same zero' quiet other past : Bool) → (quiet ≡ false → other ≡ same)
    → checked_by true same true (not zero' && quiet) (not zero' && not other) past ≡ code_by false true false same (not zero' && quiet) past
codes_agree false zero' quiet other past e = refl
codes_agree true true quiet other past e = refl
codes_agree true false true other past e = refl
codes_agree true false false other past e = rw (e refl)

packet_code_by : (h : Head) (k : Known) (packet : List ℕ) {whole same snd lone other past : Bool}
    → (let r = reader_after h k.accepted in let first = eqb (number_in packet) 0 in
    is_packet packet ≡ whole
    → same_form (whole_of packet) (form_in h) ≡ same
    → sound r ≡ snd
    → (not first && not r.heard) ≡ lone
    → (not first && not (same_form (whole_of packet) r.form)) ≡ other
    → ltb last (position_after r (number_in packet)) ≡ past
    → packet_code h k packet ≡ checked_by whole same snd lone other past)
unfolding packet_code reading_code
packet_code_by h k packet a b c d e f = cc

module _ (h : Head) (t : Tally) (k : Known) (m : Knows t k) (own : listed_form (form_in h) ≡ true)
    (rest : List ℕ) (small : all_bytes rest) (ok : listed_form (form_at rest) ≡ true) (room : total_of (form_at rest) ≤ length rest) where
  abbrev packet : List ℕ
  packet = packet_in rest

  abbrev total : ℕ
  total = total_of (form_at rest)

  abbrev number : ℕ
  number = field 2 2 rest

  abbrev w : Tally
  w = tallied t total (field 0 2 rest) number

  pub number_same : number_in packet ≡ number
  number_same =
      let same = field_in_packet total 2 rest (omega (arith, total_least (form_at rest) ok)) in
      omega (arith, same, two_bytes rest small 2)

  abbrev r : Reader
  r = reader_after h k.accepted

  reader : Reads h t r
  reader = reads_by h k.accepted t own m.heard m.position m.allowed m.stepped

  pub position_same : position_after r (number_in packet) ≡ position_now w
  position_same =
      ap (position_after r) number_same
      ∙ ap (λ (p : ℕ). pick (eqb number 0) 0 (p + step_of (number_at p) number)) reader.position

  lone : (not (eqb (number_in packet) 0) && not r.heard) ≡ lacks_first w
  lone =
      ap (λ (n : ℕ). not (eqb n 0) && not r.heard) number_same
      ∙ ap (λ (b : Bool). not (eqb number 0) && b) reader.quiet

  pub code_same : packet_code h k packet ≡ heard_code (form_in h) w
  code_same =
      let f : Form = form_in h in
      let zero' : Bool = eqb number 0 in
      let quiet : Bool = eqb t.heard 0 in
      let other : Bool = same_form (form_at rest) r.form in
      let past : Bool = ltb last (position_now w) in
      let form = whole_form rest ok room in
      let changed : (not (eqb (number_in packet) 0) && not (same_form (whole_of packet) r.form)) ≡ (not zero' && not other)
      = ap (λ (n : ℕ). not (eqb n 0) && not (same_form (whole_of packet) r.form)) number_same
      ∙ ap (λ (x : Form). not zero' && not (same_form x r.form)) form in
      let same = ap (λ (x : Form). same_form x f) form in
      let more : ltb total 2 ≡ false = le-ltb total 2 (omega (arith, total_least (form_at rest) ok)) in
      packet_code_by h k packet (whole_packet rest ok room) same reader.sounds lone changed (ap (ltb last) position_same)
      ∙ codes_agree (same_form (form_at rest) f) zero' quiet other past (λ e. ap (same_form (form_at rest)) (reader.form e))
      ∙ sym (heard_by f w more ok (le-ltb total total (omega arith)) refl refl refl)

  -- what is known after the accepted packet
  pub knows_after : heard_code (form_in h) w ≡ 1 → Knows (accepting w) (known_after h k packet)
  unfolding accepting
  knows_after one =
      record {
        came = refl;
        offset = omega (arith, m.offset, packet_length rest ok room);
        captures =
            ap (λ (c : ℕ). pick (eqb number 0) (c + 1) c) m.captures
            ∙ ap (λ (x : ℕ). pick (eqb x 0) (k.captures + 1) k.captures) (sym number_same);
        heard =
            ap (λ (c : ℕ). pick (eqb number 0) 1 (c + 1)) m.heard
            ∙ counts (eqb number 0) k.accepted
            ∙ ap (λ (x : ℕ). suc (length (pick (eqb x 0) [] k.accepted))) (sym number_same);
        position = sym position_same;
        allowed = accepted_fits (form_in h) w one;
        stepped = stepped_after h k.accepted (number_in packet) m.stepped (omega arith) (lone ∙ accepted_open (form_in h) w one);
      }
    where
      counts : (zero' : Bool) (l : List ℕ) → pick zero' 1 (length l + 1) ≡ suc (length (pick zero' [] l))
      counts true l = refl
      counts false l = omega arith

-- ---- to the end of the input

end_same : (h : Head) (t : Tally) (k : Known) → Knows t k → coming_by h t [] ≡ at_end h k
unfolding coming_by
end_same h t k m = rw (m.came, ended_same h t k m, m.captures)

-- the report's lines of the bytes that are left
abbrev pub lines_left : ℕ → Head → Known → List ℕ → List Line
lines_left n h k rest = lines_from h k (packets_in n rest)

-- the same from a packet on, by its code
module _ (n : ℕ) (h : Head) (k : Known) (a : ℕ) (bs : List ℕ) where
  abbrev next : List ℕ
  next = packet_in (a ∷ bs)

  lines_refused : (code : ℕ) → packet_code h k next ≡ code → (code ≡ 1 → ⊥) → lines_left (suc n) h k (a ∷ bs) ≡ at_refusal h k code
  unfolding lines_from packets_in
  lines_refused code is other = rw (is, ne_eqb code 1 other)

  lines_accepted : packet_code h k next ≡ 1
      → lines_left (suc n) h k (a ∷ bs) ≡ at_packet h k next ++ lines_left n h (known_after h k next) (drop (length next) (a ∷ bs))
  unfolding lines_from packets_in
  lines_accepted is = rw is

refused_same : (h : Head) (t : Tally) (k : Known) → Knows t k → (code : ℕ) → refused_at h t code ≡ at_refusal h k code
refused_same h t k m code =
    ap (λ (ls : List Line). ls ++ refusal_line code t.begins ∷ []) (ended_same h t k m)
    ∙ ap (λ (x : ℕ). ended h k ++ refusal_line code x ∷ []) m.offset

-- a whole packet is accepted or refused
whole_some : (same lone past : Bool) → 1 ≤ code_by false true false same lone past
whole_some false lone past = omega arith
whole_some true true past = omega arith
whole_some true false true = omega arith
whole_some true false false = omega arith

-- A packet's begin, where the lines of all that comes later agree already.
abbrev Agrees : ℕ → Head → Type 0
Agrees n h =
    (t : Tally) (k : Known) (left : List ℕ) → length left ≤ n → Knows t k → all_bytes left → coming_by h t left ≡ lines_left n h k left

module _ (n : ℕ) (h : Head) (own : listed_form (form_in h) ≡ true) (t : Tally) (k : Known) (m : Knows t k)
    (a : ℕ) (bs : List ℕ) (few : length (a ∷ bs) ≤ suc n) (small : all_bytes (a ∷ bs)) (later : Agrees n h) where
  abbrev rest : List ℕ
  rest = a ∷ bs

  abbrev f : Form
  f = form_in h

  abbrev AgreesHere : Type 0
  AgreesHere = coming_by h t rest ≡ lines_left (suc n) h k rest

  -- no whole packet
  none_lines : NoPacket rest → AgreesHere
  none_lines no_packet =
      let code = packet_code_by h k (packet_in rest) (not_whole rest no_packet) refl refl refl refl refl in
      coming_no_packet t m.came h a bs small no_packet
      ∙ refused_same h t k m 30
      ∙ sym (lines_refused n h k a bs 30 code (λ e. omega arith))

  -- a whole packet
  module _ (ok : listed_form (form_at rest) ≡ true) (room : total_of (form_at rest) ≤ length rest) where
    abbrev long : ℕ
    long = total_of (form_at rest)

    abbrev first : List ℕ
    first = packet_in rest

    abbrev then' : List ℕ
    then' = drop long rest

    abbrev v : Tally
    v = tallied t long (field 0 2 rest) (field 2 2 rest)

    abbrev next' : Known
    next' = known_after h k first

    least : 388 ≤ long
    least = total_least (form_at rest) ok

    reach : reaching 0 f t rest ≡ goes_on f (settled long f v) then'
    reach =
        reach_of f t rest long (field 0 2 rest) (field 2 2 rest) m.came (omega (arith, least)) room
        (two_bytes rest small 0) (two_bytes rest small 2) ok refl

    code : packet_code h k first ≡ heard_code f v
    code = code_same h t k m own rest small ok room

    accepted_lines : heard_code f v ≡ 1 → AgreesHere
    accepted_lines one =
        let known = knows_after h t k m own rest small ok room one in
        let rest_same : coming_by h (accepting v) then' ≡ lines_left n h next' then'
        = later (accepting v) next' then' (simp length-drop (omega (arith, least))) known (bytes_drop long rest small) in
        let line : pick (eqb (field 2 2 rest) 0) (ended_now h t) [] ≡ at_packet h k first
        = ap (λ (ls : List Line). pick (eqb (field 2 2 rest) 0) ls []) (ended_same h t k m)
        ∙ ap (λ (x : ℕ). pick (eqb x 0) (ended h k) []) (sym (number_same h t k m own rest small ok room)) in
        whole_accepted h t v rest long reach room one
        ∙ ap (λ (ls : List Line). ls ++ coming_by h (accepting v) then') line
        ∙ ap (λ (ls : List Line). at_packet h k first ++ ls) rest_same
        ∙ ap (λ (i : ℕ). at_packet h k first ++ lines_left n h next' (drop i rest)) (sym (packet_length rest ok room))
        ∙ sym (lines_accepted n h k a bs (code ∙ one))

    refused_lines : (heard_code f v ≡ 1 → ⊥) → AgreesHere
    refused_lines other =
        let same : Bool = same_form (form_at rest) f in
        let past : Bool = ltb last (position_now v) in
        let is : heard_code f v ≡ code_by false true false same (lacks_first v) past
        = heard_by f v (le-ltb long 2 (omega (arith, least))) ok (le-ltb long long (omega arith)) refl refl refl in
        let above : 1 < heard_code f v = omega (arith, is, whole_some same (lacks_first v) past, other) in
        whole_refused h t v rest long reach room (heard_code f v) refl above
        ∙ refused_same h t k m (heard_code f v)
        ∙ sym (lines_refused n h k a bs (heard_code f v) code other)

  packet_lines_lem : AgreesHere
  packet_lines_lem = by (listed_form (form_at rest)) refl
    where
      whole : listed_form (form_at rest) ≡ true → total_of (form_at rest) ≤ length rest → AgreesHere
      whole ok room =
          elim (ℕ_discrete (heard_code f (v ok room)) 1) [ yes one ↦ accepted_lines ok room one | no other ↦ refused_lines ok room other ]

      by : (l : Bool) → listed_form (form_at rest) ≡ l → AgreesHere
      by true e = elim (dec_le (total_of (form_at rest)) (length rest)) [ yes r ↦ whole e r | no r ↦ none_lines (λ l q. r q) ]
      by false e = none_lines (λ l q. true_not_false (sym l ∙ e))

pub coming_lines : (n : ℕ) (h : Head) → listed_form (form_in h) ≡ true → (t : Tally) (k : Known) (rest : List ℕ) → length rest ≤ n
    → Knows t k → all_bytes rest → coming_by h t rest ≡ lines_left n h k rest
unfolding lines_from packets_in
coming_lines zero h own t k [] few m small = end_same h t k m
coming_lines zero h own t k (a ∷ bs) few m small = absurd (omega arith)
coming_lines (suc n) h own t k [] few m small = end_same h t k m
coming_lines (suc n) h own t k (a ∷ bs) few m small = packet_lines_lem n h own t k m a bs few small (coming_lines n h own)
