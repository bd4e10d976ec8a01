-- Where the bytes of a piece lead: a byte that waits, samples that are skipped, a whole packet.
use Prim.Native.Nat.{ℕ, suc, ◌+◌, ◌-◌, ◌%◌, ◌≤◌, ◌<◌}
use mathlib.Core.Path.{◌≡◌, refl, sym, ap, ◌∙◌}
use mathlib.Core.Bool.{true, false, ◌&&◌, not}
use mathlib.Core.List.{List, [], ◌∷◌, ◌++◌}
use native.Mathlib.Nat.{add-zero}
use native.Mathlib.Numerals.{add-one}
use native.Mathlib.Omega.{arith}
use lib.Dec.{eqb, leb}
use lib.ListN.{length, get_or, take, drop, length-drop, take-append-drop}
use lib.Seq.{drop-cons, drop-drop, length-take-le}
use borrow.Author.Tests.{ne_eqb, lt-ltb, le-ltb, leb-true}
use Rattle.wire.proofs.Laws.{pick_keeps, and_not_left, and_not_right}
use Rattle.wire.specs.Header.{header_of, type_data}
use Rattle.packets.specs.declared.Form.{Form}
use Rattle.packets.specs.Forms.{same_form, total_of, listed_form, form_with_header}
use Rattle.packets.specs.Numbers.{number_at, step_of, last}
use Rattle.packets.proofs.Forms.{of_listed, same_self, same_is}
use Rattle.hearing.specs.declared.Tally.{Tally}
use Rattle.hearing.specs.Hearing.{Reach}
use Rattle.hearing.specs.Hearing.{low_high, taking_byte, form_coming, position_now, heard_code, accepting, closes, settled, reaching}
use Rattle.hearing.specs.Inside.{goes_on, Follows, Samples, skipped, two_at}
use Rattle.hearing.proofs.Heard.{heard_by, settled_by}

-- ---- one byte

-- what a byte comes to is reached where it ends
pub settled_at : (n : ℕ) (f : Form) (t : Tally) → (settled n f t).at ≡ n
unfolding settled
settled_at n f t =
    pick_keeps (λ (r : Reach). r.at ≡ n) (eqb (heard_code f t) 0) _ _ (λ e. refl)
    (λ e. pick_keeps (λ (r : Reach). r.at ≡ n) (eqb (heard_code f t) 1 && not (closes t)) _ _ (λ d. refl) (λ d. refl))

pub reach_cons : (n : ℕ) (f : Form) (t : Tally) (b : ℕ) (bs : List ℕ)
    → reaching n f t (b ∷ bs) ≡ goes_on f (settled (n + 1) f (taking_byte t b)) bs
unfolding reaching goes_on
reach_cons n f t b bs = rw (settled_at (n + 1) f (taking_byte t b))

pub reach_byte : (f : Form) (t : Tally) (piece : List ℕ) (at : ℕ) → at < length piece
    → goes_on f (settled (at + 1) f (taking_byte t (get_or piece at 0))) (drop (at + 1) piece) ≡ reaching at f t (drop at piece)
reach_byte f t piece at h =
    rw (drop-cons piece at 0 h) (rw (← add-one at) (sym (reach_cons at f t (get_or piece at 0) (drop (at + 1) piece))))

-- a byte after which more is waited for
pub reach_wait : (n : ℕ) (f : Form) (t : Tally) (b : ℕ) (bs : List ℕ) → heard_code f (taking_byte t b) ≡ 0
    → reaching n f t (b ∷ bs) ≡ reaching (n + 1) f (taking_byte t b) bs
unfolding reaching
reach_wait n f t b bs w = rw (settled_by (n + 1) f (taking_byte t b) w refl)

-- the header is listed and the packet not whole
pub heard_waits : (f : Form) (t : Tally) → 2 ≤ t.came → listed_form (form_coming t) ≡ true → t.came < total_of (form_coming t)
    → heard_code f t ≡ 0
heard_waits f t some ok short = heard_by f t (le-ltb _ _ some) ok (lt-ltb _ _ short) refl refl refl

-- ---- samples

pub taking_sample : (t : Tally) (b : ℕ) → 4 ≤ t.came → taking_byte t b ≡ skipped t 1
unfolding taking_byte
taking_sample t b past = rw (other 0 (omega arith), other (0 + 1) (omega arith), other 2 (omega arith), other (2 + 1) (omega arith))
  where
    other : (place : ℕ) → place < 4 → eqb t.came place ≡ false
    other place early = ne_eqb t.came place (λ e. omega arith)

pub reach_skip : (xs ys : List ℕ) (n : ℕ) (f : Form) (t : Tally) → Samples t (length xs)
    → reaching n f t (xs ++ ys) ≡ reaching (n + length xs) f (skipped t (length xs)) ys
reach_skip [] ys n f t s = rw (add-zero n, add-zero t.came)
reach_skip (x ∷ xs) ys n f t s =
    let one : taking_byte t x ≡ skipped t 1 = taking_sample t x s.past in
    let past : 4 ≤ t.came = s.past in
    let short : t.came + suc (length xs) < total_of (form_coming t) = s.short in
    let waits : heard_code f (taking_byte t x) ≡ 0 = rw one (heard_waits f (skipped t 1) (omega arith) s.form (omega arith)) in
    let rest : reaching (n + 1) f (skipped t 1) (xs ++ ys) ≡ reaching (n + 1 + length xs) f (skipped (skipped t 1) (length xs)) ys
    = reach_skip xs ys (n + 1) f (skipped t 1) (record { past = omega arith; form = s.form; short = omega arith }) in
    let count : n + 1 + length xs ≡ n + suc (length xs) = omega arith in
    let bytes : t.came + 1 + length xs ≡ t.came + suc (length xs) = omega arith in
    reach_wait n f t x (xs ++ ys) waits ∙ ap (λ (u : Tally). reaching (n + 1) f u (xs ++ ys)) one ∙ rest ∙ rw (count, bytes)

-- ---- a whole packet

-- a tally with so many bytes of a packet taken
abbrev pub tallied : Tally → ℕ → ℕ → ℕ → Tally
tallied t came header number =
    record {
      begins = t.begins;
      came = came;
      header = header;
      number = number;
      captures = t.captures;
      heard = t.heard;
      position = t.position;
    }

-- of a low byte the last eight bits count, once or twice
pub low_again : (low high : ℕ) → low_high (low % 256) high ≡ low_high low high
low_again low high = omega arith

-- the first four bytes of a packet whose header is listed
pub reach_front : (n : ℕ) (f : Form) (t : Tally) (a b c d : ℕ) (rest : List ℕ) → t.came ≡ 0
    → listed_form (form_with_header (low_high a b)) ≡ true → 4 < total_of (form_with_header (low_high a b))
    → reaching n f t (a ∷ b ∷ c ∷ d ∷ rest) ≡ reaching (n + 4) f (tallied t 4 (low_high a b) (low_high c d)) rest
unfolding taking_byte
reach_front n f t a b c d rest none listed more =
    let none_in : Tally = tallied t 0 t.header t.number in
    let one_in : Tally = tallied t 1 (a % 256) t.number in
    let two_in : Tally = tallied t 2 (low_high (a % 256) b) t.number in
    let three_in : Tally = tallied t 3 (low_high (a % 256) b) (c % 256) in
    let four_in : Tally = tallied t 4 (low_high (a % 256) b) (low_high (c % 256) d) in
    let same_front : four_in ≡ tallied t 4 (low_high a b) (low_high c d) = rw (low_again a b, low_again c d) in
    let ok : listed_form (form_with_header (low_high (a % 256) b)) ≡ true = rw (low_again a b) listed in
    let long : 4 < total_of (form_with_header (low_high (a % 256) b)) = rw (low_again a b) more in
    let start : t ≡ none_in = ap (λ (k : ℕ). tallied t k t.header t.number) none in
    let first : heard_code f (taking_byte none_in a) ≡ 0 = heard_by f one_in refl refl refl refl refl refl in
    let second : heard_code f (taking_byte one_in b) ≡ 0 = heard_waits f two_in (omega arith) ok (omega arith) in
    let third : heard_code f (taking_byte two_in c) ≡ 0 = heard_waits f three_in (omega arith) ok (omega arith) in
    let fourth : heard_code f (taking_byte three_in d) ≡ 0 = heard_waits f four_in (omega arith) ok (omega arith) in
    let count : n + 1 + 1 + 1 + 1 ≡ n + 4 = omega arith in
    ap (λ (u : Tally). reaching n f u (a ∷ b ∷ c ∷ d ∷ rest)) start
    ∙ reach_wait n f none_in a (b ∷ c ∷ d ∷ rest) first
    ∙ reach_wait (n + 1) f one_in b (c ∷ d ∷ rest) second
    ∙ reach_wait (n + 1 + 1) f two_in c (d ∷ rest) third
    ∙ reach_wait (n + 1 + 1 + 1) f three_in d rest fourth
    ∙ ap (λ (k : ℕ). reaching k f four_in rest) count
    ∙ ap (λ (u : Tally). reaching (n + 4) f u rest) same_front

-- all bytes of a packet whose header is listed: the last one decides
pub reach_whole : (n : ℕ) (f : Form) (t : Tally) (a b c d : ℕ) (xs : List ℕ) (z : ℕ) (ys : List ℕ) → t.came ≡ 0
    → listed_form (form_with_header (low_high a b)) ≡ true → length xs + 5 ≡ total_of (form_with_header (low_high a b))
    → reaching n f t (a ∷ b ∷ c ∷ d ∷ (xs ++ z ∷ ys))
    ≡ goes_on f (settled (n + (length xs + 5)) f (tallied t (length xs + 5) (low_high a b) (low_high c d))) ys
reach_whole n f t a b c d xs z ys none ok long =
    let front : Tally = tallied t 4 (low_high a b) (low_high c d) in
    let past : Samples front (length xs) = record { past = omega arith; form = ok; short = omega arith } in
    let before : Tally = skipped front (length xs) in
    let last : taking_byte before z ≡ tallied t (length xs + 5) (low_high a b) (low_high c d)
    = taking_sample before z (omega arith) ∙ ap (λ (k : ℕ). tallied t k (low_high a b) (low_high c d)) (omega arith) in
    let count : n + 4 + length xs + 1 ≡ n + (length xs + 5) = omega arith in
    reach_front n f t a b c d (xs ++ z ∷ ys) none ok (omega arith)
    ∙ reach_skip xs (z ∷ ys) (n + 4) f front past
    ∙ reach_cons (n + 4 + length xs) f before z ys
    ∙ rw (last, count)

-- ---- a whole packet of the head's form in an open capture, which brings no line

drop_next : (p : List ℕ) (i j : ℕ) → i + 1 ≡ j → i < length p → drop i p ≡ get_or p i 0 ∷ drop j p
drop_next p i j e h = drop-cons p i 0 h ∙ ap (λ (k : ℕ). get_or p i 0 ∷ drop k p) (sym (add-one i) ∙ e)

-- the same bytes behind one
behind : (b : ℕ) {xs ys : List ℕ} → xs ≡ ys → b ∷ xs ≡ b ∷ ys
behind b e = ap (λ (l : List ℕ). b ∷ l) e

-- a packet of k + 5 bytes: its first four, k samples' bytes, and its last
pub packet_parts : (p : List ℕ) (at k : ℕ) → at + (k + 5) ≤ length p
    → drop at p
    ≡ get_or p at 0 ∷ get_or p (at + 1) 0 ∷ get_or p (at + 2) 0 ∷ get_or p (at + 3) 0
    ∷ (take k (drop (at + 4) p) ++ get_or p (at + 4 + k) 0 ∷ drop (at + (k + 5)) p)
packet_parts p at k room =
    let one : drop (at + 1) p ≡ get_or p (at + 1) 0 ∷ drop (at + 2) p = drop_next p (at + 1) (at + 2) (omega arith) (omega arith) in
    let two : drop (at + 2) p ≡ get_or p (at + 2) 0 ∷ drop (at + 3) p = drop_next p (at + 2) (at + 3) (omega arith) (omega arith) in
    let three : drop (at + 3) p ≡ get_or p (at + 3) 0 ∷ drop (at + 4) p = drop_next p (at + 3) (at + 4) (omega arith) (omega arith) in
    let last : drop (at + 4 + k) p ≡ get_or p (at + 4 + k) 0 ∷ drop (at + (k + 5)) p
    = drop_next p (at + 4 + k) (at + (k + 5)) (omega arith) (omega arith) in
    let samples : drop (at + 4) p ≡ take k (drop (at + 4) p) ++ (get_or p (at + 4 + k) 0 ∷ drop (at + (k + 5)) p)
    = sym (take-append-drop k (drop (at + 4) p)) ∙ ap (λ (l : List ℕ). take k (drop (at + 4) p) ++ l) (drop-drop k (at + 4) p ∙ last) in
    drop_next p at (at + 1) refl (omega arith) ∙ behind _ (one ∙ behind _ (two ∙ behind _ (three ∙ behind _ samples)))

pub form_with_own : (f : Form) → listed_form f ≡ true → form_with_header (header_of type_data (total_of f)) ≡ f
form_with_own f l = same_is _ _ (of_listed (λ g. same_form (form_with_header (header_of type_data (total_of g))) g) refl f l)

pub total_least : (f : Form) → listed_form f ≡ true → 388 ≤ total_of f
total_least f l = leb-true _ _ (of_listed (λ g. leb 388 (total_of g)) refl f l)

-- the tally after a packet of so many bytes with a number above 0, in the open capture, at a position
abbrev pub followed : Tally → ℕ → ℕ → Tally
followed t total q =
    record {
      begins = t.begins + total;
      came = 0;
      header = 0;
      number = 0;
      captures = t.captures;
      heard = t.heard + 1;
      position = q;
    }

-- such a packet is accepted, and brings no line
module _
    (f : Form) (t : Tally) (ok : listed_form f ≡ true) (form : form_coming t ≡ f) (whole : t.came ≡ total_of f)
    (some : 0 < t.heard) (above : 0 < t.number)
    (q : ℕ) (here : q ≡ t.position + step_of (number_at t.position) t.number) (fits : q ≤ last) where
  numbered : eqb t.number 0 ≡ false
  numbered = ne_eqb t.number 0 (λ e. omega arith)

  goes_to : position_now t ≡ q
  goes_to = rw numbered (sym here)

  pub quiet_code : heard_code f t ≡ 1
  quiet_code =
      heard_by f t (le-ltb t.came 2 (omega (arith, whole, total_least f ok))) (ap listed_form form ∙ ok)
      (le-ltb t.came (total_of (form_coming t)) (omega (arith, whole, ap total_of form)))
      (ap (λ (g : Form). same_form g f) form ∙ same_self f)
      (and_not_right (not (eqb t.number 0)) (eqb t.heard 0) (ne_eqb t.heard 0 (λ e. omega arith)))
      (le-ltb last (position_now t) (omega (arith, goes_to, fits)))

  pub quiet_accepting : accepting t ≡ followed t t.came q
  unfolding accepting
  quiet_accepting = rw (numbered, here)

  pub quiet_settled : (n : ℕ) → settled n f t ≡ record { at = n; code = 0; tally = accepting t }
  quiet_settled n = settled_by n f t quiet_code (and_not_left (eqb t.number 0) (not (eqb t.heard 0)) numbered)

follows_of : (f : Form) (t : Tally) (piece : List ℕ) (at k q : ℕ) → listed_form f ≡ true → t.came ≡ 0 → 0 < t.heard → k + 5 ≡ total_of f
    → Follows piece at (header_of type_data (total_of f)) (k + 5) (number_at t.position) t.position q
    → reaching at f t (drop at piece) ≡ reaching (at + (k + 5)) f (followed t (k + 5) q) (drop (at + (k + 5)) piece)
unfolding goes_on
follows_of f t piece at k q ok none some long x =
    let xs : List ℕ = take k (drop (at + 4) piece) in
    let z : ℕ = get_or piece (at + 4 + k) 0 in
    let ys : List ℕ = drop (at + (k + 5)) piece in
    let counted : length xs ≡ k = length-take-le k (drop (at + 4) piece) (simp length-drop (omega (arith, x.room))) in
    let third : at + 3 ≡ at + 2 + 1 = omega arith in
    let number : low_high (get_or piece (at + 2) 0) (get_or piece (at + 3) 0) ≡ two_at piece (at + 2)
    = ap (λ (i : ℕ). low_high (get_or piece (at + 2) 0) (get_or piece i 0)) third in
    let form : form_with_header (two_at piece at) ≡ f = ap form_with_header x.header ∙ form_with_own f ok in
    let size : length xs + 5 ≡ total_of (form_with_header (two_at piece at)) = omega (arith, counted, long, ap total_of form) in
    let packet : Tally = tallied t (k + 5) (two_at piece at) (two_at piece (at + 2)) in
    ap (reaching at f t) (packet_parts piece at k x.room)
    ∙ reach_whole at f t (get_or piece at 0) (get_or piece (at + 1) 0) (get_or piece (at + 2) 0) (get_or piece (at + 3) 0) xs z ys
    none (ap listed_form form ∙ ok) size
    ∙ rw (counted, number) refl
    ∙ ap (λ (r : Reach). goes_on f r ys) (quiet_settled f packet ok form long some x.above q x.here x.fits (at + (k + 5)))
    ∙ ap (λ (u : Tally). reaching (at + (k + 5)) f u ys) (quiet_accepting f packet ok form long some x.above q x.here x.fits)

pub reach_follows : (f : Form) (t : Tally) (piece : List ℕ) (at total q : ℕ) → listed_form f ≡ true → t.came ≡ 0 → 0 < t.heard
    → total ≡ total_of f
    → Follows piece at (header_of type_data (total_of f)) total (number_at t.position) t.position q
    → reaching at f t (drop at piece) ≡ reaching (at + total) f (followed t total q) (drop (at + total) piece)
reach_follows f t piece at total q ok none some is x =
    let long : total - 5 + 5 ≡ total = omega (arith, is, total_least f ok) in
    rw long at (follows_of f t piece at (total - 5) q ok none some (long ∙ is) (rw (← long) at x))
