-- Laws of the lines that are due.
use Prim.Native.Nat.{ℕ, ◌+◌, ◌*◌, ◌≤◌, ◌<◌}
use mathlib.Core.Path.{◌≡◌, refl, sym, ap, ◌∙◌}
use mathlib.Core.Bool.{Bool, true, false, ◌&&◌}
use mathlib.Core.List.{List, [], ◌∷◌, ◌++◌, append_assoc, append-nil}
use native.Mathlib.Nat.{mul-le-mul}
use native.Mathlib.Omega.{arith}
use lib.ListN.{length, take}
use lib.Seq.{length-take-le}
use lib.Dec.{leb}
use borrow.Author.Tests.{lt-ltb, le-ltb, le-leb, leb-true}
use Rattle.wire.proofs.Laws.{and_left, and_right}
use Rattle.wire.proofs.Stores.{sets_taken}
use Rattle.tuning.specs.Word.{is_clock}
use Rattle.lines.specs.declared.Due.{Due}
use Rattle.lines.specs.Lines.{Line, line_text, text_of}
use Rattle.lines.specs.Inside.{Stored}
use Rattle.lines.specs.Due.{opening_if, capture_if, ending_lines, due_lines, sized, silent_with, telling, telling_of}
use Rattle.lines.proofs.Texts.{stored_after, stored_within}

-- a line alone
pub one_line : {p : ℕ} {a b : List ℕ} {at end : ℕ} (l : Line) → Stored p a at (line_text l) b end → Stored p a at (text_of (l ∷ [])) b end
one_line l x = rw (append-nil (line_text l)) x

pub text_append : (ls ms : List Line) → text_of (ls ++ ms) ≡ text_of ls ++ text_of ms
text_append [] ms = refl
text_append (l ∷ ls) ms = ap (λ (t : List ℕ). line_text l ++ t) (text_append ls ms) ∙ sym (append_assoc (line_text l) (text_of ls) (text_of ms))

-- the three parts, one behind the other
pub due_stored : (d : Due) (a b c e : List ℕ) (first second end : ℕ) → Stored 26 a 0 (text_of (opening_if d.opening)) b first
    → Stored 170 b first (text_of (capture_if d)) c second → Stored 44 c second (text_of (ending_lines d.ending)) e end
    → Stored 240 a 0 (text_of (due_lines d)) e end
due_stored d a b c e first second end x y z =
    rw (text_append (opening_if d.opening) (capture_if d ++ ending_lines d.ending), text_append (capture_if d) (ending_lines d.ending))
    (stored_within 240 (omega arith) (stored_after x (stored_after y z)))

-- ---- the products of a capture's line

pub record Sized (d : Due) : Type 0 where
  pub position : d.position ≤ 3_999_999_999
  pub pairs : d.pairs ≤ 256
  pub divisor : d.divisor ≤ 625
  pub clock : is_clock d.clock ≡ true
  pub heard : d.heard ≤ d.position + 1

pub sized_by : (d : Due) {a b c k e : Bool} → leb d.position 3_999_999_999 ≡ a → leb d.pairs 256 ≡ b → leb d.divisor 625 ≡ c
    → is_clock d.clock ≡ k → leb d.heard (d.position + 1) ≡ e → sized d ≡ a && b && c && k && e
unfolding sized
sized_by d p q r s t = rw (p, q, r, s, t)

pub is_sized : (d : Due) → Sized d → sized d ≡ true
is_sized d s =
    sized_by d (le-leb _ _ s.position) (le-leb _ _ s.pairs) (le-leb _ _ s.divisor) s.clock (le-leb _ _ s.heard)

pub sizes : (d : Due) → sized d ≡ true → Sized d
unfolding sized
sizes d all =
    let a : Bool = leb d.position 3_999_999_999 in
    let b : Bool = leb d.pairs 256 in
    let c : Bool = leb d.divisor 625 in
    let k : Bool = is_clock d.clock in
    let e : Bool = leb d.heard (d.position + 1) in
    let abck = and_left (a && b && c && k) e all in
    let abc = and_left (a && b && c) k abck in
    let ab = and_left (a && b) c abc in
    record {
      position = leb-true _ _ (and_left a b ab);
      pairs = leb-true _ _ (and_right a b ab);
      divisor = leb-true _ _ (and_right (a && b) c abc);
      clock = and_right (a && b && c) k abck;
      heard = leb-true _ _ (and_right (a && b && c && k) e all);
    }

pub samples_fit : (positions pairs : ℕ) → positions ≤ 4_000_000_000 → pairs ≤ 256 → positions * pairs ≤ 1_024_000_000_000
samples_fit positions pairs p q = mul-le-mul p q

pub time_fits : (samples d : ℕ) → samples ≤ 1_024_000_000_000 → d ≤ 625 → samples * d ≤ 640_000_000_000_000
time_fits samples d p q = mul-le-mul p q

-- ---- writing what is due

pub text_there : (n : ℕ) (b : List ℕ) → n ≤ length b → n ≡ length (take n b)
text_there n b h = sym (length-take-le n b h)

-- the stored text, taken back from the start of the buffer
pub taken_back : {p : ℕ} (z text b : List ℕ) (n : ℕ) → Stored p z 0 text b n → p ≤ length z → take n b ≡ text
taken_back z text b n x room =
    let long : n ≡ length text = omega (arith, x.ends) in
    rw (x.stored, long) (sets_taken z 0 text (omega (arith, x.short)))

pub telling_short : (text : List ℕ) (room n : ℕ) → n ≡ 0 + length text → room < n → telling text room ≡ silent_with 20
telling_short text room n is short = rw (lt-ltb room (length text) (omega arith))

pub telling_whole : (text : List ℕ) (room n : ℕ) → n ≡ 0 + length text → n ≤ room
    → telling text room ≡ record { answer = record { code = 1; wrote = n }; bytes = text }
telling_whole text room n is long =
    let same : length text ≡ n = omega arith in
    rw (le-ltb room (length text) (omega arith), same)

-- the tests of `tell`, and what it answers then
pub telling_refused : (d : Due) (room : ℕ) → sized d ≡ false → telling_of d room ≡ silent_with 16
unfolding telling_of
telling_refused d room e = rw e

pub telling_sized : (d : Due) (room : ℕ) → sized d ≡ true → telling_of d room ≡ telling (text_of (due_lines d)) room
unfolding telling_of
telling_sized d room e = rw e
