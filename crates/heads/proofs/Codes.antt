-- The codes of writing, reading and moving a head, from what its tests came to; and the stores of its fields.
use Prim.Native.Nat.{ℕ, ◌/◌, ◌%◌, ◌≤◌, ◌<◌}
use mathlib.Core.Path.{◌≡◌, refl, sym, ap, ◌∙◌}
use mathlib.Core.Bool.{Bool, true, false, ◌&&◌, not}
use mathlib.Core.List.{List, [], ◌∷◌, ◌++◌}
use Rattle.std.proofs.Common.{Result, Ok, Err}
use native.Mathlib.Omega.{arith}
use lib.Dec.{eqb, ltb}
use lib.ListN.{length}
use lib.Seq.{sets, length-sets}
use borrow.Author.Tests.{eqb-true, eq-eqb, ne_eqb}
use borrow.Rule.Slice.PartMut.{mid_of, put_mid}
use Rattle.wire.specs.Choice.{pick, check, first_of}
use Rattle.wire.specs.Codes.{others_write}
use Rattle.wire.specs.Number.{number, bytes, field}
use Rattle.wire.specs.Refusal.{refusal_code, code_of}
use Rattle.wire.specs.declared.refusal.Refusal.{Refusal}
use Rattle.wire.proofs.Refusals.{done_no_refusal}
use Rattle.wire.specs.declared.refusal.Refusal.TheVariants.{BadHeader, TooLong, NotListed, NotOffered, WrongLength, ChannelNotAllowed}
use Rattle.wire.specs.declared.refusal.Refusal.TheVariants.{ValueNotAllowed, NotWhileRunning, NoRoom, Broken, WhileIdle, WrongCount}
use Rattle.wire.specs.declared.refusal.Refusal.TheVariants.{NotASample, CaptureFull, NotASerial, NotAReply, NotAPacket, NoFirstPacket}
use Rattle.wire.specs.declared.refusal.Refusal.TheVariants.{FormChanged, PastLast, NotAHead, OtherVersion, WouldLose}
use Rattle.wire.proofs.Checks.{differ, not_given, first_stops, first_goes_on}
use Rattle.wire.proofs.Laws.{never, pick_keeps}
use Rattle.wire.proofs.Stores.{sets_then, part_whole}
use Rattle.rates.specs.Rate.{is_d}
use Rattle.tuning.specs.Bands.{in_bands}
use Rattle.tuning.specs.Word.{is_clock}
use Rattle.packets.specs.Forms.{listed_form}
use Rattle.heads.specs.declared.Head.{Head}
use Rattle.heads.specs.Head.{mark, is_head_version, fields_of, field_bytes, head_bytes, head_length, head_length_in, version_in, head_in}
use Rattle.heads.specs.Head.{form_in, head_serial, bare, naming_ok, allowed_head}
use Rattle.heads.specs.Head.{head_write_code, head_read_checks, head_read_code, HeadReading, opened_says, head_reading_of}
use Rattle.heads.specs.Moving.{loses, moved_to, moved_checks, moving_checks, moving_code, moved_bytes, move_writes}
use Rattle.heads.specs.Inside.{first_allowed, put_code, put_bytes}

-- with a refusal nothing is written
none_with : {A : Type 0} (r : Refusal) (due : List A) → others_write (refusal_code r) due ≡ []
none_with BadHeader due = refl
none_with TooLong due = refl
none_with NotListed due = refl
none_with NotOffered due = refl
none_with WrongLength due = refl
none_with ChannelNotAllowed due = refl
none_with ValueNotAllowed due = refl
none_with NotWhileRunning due = refl
none_with NoRoom due = refl
none_with Broken due = refl
none_with WhileIdle due = refl
none_with WrongCount due = refl
none_with NotASample due = refl
none_with CaptureFull due = refl
none_with NotASerial due = refl
none_with NotAReply due = refl
none_with NotAPacket due = refl
none_with NoFirstPacket due = refl
none_with FormChanged due = refl
none_with PastLast due = refl
none_with NotAHead due = refl
none_with OtherVersion due = refl
none_with WouldLose due = refl

-- heads of the same values
pub head_by : {v w d e f g m n z y a b c k : ℕ} → v ≡ w → d ≡ e → f ≡ g → m ≡ n → z ≡ y → a ≡ b → c ≡ k
    → ◌≡◌ {A = Head} (record { version = v; divisor = d; frequency = f; mode = m; size = z; serial = a; clock = c })
    (record { version = w; divisor = e; frequency = g; mode = n; size = y; serial = b; clock = k })
head_by p q r s t u x = cc

pub allowed_by : (h : Head) {v d b f n : Bool} → is_head_version h.version ≡ v → is_d h.divisor ≡ d → in_bands h.frequency ≡ b
    → listed_form (form_in h) ≡ f → naming_ok h ≡ n → allowed_head h ≡ v && d && b && f && n
unfolding allowed_head
allowed_by h p q r s t = cc

-- the values of a head: those that both versions have, and serial and clock
pub allowed_in_two : (h : Head) {a b : Bool} → first_allowed h.version h.divisor h.frequency h.mode h.size ≡ a
    → naming_ok h ≡ b → allowed_head h ≡ a && b
unfolding allowed_head
allowed_in_two h p q = cc

-- serial and clock, by the version
pub naming_new : (h : Head) → h.version ≡ 2 → naming_ok h ≡ head_serial h.serial && is_clock h.clock
naming_new h is = rw (eq-eqb h.version 2 is)

pub naming_old : (h : Head) → (h.version ≡ 2 → ⊥) → naming_ok h ≡ bare h
naming_old h other = rw (ne_eqb h.version 2 other)

-- in bytes that are not of version 2 they are what they have to be
pub named_old : (s : List ℕ) → (version_in s ≡ 2 → ⊥) → naming_ok (head_in s) ≡ true
named_old s other = rw (ne_eqb (version_in s) 2 other)

pub named_new : (s : List ℕ) {serial clock : ℕ} → version_in s ≡ 2 → serial ≡ field 14 8 s → clock ≡ field 22 4 s
    → naming_ok (head_in s) ≡ head_serial serial && is_clock clock
named_new s two p q = rw (eq-eqb (version_in s) 2 two, p, q)

pub write_by : (h : Head) (room : ℕ) {ok short : Bool} → allowed_head h ≡ ok → ltb room (head_length h.version) ≡ short
    → head_write_code h room ≡ first_of (check 16 (not ok) ∷ check 20 short ∷ []) 1
unfolding head_write_code
write_by h room a r = cc

abbrev pub code_by : Bool → Bool → Bool → Bool → Bool → ℕ
code_by short marked known cut ok =
    first_of (check 40 short ∷ check 40 (not marked) ∷ check 41 (not known) ∷ check 40 cut ∷ check 40 (not ok) ∷ []) 1

pub code_by_lem : (s : List ℕ) {short marked known cut ok : Bool} → ltb (length s) 14 ≡ short → eqb (field 0 3 s) (number mark) ≡ marked
    → is_head_version (version_in s) ≡ known → ltb (length s) (head_length_in s) ≡ cut → allowed_head (head_in s) ≡ ok
    → head_read_code s ≡ code_by short marked known cut ok
unfolding head_read_code
code_by_lem s p q r t u = cc

-- a code of reading, and the head where the code is 1
pub reading_by : (s : List ℕ) {n : ℕ} → head_read_code s ≡ n
    → head_reading_of s ≡ record { code = n; heads = pick (eqb n 1) (head_in s ∷ []) [] }
unfolding head_reading_of
reading_by s e = ap (λ (n : ℕ). record { code = n; heads = pick (eqb n 1) (head_in s ∷ []) [] }) e

-- what reading answers: its number is the code
pub code_said : (o : Result Head Refusal) (s : List ℕ) → opened_says o ≡ head_reading_of s → (opened_says o).code ≡ head_read_code s
unfolding head_reading_of
code_said o s e = ap (λ (r : HeadReading). r.code) e

pub said_code : (o : Result Head Refusal) → code_of o ≡ (opened_says o).code
said_code (Ok h) = refl
said_code (Err r) = refl

-- and its head the one that stands there
pub head_said : (h : Head) (s : List ℕ) → opened_says (Ok h) ≡ head_reading_of s → head_in s ≡ h
head_said h s e = sym (ap (λ (r : HeadReading). first_or (head_in s) r.heads) (e ∙ reading_by s (sym (code_said (Ok h) s e))))
  where
    first_or : Head → List Head → Head
    first_or d [] = d
    first_or d (x ∷ xs) = x

pub put_by : (v : ℕ) (h : Head) (room : ℕ) {lost short : Bool} → loses v h ≡ lost → ltb room (head_length v) ≡ short
    → put_code v h room ≡ first_of (check 42 lost ∷ check 20 short ∷ []) 1
unfolding put_code
put_by v h room p q = cc

-- bytes that are not read as a head do not move
pub moving_stops : (v : ℕ) (s : List ℕ) (room : ℕ) → (head_read_code s ≡ 1 → ⊥) → moving_code v s room ≡ head_read_code s
unfolding moving_code head_read_code
moving_stops v s room h = first_stops (head_read_checks s) (moved_checks v (head_in s) room) 1 h

-- those that are, move as their head does
pub moving_goes : (v : ℕ) (s : List ℕ) (room : ℕ) → head_read_code s ≡ 1 → moving_code v s room ≡ put_code v (head_in s) room
unfolding moving_code head_read_code put_code
moving_goes v s room h = first_goes_on (head_read_checks s) (moved_checks v (head_in s) room) 1 refl h

-- the same of what is written
module _ (v : ℕ) (s : List ℕ) (room : ℕ) where
  pub moves_as : (h : Head) → head_read_code s ≡ 1 → head_in s ≡ h
      → (moving_code v s room ≡ put_code v h room) × (move_writes v s room ≡ put_bytes v h room)
  moves_as h read is =
      let code = moving_goes v s room read ∙ ap (λ (x : Head). put_code v x room) is in
      let bytes' = ap (λ (x : Head). others_write (put_code v h room) (head_bytes (moved_to v x))) is in
      (code, ap (λ (n : ℕ). others_write n (moved_bytes v s)) code ∙ bytes')

  -- and where they are refused nothing is
  pub stays : (r : Refusal) → refusal_code r ≡ head_read_code s → (moving_code v s room ≡ refusal_code r) × (move_writes v s room ≡ [])
  stays r is =
      let code = moving_stops v s room (λ e. done_no_refusal r (sym (is ∙ e))) ∙ sym is in
      (code, ap (λ (n : ℕ). others_write n (moved_bytes v s)) code ∙ none_with r (moved_bytes v s))

-- four stores, one behind the other, are the store of what both versions have
pub first_stored : (h : Head) (l a b c d : List ℕ)
    → a ≡ sets l 0 (mark ++ (bytes 2 h.version ++ (bytes 2 h.divisor ++ h.frequency % 256 ∷ [])))
    → b ≡ sets a 8 (bytes 4 (h.frequency / 256)) → c ≡ sets b 12 (bytes 1 h.mode) → d ≡ sets c 13 (bytes 1 h.size)
    → d ≡ sets l 0 (field_bytes 1 (fields_of h))
first_stored h l a b c d p q r s = rw (s, r, q, p)

-- what version 2 adds
abbrev pub more : Head → List ℕ
more h = bytes 8 h.serial ++ bytes 4 h.clock

-- ---- the versions

-- a version is 1 or 2
pub by_version : {A : Type 0} (v : ℕ) → is_head_version v ≡ true → (v ≡ 1 → A) → (v ≡ 2 → A) → A
by_version {A} v ok one two = go (eqb v 1) (eqb v 2) refl refl
  where
    go : (p q : Bool) → eqb v 1 ≡ p → eqb v 2 ≡ q → A
    go true q e f = one (eqb-true v 1 e)
    go false true e f = two (eqb-true v 2 f)
    go false false e f = never (rw (e, f) at ok)

-- a head has 14 bytes at least, and 26 at most
pub least_long : (v : ℕ) → 14 ≤ head_length v
least_long v = pick_keeps (λ n. 14 ≤ n) (eqb v 2) 26 14 (λ e. omega arith) (λ e. omega arith)

pub most_long : (v : ℕ) → head_length v ≤ 26
most_long v = pick_keeps (λ n. n ≤ 26) (eqb v 2) 26 14 (λ e. omega arith) (λ e. omega arith)

-- one of more than 14 bytes is of version 2
pub longer : (v : ℕ) → 14 < head_length v → eqb v 2 ≡ true
longer v more = by (eqb v 2) refl
  where
    by : (two : Bool) → eqb v 2 ≡ two → eqb v 2 ≡ true
    by true e = e
    by false e = absurd (omega (arith, rw e at more))

-- the bytes of each
pub bytes_old : (h : Head) → h.version ≡ 1 → head_bytes h ≡ field_bytes 1 (fields_of h)
unfolding head_bytes
bytes_old h is = ap (λ (v : ℕ). field_bytes v (fields_of h)) is

pub bytes_new : (h : Head) → h.version ≡ 2 → head_bytes h ≡ field_bytes 1 (fields_of h) ++ more h
unfolding head_bytes
bytes_new h is = ap (λ (v : ℕ). field_bytes v (fields_of h)) is

-- they are stored in the slice's first 14 bytes, and behind them
module _ (h : Head) (l : List ℕ) {a : List ℕ} (first : a ≡ sets (mid_of 0 14 l) 0 (field_bytes 1 (fields_of h))) (room : 14 ≤ length l) where
  first_in : put_mid 0 14 l a ≡ sets l 0 (field_bytes 1 (fields_of h))
  first_in = ap (put_mid 0 14 l) first ∙ part_whole 0 14 l (field_bytes 1 (fields_of h)) refl room

  pub stored_old : h.version ≡ 1 → put_mid 0 14 l a ≡ sets l 0 (head_bytes h)
  stored_old is = first_in ∙ ap (sets l 0) (sym (bytes_old h is))

  -- the slice is as long as it was
  pub first_long : length (put_mid 0 14 l a) ≡ length l
  first_long = ap length first_in ∙ length-sets l 0 (field_bytes 1 (fields_of h))

  pub stored_new : {b : List ℕ} → h.version ≡ 2 → 26 ≤ length l → b ≡ sets (mid_of 14 12 (put_mid 0 14 l a)) 0 (more h)
      → put_mid 14 12 (put_mid 0 14 l a) b ≡ sets l 0 (head_bytes h)
  stored_new is long second =
      let m : List ℕ = put_mid 0 14 l a in
      let rest = ap (put_mid 14 12 m) second ∙ part_whole 14 12 m (more h) refl (omega (arith, first_long, long)) in
      sets_then l 0 (field_bytes 1 (fields_of h)) (more h) first_in rest ∙ ap (sets l 0) (sym (bytes_new h is))

-- moving is refused for four reasons
pub refused_for : (v : ℕ) (s : List ℕ) (room : ℕ) (r : Refusal) → refusal_code r ≡ moving_code v s room
    → (r ≡ NotAHead → ⊥) → (r ≡ OtherVersion → ⊥) → (r ≡ WouldLose → ⊥) → r ≡ NoRoom
unfolding moving_code
refused_for v s room r is a b c = by r is a b c
  where
    none : {A : Type 0} (n : ℕ) → differ n (moving_checks v s room) ≡ true → (1 ≡ n → ⊥) → n ≡ moving_code v s room → A
    none n d other is = absurd (not_given (moving_checks v s room) 1 n d other (sym is))

    by : (r : Refusal) → refusal_code r ≡ moving_code v s room → (r ≡ NotAHead → ⊥) → (r ≡ OtherVersion → ⊥) → (r ≡ WouldLose → ⊥)
        → r ≡ NoRoom
    by NoRoom is a b c = refl
    by NotAHead is a b c = absurd (a refl)
    by OtherVersion is a b c = absurd (b refl)
    by WouldLose is a b c = absurd (c refl)
    by BadHeader is a b c = none 11 refl (λ z. omega arith) is
    by TooLong is a b c = none 10 refl (λ z. omega arith) is
    by NotListed is a b c = none 12 refl (λ z. omega arith) is
    by NotOffered is a b c = none 14 refl (λ z. omega arith) is
    by WrongLength is a b c = none 13 refl (λ z. omega arith) is
    by ChannelNotAllowed is a b c = none 15 refl (λ z. omega arith) is
    by ValueNotAllowed is a b c = none 16 refl (λ z. omega arith) is
    by NotWhileRunning is a b c = none 17 refl (λ z. omega arith) is
    by Broken is a b c = none 21 refl (λ z. omega arith) is
    by WhileIdle is a b c = none 22 refl (λ z. omega arith) is
    by WrongCount is a b c = none 23 refl (λ z. omega arith) is
    by NotASample is a b c = none 24 refl (λ z. omega arith) is
    by CaptureFull is a b c = none 25 refl (λ z. omega arith) is
    by NotASerial is a b c = none 26 refl (λ z. omega arith) is
    by NotAReply is a b c = none 28 refl (λ z. omega arith) is
    by NotAPacket is a b c = none 30 refl (λ z. omega arith) is
    by NoFirstPacket is a b c = none 31 refl (λ z. omega arith) is
    by FormChanged is a b c = none 32 refl (λ z. omega arith) is
    by PastLast is a b c = none 33 refl (λ z. omega arith) is
