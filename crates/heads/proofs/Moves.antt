-- Moving a head to another version: what it comes to, and that nothing is lost on the way.
use Prim.Native.Nat.{ℕ}
use mathlib.Core.Path.{◌≡◌, refl, sym, ap, ◌∙◌}
use mathlib.Core.Logic.{◌⊎◌, inl, inr, ◌↔◌}
use mathlib.Core.Bool.{true, false}
use mathlib.Core.List.{List, [], ◌∷◌, ◌++◌}
use native.Mathlib.Omega.{arith}
use lib.Dec.{eqb, ltb}
use lib.ListN.{take}
use borrow.Author.Tests.{le-ltb, eqb-true, eqb-false, ne_eqb, not-true, not-false}
use Rattle.wire.specs.Choice.{check}
use Rattle.wire.specs.Codes.{others_write}
use Rattle.wire.proofs.Laws.{and_rest, and_not_right, never, true_not_false, by_test}
use Rattle.wire.proofs.Checks.{differ, not_given, given_exactly}
use Rattle.heads.specs.declared.Head.{Head}
use Rattle.std.proofs.Common.{Ok}
use Rattle.heads.specs.Head.{is_head_version, unknown, nominal, head_length, version_in, head_in, bare, naming_ok, allowed_head, head_bytes}
use Rattle.heads.specs.Head.{opened_says, head_read_checks, head_read_code, head_reading_of}
use Rattle.heads.specs.Moving.{moved_to, loses, moving_code, moved_bytes, IsHead, MovesInto, ThereAndBack, OldNewOld, NewOldNew}
use Rattle.heads.specs.Moving.{AlreadyThere, WouldLoseExactly}
use Rattle.heads.specs.Inside.{put_code}
use Rattle.heads.proofs.Codes.{allowed_by, put_by, code_said, head_said, moving_stops, moving_goes, by_version}
use Rattle.heads.proofs.Values.{is_version_lem, divisor_ok_lem, bands_ok_lem, form_listed, old_bare, named_new, bare_serial, bare_clock}
use Rattle.heads.proofs.Rounds.{passed, read_written, written_read}

-- ---- a head that moves

-- nothing is lost on the way to a head's own version
keeps_own : (h : Head) → allowed_head h ≡ true → loses h.version h ≡ false
keeps_own h a = by_version h.version (is_version_lem h a) (λ (e : h.version ≡ 1). rw (e, old_bare h a e)) (λ (e : h.version ≡ 2). rw e)

-- where nothing is lost, a head that moves is allowed
pub moved_allowed : (v : ℕ) (h : Head) → is_head_version v ≡ true → allowed_head h ≡ true → loses v h ≡ false
    → allowed_head (moved_to v h) ≡ true
moved_allowed v h known a kept =
    let old : v ≡ 1 → naming_ok (moved_to v h) ≡ true = λ (e : v ≡ 1). rw e (not-false (bare h) (rw e at kept)) in
    let new : v ≡ 2 → naming_ok (moved_to v h) ≡ true = λ (e : v ≡ 2). rw e (named_new h a) in
    allowed_by (moved_to v h) known (divisor_ok_lem h a) (bands_ok_lem h a) (form_listed h a) (by_version v known old new)

-- ---- moving

-- wherever nothing is lost, and there is room, it is done
moves : (v : ℕ) (s : List ℕ) → head_read_code s ≡ 1 → loses v (head_in s) ≡ false → MovesInto v s (moved_bytes v s)
moves v s read kept room enough =
    let code = moving_goes v s room read ∙ put_by v (head_in s) room kept (le-ltb room (head_length v) enough) in
    (code, ap (λ (n : ℕ). others_write n (moved_bytes v s)) code)

-- a head in its own version has the bytes that it was read from
own_bytes : (v : ℕ) (s : List ℕ) → IsHead v s → moved_bytes v s ≡ take (head_length v) s
own_bytes v s is = rw (← is.version) (written_read s is.are_bytes is.read)

own_kept : (v : ℕ) (s : List ℕ) → IsHead v s → loses v (head_in s) ≡ false
own_kept v s is = rw (← is.version) (keeps_own (head_in s) (passed s is.read).ok)

pub already_there : AlreadyThere
already_there v s is = rw (← own_bytes v s is) (moves v s is.read (own_kept v s is))

pub there_and_back : (v w : ℕ) (s : List ℕ) → is_head_version w ≡ true → IsHead v s → loses w (head_in s) ≡ false → ThereAndBack v w s
there_and_back v w s known is kept = record { there = moves w s is.read kept; reads = reads; back = back }
  where
    h : Head
    h = head_in s

    a : allowed_head h ≡ true
    a = (passed s is.read).ok

    reads : (rest : List ℕ) → head_reading_of (moved_bytes w s ++ rest) ≡ opened_says (Ok (moved_to w h))
    reads rest = read_written (moved_to w h) rest (moved_allowed w h known a kept)

    back : (rest : List ℕ) → MovesInto v (moved_bytes w s ++ rest) (take (head_length v) s)
    back rest =
        let t : List ℕ = moved_bytes w s ++ rest in
        let said : opened_says (Ok (moved_to w h)) ≡ head_reading_of t = sym (reads rest) in
        let there : head_in t ≡ moved_to w h = head_said (moved_to w h) t said in
        let nothing : loses v (head_in t) ≡ false = ap (loses v) there ∙ own_kept v s is in
        let same : moved_bytes v t ≡ take (head_length v) s = ap (λ (x : Head). head_bytes (moved_to v x)) there ∙ own_bytes v s is in
        rw (← same) (moves v t (sym (code_said (Ok (moved_to w h)) t said)) nothing)

pub old_new_old : OldNewOld
old_new_old s is =
    let bared = old_bare (head_in s) (passed s is.read).ok is.version in
    (there_and_back 1 2 s refl is refl, bare_serial (head_in s) bared, bare_clock (head_in s) bared)

pub new_old_new : NewOldNew
new_old_new s is kept = there_and_back 2 1 s refl is kept

-- ---- its refusals

module _ (v : ℕ) (s : List ℕ) (room : ℕ) where
  abbrev h : Head
  h = head_in s

  -- a code that reading does not give is given of a head that was read
  after_reading : (n : ℕ) → differ n (head_read_checks s) ≡ true → (1 ≡ n → ⊥)
      → (moving_code v s room ≡ n) ↔ ((head_read_code s ≡ 1) × (put_code v h room ≡ n))
  unfolding head_read_code
  after_reading n others other = (into, λ p. moving_goes v s room p.0 ∙ p.1)
    where
      into : moving_code v s room ≡ n → (head_read_code s ≡ 1) × (put_code v h room ≡ n)
      into given =
          by_test (eqb (head_read_code s) 1)
          (λ (e : eqb (head_read_code s) 1 ≡ true).
          let read = eqb-true (head_read_code s) 1 e in
          (read, sym (moving_goes v s room read) ∙ given))
          (λ (e : eqb (head_read_code s) 1 ≡ false).
          absurd (not_given (head_read_checks s) 1 n others other (sym (moving_stops v s room (eqb-false (head_read_code s) 1 e)) ∙ given)))

  -- 42 where something would be lost
  pub lost_exactly : (moving_code v s room ≡ 42) ↔ ((head_read_code s ≡ 1) × (loses v h ≡ true))
  unfolding put_code
  lost_exactly =
      let past = after_reading 42 refl (λ e. omega arith) in
      let first = given_exactly [] (check 42 (loses v h)) (check 20 (ltb room (head_length v)) ∷ []) 1 refl refl (λ e. omega arith) in
      (λ given. ((past.0 given).0, (first.0 (past.0 given).1).1), λ both. past.1 (both.0, first.1 (tt, both.1)))

-- going back loses a serial that is known, or a clock that is not 80,000,000
losing : (h : Head) → (loses 1 h ≡ true) ↔ ((h.serial ≡ unknown → ⊥) ⊎ (h.clock ≡ nominal → ⊥))
losing h = (into, from)
  where
    into : loses 1 h ≡ true → (h.serial ≡ unknown → ⊥) ⊎ (h.clock ≡ nominal → ⊥)
    into e =
        by_test (eqb h.serial unknown)
        (λ (no : eqb h.serial unknown ≡ true).
        inr (eqb-false h.clock nominal (and_rest (eqb h.serial unknown) (eqb h.clock nominal) (not-true (bare h) e) no)))
        (λ (known : eqb h.serial unknown ≡ false). inl (eqb-false h.serial unknown known))

    from : (h.serial ≡ unknown → ⊥) ⊎ (h.clock ≡ nominal → ⊥) → loses 1 h ≡ true
    from (inl known) = rw (ne_eqb h.serial unknown known)
    from (inr other) = rw (and_not_right (eqb h.serial unknown) (eqb h.clock nominal) (ne_eqb h.clock nominal other))

pub would_lose_exactly : WouldLoseExactly
would_lose_exactly =
    record {
      back = λ s room.
          let lost = lost_exactly 1 s room in
          let why = losing (head_in s) in
          (λ given. ((lost.0 given).0, why.0 (lost.0 given).1), λ both. lost.1 (both.0, why.1 both.1));
      from_version2 = λ s room given. only_new s ((lost_exactly 1 s room).0 given);
      never_on = λ s room given. true_not_false (sym ((lost_exactly 2 s room).0 given).1);
    }
  where
    -- a head of version 1 has nothing to lose
    only_new : (s : List ℕ) → (head_read_code s ≡ 1) × (loses 1 (head_in s) ≡ true) → version_in s ≡ 2
    only_new s lost =
        let p = passed s lost.0 in
        let bared : version_in s ≡ 1 → bare (head_in s) ≡ true = old_bare (head_in s) p.ok in
        by_version (version_in s) p.known
        (λ (old : version_in s ≡ 1). never (sym (not-true (bare (head_in s)) lost.1) ∙ bared old))
        (λ (new : version_in s ≡ 2). new)
