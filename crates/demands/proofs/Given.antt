-- Each code is given exactly on its condition: no two checks of a list have one code, but for the head's that is read, which is gone
-- through test by test.
-- Assumes nothing.
use Prim.Native.Nat.{ℕ, ◌≤◌, ◌<◌}
use native.Mathlib.Omega.{arith}
use mathlib.Core.Path.{◌≡◌, refl, sym, ap, subst, ◌∙◌}
use mathlib.Core.Bool.{Bool, true, false, ◌&&◌, not}
use mathlib.Core.List.{List, [], ◌∷◌, ◌++◌}
use mathlib.Core.Logic.Iff
use mathlib.Core.Logic.{inl, inr, ◌↔◌}
use borrow.Author.Tests.{eqb-true, eqb-false, ltb-true, ltb-false, ne_eqb, not-true}
use lib.Dec.{eqb, ltb}
use lib.ListN.{length, replicate}
use Rattle.wire.specs.Choice.{pick, Check, first_of, Absent}
use Rattle.wire.specs.Number.{number, field}
use Rattle.wire.proofs.Checks.{differ, given_exactly, not_given, Each, given_has, first_stops, first_goes_on}
use Rattle.wire.proofs.Laws.{and_left, and_right, and_both, true_not_false}
use Rattle.items.specs.Answer.{Message, checks, code_of}
use Rattle.items.specs.declared.Settings.{Settings}
use Rattle.items.specs.Settings.{FreshSettings}
use Rattle.items.specs.Settings.{is_serial, fresh_of}
use Rattle.framing.specs.Framing.{call_takes, finished}
use Rattle.framing.proofs.Cutting.{finished_taking}
use Rattle.station.specs.declared.Station.{Station}
use Rattle.station.specs.Station.{valid, fresh_box, word_code}
use Rattle.station.proofs.Valid.{comes_below, feeding_by, feeding_waiting, feeding_answered, each_way}
use Rattle.station.specs.Feeding.{Feeding, refused, comes_to, feed_checks, feed_code, feeding_of}
use Rattle.cutting.specs.Cutting.{cut_code}
use Rattle.reader.specs.Reading.{reading_code, unpack_code}
use Rattle.heads.specs.Head.{mark, is_head_version, version_in, head_length_in, allowed_head, head_in}
use Rattle.heads.specs.Head.{head_write_code, head_read_checks, head_read_code}
use Rattle.heads.specs.Moving.{moved_checks, moving_code}
use Rattle.heads.proofs.Codes.{code_by_lem}
use Rattle.wishes.specs.Writing.{wish_code}
use Rattle.replies.specs.Reading.{reply_code}
use Rattle.demands.specs.Shown.{finished_by}
use Rattle.demands.specs.Given.{EachExactly, EachWhere, IsNoHead, IsOtherVersion, HeadExactly, Answers, GivenExactly}

-- no two checks of the list have one code
abbrev distinct : List Check → Bool
distinct [] = true
distinct (c ∷ cs) = differ c.code cs && distinct cs

-- what differs from a whole list differs from its parts
differ_later : (n : ℕ) (before : List Check) (c : Check) (after : List Check) → differ n (before ++ c ∷ after) ≡ true
    → (not (eqb c.code n) ≡ true) × (differ n after ≡ true)
differ_later n [] c after d = (and_left (not (eqb c.code n)) (differ n after) d, and_right (not (eqb c.code n)) (differ n after) d)
differ_later n (b ∷ before) c after d = differ_later n before c after (and_right (not (eqb b.code n)) (differ n (before ++ c ∷ after)) d)

other_way : (m n : ℕ) → not (eqb m n) ≡ true → not (eqb n m) ≡ true
other_way m n d = rw (ne_eqb n m (λ e. eqb-false m n (not-true (eqb m n) d) (sym e))) refl

apart_in : (before : List Check) (c : Check) (after : List Check) → distinct (before ++ c ∷ after) ≡ true
    → (differ c.code before ≡ true) × (differ c.code after ≡ true)
apart_in [] c after d = (refl, and_left (differ c.code after) (distinct after) d)
apart_in (b ∷ before) c after d =
    let all = before ++ c ∷ after in
    let here = differ_later b.code before c after (and_left (differ b.code all) (distinct all) d) in
    let rest = apart_in before c after (and_right (differ b.code all) (distinct all) d) in
    (and_both (not (eqb b.code c.code)) (differ c.code before) (other_way c.code b.code here.0) rest.0, rest.1)

-- a code that no check of the list has is not this one's
other_code : (cs : List Check) (n : ℕ) (before : List Check) (c : Check) (after : List Check) → cs ≡ before ++ c ∷ after
    → differ n cs ≡ true → c.code ≡ n → ⊥
other_code cs n before c after e other =
    let here = differ_later n before c after (subst (λ (l : List Check). differ n l ≡ true) e other) in
    eqb-false c.code n (not-true (eqb c.code n) here.0)

each : (cs : List Check) (n : ℕ) → distinct cs ≡ true → differ n cs ≡ true → EachExactly cs (first_of cs n)
each cs n d other before c after e =
    subst (λ (l : List Check). (first_of l n ≡ c.code) ↔ (Absent before × (c.holds ≡ true))) (sym e)
    (given_exactly before c after n parts.0 parts.1 (λ m. other_code cs n before c after e other (sym m)))
  where
    parts : (differ c.code before ≡ true) × (differ c.code after ≡ true)
    parts = apart_in before c after (subst (λ (l : List Check). distinct l ≡ true) e d)

-- ---- two lists, one behind the other

-- a code that no later check has is given as by the earlier ones
earlier : (ds cs : List Check) (n m : ℕ) → differ m cs ≡ true → (n ≡ m → ⊥) → (first_of (ds ++ cs) n ≡ m) ↔ (first_of ds n ≡ m)
earlier [] cs n m d other = (λ e. absurd (not_given cs n m d other e), λ e. absurd (other e))
earlier (c ∷ ds) cs n m d other = go c.holds (earlier ds cs n m d other)
  where
    go : (b : Bool) → (first_of (ds ++ cs) n ≡ m) ↔ (first_of ds n ≡ m)
        → (pick b c.code (first_of (ds ++ cs) n) ≡ m) ↔ (pick b c.code (first_of ds n) ≡ m)
    go true more = (λ e. e, λ e. e)
    go false more = more

-- the later checks are made where none of the earlier ones holds, if these have other codes
later : (ds cs : List Check) (n : ℕ) → distinct cs ≡ true → differ n cs ≡ true → differ n ds ≡ true
    → Each (λ m. differ m cs ≡ true) ds → EachWhere (first_of ds n ≡ n) cs (first_of (ds ++ cs) n)
later ds cs n d other own apart before c after is = (
  λ e. let made = into (eqb (first_of ds n) n) refl e in let here = exactly.0 (sym (on made) ∙ e) in (made, here.0, here.1),
  λ h. on h.0 ∙ exactly.1 (h.1, h.2),
)
  where
    exactly : (first_of cs n ≡ c.code) ↔ (Absent before × (c.holds ≡ true))
    exactly = each cs n d other before c after is

    on : first_of ds n ≡ n → first_of (ds ++ cs) n ≡ first_of cs n
    on = first_goes_on ds cs n own

    into : (b : Bool) → eqb (first_of ds n) n ≡ b → first_of (ds ++ cs) n ≡ c.code → first_of ds n ≡ n
    into true q e = eqb-true _ _ q
    into false q e =
        absurd (other_code cs (first_of ds n) before c after is (given_has (λ m. differ m cs ≡ true) ds n apart other)
        (sym e ∙ first_stops ds cs n (eqb-false _ _ q)))

message_each : (s : Settings) (m : Message) → EachExactly (checks s m) (code_of s m)
unfolding code_of
message_each s m = each (checks s m) 1 refl refl

-- a serial is one, or the code is 26
fresh_each : (serial : List ℕ) → ((fresh_box serial).code ≡ 26) ↔ (is_serial serial ≡ false)
fresh_each serial =
    go (is_serial serial) (record { code = 1; settings = fresh_of serial })
    (record { code = 26; settings = fresh_of (replicate 8 0x30) }) refl refl
  where
    go : (b : Bool) (x y : FreshSettings) → x.code ≡ 1 → y.code ≡ 26 → ((pick {X = FreshSettings} b x y).code ≡ 26) ↔ (b ≡ false)
    go true x y one none = (λ e. absurd (omega arith), λ e. absurd (true_not_false e))
    go false x y one none = (λ e. refl, λ e. none)

-- ---- one call of feeding

-- no finished message waits
not_waiting : (s : Settings) (m : Message) → code_of s m ≡ 0 → ⊥
unfolding code_of
not_waiting s m = not_given (checks s m) 1 0 refl (λ e. omega arith)

module _ (s : Station) (host : List ℕ) (room : ℕ) where
  abbrev code : ℕ
  code = (feeding_of s host room).fed.code

  abbrev own_code : ℕ
  own_code = code_of s.settings (finished_by s host)

  -- its code is that of the first of its checks that holds, or of what the bytes come to
  code_is : code ≡ feed_code s host room
  code_is =
      ap (λ (f : Feeding). f.fed.code) (feeding_by s host room)
      ∙ go (not (valid s)) (ltb room (length (comes_to s host).bytes)) (comes_to s host)
    where
      go : (broken short : Bool) (f : Feeding)
          → (pick broken (refused 21 s) (pick short (refused 20 s) f)).fed.code ≡ pick broken 21 (pick short 20 f.fed.code)
      go true short f = refl
      go false true f = refl
      go false false f = refl

  feed_each : EachExactly (feed_checks s host room) code
  feed_each =
      let n = (comes_to s host).fed.code in
      let low : n < 20 = comes_below s host in
      subst (EachExactly (feed_checks s host room)) (sym code_is)
      (each (feed_checks s host room) n refl (rw (ne_eqb 21 n (λ e. omega arith), ne_eqb 20 n (λ e. omega arith)) refl))

  waits_each : (code ≡ 0) ↔ ((valid s ≡ true) × (finished (call_takes s.store host).store ≡ false))
  waits_each = (
    each_way (λ f. f.fed.code ≡ 0 → (valid s ≡ true) × (finished (call_takes s.store host).store ≡ false)) s host room
        (λ v e. absurd (omega arith)) (λ v e. absurd (omega arith)) (λ v f e. (v, finished_taking 0 s.store host ∙ f))
        (λ v f enough e. absurd (not_waiting s.settings (finished_by s host) e)),
    λ h. ap (λ (f : Feeding). f.fed.code) (feeding_waiting s.settings s.store host room h.0 h.1),
  )

  -- a call that answers a message gives the message's code
  own_given : Answers s host room → code ≡ own_code
  own_given a = ap (λ (f : Feeding). f.fed.code) (feeding_answered s.settings s.store host room a.sound a.finishes a.fits)

  -- no other call gives a code that is neither 0 nor one of a call's own
  own_asked : (n : ℕ) → (n ≡ 0 → ⊥) → (n ≡ 20 → ⊥) → (n ≡ 21 → ⊥) → code ≡ n → Answers s host room
  own_asked n not_0 not_20 not_21 =
      each_way (λ f. f.fed.code ≡ n → Answers s host room) s host room
      (λ v e. absurd (not_21 (sym e))) (λ v e. absurd (not_20 (sym e))) (λ v f e. absurd (not_0 (sym e)))
      (λ v f enough e. record { sound = v; finishes = finished_taking 0 s.store host ∙ f; fits = enough })

  own_each : (n : ℕ) → 1 ≤ n → n < 20 → (code ≡ n) ↔ (Answers s host room × (own_code ≡ n))
  own_each n least low = (
    λ e. let a = own_asked n (λ z. omega arith) (λ z. omega arith) (λ z. omega arith) e in (a, sym (own_given a) ∙ e),
    λ h. own_given h.0 ∙ h.1,
  )

  answered_each : EachWhere (Answers s host room) (checks s.settings (finished_by s host)) code
  answered_each before c after is = (
    λ e.
        let a = own_asked c.code (other 0 refl) (other 20 refl) (other 21 refl) e in
        let here = own.0 (sym (own_given a) ∙ e) in
        (a, here.0, here.1),
    λ h. own_given h.0 ∙ own.1 (h.1, h.2),
  )
    where
      own : (own_code ≡ c.code) ↔ (Absent before × (c.holds ≡ true))
      own = message_each s.settings (finished_by s host) before c after is

      -- a code that no check of a message has
      other : (n : ℕ) → differ n (checks s.settings (finished_by s host)) ≡ true → c.code ≡ n → ⊥
      other n d = other_code (checks s.settings (finished_by s host)) n before c after is d

-- ---- a head

module _ (s : List ℕ) where
  -- no bytes are both
  not_both : IsNoHead s → IsOtherVersion s → ⊥
  not_both (inl short) h = omega (arith, h.0)
  not_both (inr (inl other)) h = other h.1
  not_both (inr (inr bad)) h = true_not_false (sym bad.0 ∙ h.2)

  no_head_lem : {n : ℕ} → IsNoHead s → n ≡ 40 → HeadExactly s n
  no_head_lem why code =
      record {
        not_a_head = (λ e. why, λ h. code);
        other_version = (λ e. absurd (omega arith), λ h. absurd (not_both why h));
      }

  other_version_lem : {n : ℕ} → IsOtherVersion s → n ≡ 41 → HeadExactly s n
  other_version_lem why code =
      record {
        not_a_head = (λ e. absurd (omega arith), λ h. absurd (not_both h why));
        other_version = (λ e. why, λ h. code);
      }

  head_each : HeadExactly s (head_read_code s)
  head_each =
      by (ltb (length s) 14) (eqb (field 0 3 s) (number mark)) (is_head_version (version_in s)) (ltb (length s) (head_length_in s))
      (allowed_head (head_in s)) refl refl refl refl refl
    where
      by : (short marked known cut ok : Bool) → ltb (length s) 14 ≡ short → eqb (field 0 3 s) (number mark) ≡ marked
          → is_head_version (version_in s) ≡ known → ltb (length s) (head_length_in s) ≡ cut → allowed_head (head_in s) ≡ ok
          → HeadExactly s (head_read_code s)
      by true marked known cut ok p q r t u = no_head_lem (inl (ltb-true _ _ p)) (code_by_lem s p q r t u)
      by false false known cut ok p q r t u = no_head_lem (inr (inl (eqb-false _ _ q))) (code_by_lem s p q r t u)
      by false true false cut ok p q r t u = other_version_lem (ltb-false _ _ p, eqb-true _ _ q, r) (code_by_lem s p q r t u)
      by false true true true ok p q r t u = no_head_lem (inr (inr (r, inl (ltb-true _ _ t)))) (code_by_lem s p q r t u)
      by false true true false false p q r t u = no_head_lem (inr (inr (r, inr u))) (code_by_lem s p q r t u)
      by false true true false true p q r t u =
          let code = code_by_lem s p q r t u in
          record {
            not_a_head = (λ e. absurd (omega arith), λ h. absurd (none h));
            other_version = (λ e. absurd (omega arith), λ h. absurd (true_not_false (sym r ∙ h.2)));
          }
        where
          none : IsNoHead s → ⊥
          none (inl less) = omega (arith, ltb-false (length s) 14 p)
          none (inr (inl other)) = other (eqb-true _ _ q)
          none (inr (inr (v, inl less))) = omega (arith, ltb-false (length s) (head_length_in s) t)
          none (inr (inr (v, inr bad))) = true_not_false (sym u ∙ bad)

  -- what is read as no head does not move
  moving_each : (v room : ℕ) → HeadExactly s (moving_code v s room)
  unfolding moving_code head_read_code
  moving_each v room =
      let same = earlier (head_read_checks s) (moved_checks v (head_in s) room) 1 in
      record {
        not_a_head = Iff.trans (same 40 refl (λ e. omega arith)) head_each.not_a_head;
        other_version = Iff.trans (same 41 refl (λ e. omega arith)) head_each.other_version;
      }

  moved_each : (v room : ℕ) → EachWhere (head_read_code s ≡ 1) (moved_checks v (head_in s) room) (moving_code v s room)
  unfolding moving_code head_read_code
  moved_each v room =
      later (head_read_checks s) (moved_checks v (head_in s) room) 1 refl refl refl (refl, (refl, (refl, (refl, (refl, tt)))))

pub codes_given_exactly : GivenExactly
unfolding cut_code word_code reading_code unpack_code head_write_code wish_code reply_code
codes_given_exactly =
    record {
      fresh = fresh_each;
      waits = waits_each;
      feeding = feed_each;
      own = own_given;
      own_exactly = own_each;
      answered = answered_each;
      message = message_each;
      cutting = λ s samples room. each _ 1 refl refl;
      word = λ s channel. each _ 1 refl refl;
      reading = λ r packet. each _ 1 refl refl;
      unpacking = λ packet room. each _ 1 refl refl;
      head_written = λ h room. each _ 1 refl refl;
      head_read = head_each;
      head_moving = λ v s room. moving_each s v room;
      head_moved = λ v s room. moved_each s v room;
      wish = λ w room. each _ 1 refl refl;
      reply = λ w bs. each _ 1 refl refl;
    }
