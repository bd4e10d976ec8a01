-- How what is judged and what is written make the answer to a message.
use Prim.Native.Nat.{ℕ, ◌<◌}
use mathlib.Core.Path.{◌≡◌, refl, sym, ap, ◌∙◌}
use mathlib.Core.Bool.{Bool, true, false}
use mathlib.Core.List.{List, [], ◌∷◌}
use native.Mathlib.Omega.{arith}
use lib.Dec.{eqb, leb, ltb}
use lib.ListN.{length, get_or, take, length-drop}
use lib.Seq.{sets, get_or-drop}
use borrow.Author.Tests.{le-ltb, ne_eqb}
use Rattle.std.specs.Prelude.{Option, Some, None, Result, Ok, Err, is_err}
use Rattle.wire.specs.Choice.{pick}
use Rattle.wire.specs.Header.{nak, type_range, type_reply, type_range_reply}
use Rattle.items.specs.declared.Settings.{Settings}
use Rattle.items.specs.Items.{Item, row_of}
use Rattle.items.specs.Answer.{Judged, checks, judged_of, Message, item_in, row, parameters, code_of, settings_after, reply_of, reply_to, reply_body, range_body, framed}
use Rattle.items.proofs.Judging.{reply_by_code}
use Rattle.items.proofs.Rows.{◌then◌, found}
use Rattle.wire.specs.declared.refusal.Refusal.{Refusal}
use Rattle.wire.specs.declared.refusal.Refusal.TheVariants.{NoRoom}
use Rattle.wire.proofs.Checks.{given_has}
use Rattle.wire.specs.Refusal.{refusal_code}
use Rattle.wire.proofs.Refusals.{not_done, not_silent}
use Rattle.answers.specs.declared.Outcome.{Outcome}
use Rattle.answers.specs.declared.Outcome.TheVariants.{Unanswered}
use Rattle.answers.specs.declared.Answered as Made
use Rattle.answers.specs.Replies.{answer_of, answered_says, outcome_code}
use Rattle.answers.specs.Inside.{count_in, bytes_in, due}

-- ---- a reply has of the parameters only the first byte

take_one : (p : List ℕ) → 0 < length p → take 1 p ≡ get_or p 0 0 ∷ []
take_one [] h = absurd (omega arith)
take_one (b ∷ p) h = refl

abbrev FirstOnly : Item → Type 0
FirstOnly i = (s : Settings) (p : List ℕ) → 0 < length p → reply_body i s p ≡ reply_body i s (get_or p 0 0 ∷ [])

first_only : (code : ℕ) → FirstOnly (row_of code)
first_only code =
    found FirstOnly (λ s p h. refl)
    ((λ s p h. refl)
    then (λ s p h. refl)
    then (λ s p h. refl)
    then (λ s p h. rw (take_one p h))
    then (λ s p h. refl)
    then (λ s p h. refl)
    then (λ s p h. refl)
    then (λ s p h. rw (take_one p h))
    then (λ s p h. rw (take_one p h))
    then (λ s p h. rw (take_one p h))
    then (λ s p h. rw (take_one p h))
    then (λ s p h. refl)
    then tt)
    code

-- the reply, by whether the range was asked for
abbrev replying : Item → Settings → List ℕ → Bool → List ℕ
replying i s p range = pick range (framed type_range_reply (range_body i p)) (framed type_reply (reply_body i s p))

reply_first : (code kind : ℕ) (s : Settings) (p : List ℕ) → 0 < length p
    → reply_to (row_of code) kind s p ≡ reply_to (row_of code) kind s (get_or p 0 0 ∷ [])
reply_first code kind s p h = go (eqb kind type_range)
  where
    go : (b : Bool) → replying (row_of code) s p b ≡ replying (row_of code) s (get_or p 0 0 ∷ []) b
    go true = rw (take_one p h)
    go false = ap (framed type_reply) (first_only code s p h)

-- ---- what is due is the reply

module _ (s : Settings) (m : Message) where
  pub unanswered_reply : code_of s m ≡ 2 → reply_of s m ≡ []
  unfolding reply_of
  unanswered_reply e = rw e refl

  due_reply : 4 < length m.bytes → (code_of s m ≡ 2 → ⊥)
      → due (code_of s m) m.type (item_in m) (get_or m.bytes 4 0) (settings_after s m) ≡ reply_of s m
  due_reply h answered =
      let p = parameters m in
      let some : 0 < length p = rw (length-drop 4 m.bytes) (omega arith) in
      let first : get_or p 0 0 ≡ get_or m.bytes 4 0 = get_or-drop 4 m.bytes 0 0 in
      let after = settings_after s m in
      let of_first = reply_first (item_in m) m.type after p some ∙ ap (λ (b : ℕ). reply_to (row m) m.type after (b ∷ [])) first in
      rw (reply_by_code s m, ne_eqb (code_of s m) 2 answered) (ap (λ (l : List ℕ). pick (eqb (code_of s m) 1) l nak) (sym of_first))

  -- of a message that was judged
  pub judged_reply : (code item : ℕ) (after : Settings) → code ≡ code_of s m → item ≡ item_in m → after ≡ settings_after s m
      → 4 < length m.bytes → (code ≡ 2 → ⊥) → due code m.type item (get_or m.bytes 4 0) after ≡ reply_of s m
  judged_reply code item after c i a long answered = rw (c, i, a) (due_reply long (λ e. answered (c ∙ e)))

-- of a message that is refused: NAK is due
pub nak_reply : (s : Settings) (m : Message) (r : Refusal) → refusal_code r ≡ code_of s m → nak ≡ reply_of s m
nak_reply s m r e =
    let one : eqb (code_of s m) 1 ≡ false = rw (← e) (not_done r) in
    let two : eqb (code_of s m) 2 ≡ false = rw (← e) (not_silent r) in
    sym (rw (reply_by_code s m, one, two) refl)

-- ---- the answer

-- no message has a code from 20 on
pub code_small : (s : Settings) (m : Message) → leb 20 (code_of s m) ≡ false
unfolding code_of
code_small s m =
    given_has (λ (code : ℕ). leb 20 code ≡ false) (checks s m) 1
    (refl, (refl, (refl, (refl, (refl, (refl, (refl, (refl, (refl, tt))))))))) refl

module _ (s : Settings) (m : Message) (l : List ℕ) where
  abbrev pub Answers : Result Made.Answered Refusal → List ℕ → Type 0
  Answers r k =
      (answered_says s r ≡ (answer_of s m (length l)).answered)
      × (is_err r ≡ leb 20 (answer_of s m (length l)).answered.code)
      × (k ≡ sets l 0 (answer_of s m (length l)).bytes)

  -- no reply is due
  pub answers_nothing : record { code = 2; settings = s } ≡ judged_of s m
      → Answers (Ok (record { outcome = Unanswered; wrote = 0; settings = s })) l
  unfolding answer_of
  answers_nothing e =
      let code : 2 ≡ code_of s m = ap (λ (j : Judged). j.code) e in
      let after : s ≡ settings_after s m = ap (λ (j : Judged). j.settings) e in
      let none = unanswered_reply s m (sym code) in
      let free = le-ltb (length l) 0 (omega arith) in
      (rw (none, free, ← code, ← after) refl, rw (none, free, ← code) refl, rw (none, free) refl)

  module _ (r : Option ℕ) (k reply : List ℕ) (is : reply ≡ reply_of s m) (count : r ≡ count_in (length l) reply)
      (left : k ≡ sets l 0 (bytes_in (length l) reply)) where
    -- there is no room
    pub answers_short : r ≡ None → Answers (Err NoRoom) k
    unfolding answer_of
    answers_short none = go (ltb (length l) (length reply)) refl
      where
        go : (b : Bool) → ltb (length l) (length reply) ≡ b → Answers (Err NoRoom) k
        go true q = (rw (← is, q) refl, rw (← is, q) refl, left ∙ rw (← is, q) refl)
        go false q = absurd (let z : Some (length reply) ≡ None = sym (count ∙ rw q refl) ∙ none in cc)

    -- there is
    pub answers_whole : (o : Outcome) (after : Settings) (w : ℕ) → record { code = outcome_code o; settings = after } ≡ judged_of s m
        → r ≡ Some w → Answers (Ok (record { outcome = o; wrote = w; settings = after })) k
    unfolding answer_of
    answers_whole o after w e some = go (ltb (length l) (length reply)) refl
      where
        code : outcome_code o ≡ code_of s m
        code = ap (λ (j : Judged). j.code) e

        left_to : after ≡ settings_after s m
        left_to = ap (λ (j : Judged). j.settings) e

        go : (b : Bool) → ltb (length l) (length reply) ≡ b → Answers (Ok (record { outcome = o; wrote = w; settings = after })) k
        go true q = absurd (let z : None ≡ Some w = sym (count ∙ rw q refl) ∙ some in cc)
        go false q =
            let all : Some w ≡ Some (length reply) = sym some ∙ count ∙ rw q refl in
            let long : w ≡ length reply = cc in
            (rw (← is, q, code, left_to, long) refl, rw (← is, q) (sym (code_small s m)), left ∙ rw (← is, q) refl)
