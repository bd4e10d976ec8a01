-- What the crate answers says of a finished message is what feeding owes.
-- Assumes nothing.
use Prim.Native.Nat.{ℕ}
use mathlib.Core.Path.{◌≡◌, refl, sym, ap, ◌∙◌}
use mathlib.Core.Bool.{Bool, true, false}
use mathlib.Core.List.{List}
use lib.Dec.{leb, ltb}
use lib.ListN.{length}
use lib.Seq.{sets}
use Rattle.wire.specs.Number.{field}
use Rattle.wire.specs.Header.{type_in, length_in}
use Rattle.framing.specs.Framing.{Taking, between}
use Rattle.items.specs.declared.Settings.{Settings}
use Rattle.items.specs.Answer.{Message, code_of, reply_of, settings_after}
use Rattle.answers.specs.declared.Answered as Made
use Rattle.answers.specs.Replies.{Answered, answer_of, answered_says, replied, outcome_code}
use Rattle.answers.proofs.Answering.{code_small}
use Rattle.std.specs.Prelude.{Result, Ok, Err, is_err}
use Rattle.wire.specs.Refusal.{refusal_code}
use Rattle.wire.specs.declared.refusal.Refusal.{Refusal}
use Rattle.wire.proofs.Laws.{true_not_false}
use Rattle.station.specs.declared.Station.{Station}
use Rattle.station.specs.Feeding.{Fed}
use Rattle.station.specs.Feeding.{message_in, refused}
use Rattle.station.specs.Inside.{opened_message, answering}

-- the header split into type and length is the message's
pub message_is : (ten : List ℕ) (header type size : ℕ) → header ≡ field 0 2 ten → type ≡ type_in header → size ≡ length_in header
    → ◌≡◌ {A = Message} (record { type = type; size = size; bytes = ten }) (opened_message ten)
message_is ten header type size h a b = rw (a, b, h)

-- what a call returns that took this and answered so
abbrev fed_by : Made.Answered → Taking → Fed
fed_by a t =
    record {
      code = outcome_code a.outcome;
      consumed = t.count;
      wrote = a.wrote;
      station = record { settings = a.settings; store = between };
    }

module _ (s : Station) (t : Taking) (l after : List ℕ) (r : Result Made.Answered Refusal) (m : Message)
    (same : m ≡ message_in t.store)
    (told : answered_says s.settings r ≡ (answer_of s.settings m (length l)).answered)
    (fails : is_err r ≡ leb 20 (answer_of s.settings m (length l)).answered.code)
    (wrote : after ≡ sets l 0 (answer_of s.settings m (length l)).bytes) where
  -- a call that returns this, and leaves the slice so
  abbrev pub Answers : Fed → Bool → Type 0
  Answers f failed =
      (f ≡ (answering s t (length l)).fed)
      × (failed ≡ leb 20 (answering s t (length l)).fed.code)
      × (after ≡ sets l 0 (answering s t (length l)).bytes)

  -- no room: it is refused, and nothing is written
  pub out_short : (q : Refusal) → r ≡ Err q → Answers (refused (refusal_code q) s).fed true
  unfolding answer_of
  out_short q e = go (ltb (length l) (length (reply_of s.settings m))) refl
    where
      go : (b : Bool) → ltb (length l) (length (reply_of s.settings m)) ≡ b → Answers (refused (refusal_code q) s).fed true
      go true d =
          let code : refusal_code q ≡ 20 = ap (λ (a : Answered). a.code) (rw (e, d) at told) in
          rw (← same, d, code) (refl, refl, wrote ∙ rw d)
      go false d =
          let small : true ≡ leb 20 (code_of s.settings m) = rw (e, d) at fails in
          absurd (true_not_false (small ∙ code_small s.settings m))

  -- room: the code, the reply and the settings
  pub out_whole : (a : Made.Answered) → r ≡ Ok a → Answers (fed_by a t) false
  unfolding answer_of
  out_whole a e = go (ltb (length l) (length (reply_of s.settings m))) refl
    where
      go : (b : Bool) → ltb (length l) (length (reply_of s.settings m)) ≡ b → Answers (fed_by a t) false
      go true d =
          let large : false ≡ true = rw (e, d) at fails in
          absurd (true_not_false (sym large))
      go false d =
          let whole : answered_says s.settings (Ok a) ≡ (replied s.settings m).answered = rw (e, d) at told in
          let code : outcome_code a.outcome ≡ code_of s.settings m = ap (λ (x : Answered). x.code) whole in
          let count : a.wrote ≡ length (reply_of s.settings m) = ap (λ (x : Answered). x.wrote) whole in
          let left : a.settings ≡ settings_after s.settings m = ap (λ (x : Answered). x.settings) whole in
          rw (← same, d, code, count, left) (refl, sym (code_small s.settings m), wrote ∙ rw d)
