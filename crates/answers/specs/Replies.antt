-- One finished message answered: its code, what is written at the start of the lent buffer, and the settings after it.
use Rattle.std.specs.Prelude.{ℕ, Result, Ok, Err, List, [], ltb, length}
use Rattle.wire.specs.Choice.{pick}
use Rattle.wire.specs.Codes as Code
use Rattle.items.specs.declared.Settings.{Settings}
use Rattle.items.specs.Answer.{Message, code_of, settings_after, reply_of}
use Rattle.wire.specs.Refusal.{refusal_code}
use Rattle.wire.specs.declared.refusal.Refusal.{Refusal}
use Rattle.answers.specs.declared.Outcome.{Outcome}
use Rattle.answers.specs.declared.Outcome.TheVariants.{Replied, Unanswered, Nak}
use Rattle.answers.specs.declared.Answered as Made

-- what one finished message came to: its code, how much was written, and the settings after it
pub record Answered : Type 0 where
  pub code : ℕ
  pub wrote : ℕ
  pub settings : Settings

-- what a call returns, and the bytes that it writes
pub record Answering : Type 0 where
  pub answered : Answered
  pub bytes : List ℕ

-- "Codes from 20 .. return the state given."
abbrev pub refused : ℕ → Settings → Answering
refused code s = record { answered = record { code = code; wrote = 0; settings = s }; bytes = [] }

abbrev pub replied : Settings → Message → Answering
replied s m =
    record {
      answered = record { code = code_of s m; wrote = length (reply_of s m); settings = settings_after s m };
      bytes = reply_of s m;
    }

unfoldable pub answer_of : Settings → Message → ℕ → Answering
answer_of s m room = pick (ltb room (length (reply_of s m))) (refused Code.no_room s) (replied s m)

-- ---- the same of what the code answers with

-- the number of an outcome
abbrev pub outcome_code : Outcome → ℕ
outcome_code Replied = Code.done
outcome_code Unanswered = Code.no_reply_due
outcome_code (Nak r) = refusal_code r

abbrev pub answered_says : Settings → Result Made.Answered Refusal → Answered
answered_says s (Ok a) = record { code = outcome_code a.outcome; wrote = a.wrote; settings = a.settings }
answered_says s (Err r) = record { code = refusal_code r; wrote = 0; settings = s }
