-- What the code answers with, in the words of items/specs/Answer: a code and the settings.
use Rattle.std.specs.Prelude.{Option, None, Some, Result, Ok, Err}
use Rattle.wire.specs.Codes as Code
use Rattle.wire.specs.Refusal.{refusal_code}
use Rattle.wire.specs.declared.refusal.Refusal.{Refusal}
use Rattle.items.specs.declared.Settings.{Settings}
use Rattle.items.specs.Answer.{Judged}

-- A set that is obeyed is 1, with the settings that it leaves; one that is refused leaves every setting.
abbrev pub set_says : Settings → Result Settings Refusal → Judged
set_says s (Ok to) = record { code = Code.done; settings = to }
set_says s (Err r) = record { code = refusal_code r; settings = s }

-- So is a message; where no reply is due, it is 2, and every setting stays.
abbrev pub judged_says : Settings → Result (Option Settings) Refusal → Judged
judged_says s (Ok (Some to)) = record { code = Code.done; settings = to }
judged_says s (Ok None) = record { code = Code.no_reply_due; settings = s }
judged_says s (Err r) = record { code = refusal_code r; settings = s }
