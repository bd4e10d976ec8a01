-- An end time asked for by itself: of so many samples of a channel, at a D and a clock.
use Rattle.std.specs.Prelude.{ℕ, ◌*◌, Bool, ◌&&◌, leb, Result, Ok, Err}
use Rattle.wire.specs.Choice.{pick}
use Rattle.wire.specs.Codes as Code
use Rattle.wire.specs.declared.refusal.Refusal.{Refusal}
use Rattle.wire.specs.Refusal.{refusal_code}
use Rattle.rates.specs.Rate.{is_d}
use Rattle.tuning.specs.Word.{is_clock}
use Rattle.packets.specs.Numbers.{most}
use Rattle.lines.specs.Lines.{end_time}

-- "capture holds 4,000,000,000 packets", and none has more than 256 pairs: so no capture has more samples of a channel
abbrev pub most_samples : ℕ
most_samples = most * 256

-- samples, a D and a clock that a capture can have
abbrev pub of_a_capture : ℕ → ℕ → ℕ → Bool
of_a_capture samples d clock = leb samples most_samples && is_d d && is_clock clock

-- what asking for an end time answers: its code, and the microseconds
pub record TimeAnswer : Type 0 where
  pub code : ℕ
  pub microseconds : ℕ

-- what an answer says of it
abbrev pub time_told : Result ℕ Refusal → TimeAnswer
time_told (Ok t) = record { code = Code.done; microseconds = t }
time_told (Err r) = record { code = refusal_code r; microseconds = 0 }

-- the microseconds, with 1; or 0, with 16, where no capture has these numbers
unfoldable pub timing_of : ℕ → ℕ → ℕ → TimeAnswer
timing_of samples d clock =
    pick (of_a_capture samples d clock) (record { code = Code.done; microseconds = end_time d clock samples })
    (record { code = Code.value_not_allowed; microseconds = 0 })
