-- The box: when it is broken, a fresh one, and its tuning word.
use Rattle.std.specs.Prelude.{ℕ, Result, Bool, ◌&&◌, not, List, [], ◌∷◌, eqb}
use Rattle.wire.specs.Choice.{pick, one_of, Check, check, first_of}
use Rattle.wire.specs.Codes as Code
use Rattle.wire.specs.Told.{Told, tells}
use Rattle.wire.specs.Refusal.{told}
use Rattle.wire.specs.declared.refusal.Refusal.{Refusal}
use Rattle.tuning.specs.Word.{word_of}
use Rattle.framing.specs.Framing.{between, could_be_left}
use Rattle.items.specs.declared.Settings.{Settings}
use Rattle.items.specs.declared.Begun.{Begun}
use Rattle.items.specs.Settings.{serial_code, in_range, fresh_of, fresh_answer, open_channels, channel_at}
use Rattle.station.specs.declared.Station.{Station}

-- a box in parts: its settings, the bytes held, and how many were taken
abbrev pub box_of : Settings → List ℕ → ℕ → Station
box_of settings held taken = record { settings = settings; store = record { held = held; taken = taken } }

-- "A box with a field outside these rules is broken (21). Its unfinished message must also be one that some bytes could have left."
unfoldable pub valid : Station → Bool
valid s = in_range s.settings && could_be_left s.store

-- a fresh box, and the code for its serial
pub record FreshBox : Type 0 where
  pub code : ℕ
  pub station : Station

-- A fresh box from a serial: "26: serial not eight of A-Z, 0-9 .. the fresh box has serial 00000000".
abbrev pub fresh_box : List ℕ → FreshBox
fresh_box serial =
    record {
      code = (fresh_answer serial).code;
      station = record { settings = (fresh_answer serial).settings; store = between };
    }

-- the same of what the code answers with
abbrev pub box_says : Begun Station → FreshBox
box_says b = record { code = serial_code b.refused; station = b.made }

-- what an answer tells, in the numbers of "What comes back": 1 and the word, 15, or 21
abbrev pub tuning_says : Result ℕ Refusal → Told
tuning_says = told (λ w. w ∷ [])

-- The question for the word of a channel: a broken box has none; "With 4, frequency, tuning word and gain are open for channels 00 and
-- 02", and "channel 02 with value 0 is 15".
abbrev pub word_checks : Station → ℕ → List Check
word_checks s channel =
    check Code.broken (not (valid s))
    ∷ check Code.channel_not_allowed (not (one_of channel (open_channels s.settings.setup)))
    ∷ []

unfoldable pub word_code : Station → ℕ → ℕ
word_code s channel = first_of (word_checks s channel) Code.done

-- The tuning word of the channel's frequency and the box's clock. It is the one that is kept (proofs/Words: `told_as_kept`).
abbrev pub word_in : Station → ℕ → ℕ
word_in s channel = word_of (channel_at channel s.settings).frequency s.settings.clock

unfoldable pub tuning_told : Station → ℕ → Told
tuning_told s channel = tells (word_code s channel) (pick (eqb (word_code s channel) Code.done) (word_in s channel ∷ []) [])

-- a fresh box, between messages
abbrev pub fresh_station : List ℕ → Station
fresh_station serial = record { settings = fresh_of serial; store = between }

-- "a fresh box with serial MT123456"
abbrev pub session_serial : List ℕ
session_serial = 0x4D ∷ 0x54 ∷ 0x31 ∷ 0x32 ∷ 0x33 ∷ 0x34 ∷ 0x35 ∷ 0x36 ∷ []
