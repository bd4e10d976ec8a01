-- The tuning word that a box keeps (02, No. 5): "Keep it in the box's settings, true after every message, refused ones too. A box whose
-- stored word disagrees with its frequency and clock is broken (21). Replies do not change."
use Rattle.std.specs.Prelude.{ℕ, ◌≡◌, true, false, List, [], ◌∷◌, ℤ}
use Rattle.wire.specs.Choice.{one_of}
use Rattle.wire.specs.Codes as Code
use Rattle.wire.specs.Told.{tells}
use Rattle.tuning.specs.Word.{word_of}
use Rattle.framing.specs.declared.Store.{Store}
use Rattle.items.specs.declared.Channel.{Channel}
use Rattle.items.specs.declared.Settings.{Settings}
use Rattle.items.specs.Settings.{in_range, open_channels, channel_at, with_tuning}
use Rattle.items.specs.Answer.{Message, code_of, reply_of, settings_after}
use Rattle.station.specs.declared.Station.{Station}
use Rattle.station.specs.Station.{tuning_told}
use Rattle.station.specs.Feeding.{feeding_of, refused as not_fed}
use Rattle.cutting.specs.Cutting.{cutting_of, refused as not_cut}
use Rattle.demands.specs.Reached.{Reachable}

-- either channel's word is that of its frequency and the clock
abbrev pub TrueWord : Settings → Type 0
TrueWord s =
    (s.first.word ≡ word_of s.first.frequency s.clock) × (s.second.word ≡ word_of s.second.frequency s.clock)

-- "true after every message, refused ones too": any message, whether it is accepted, refused or unanswered
abbrev pub TrueAfterEveryMessage : Type 0
TrueAfterEveryMessage = (s : Settings) (m : Message) → in_range s ≡ true → TrueWord (settings_after s m)

-- "Keep it in the box's settings": there it is read, and the question for the word of an open channel tells the same
pub record AtHand (s : Station) : Type 0 where
  pub kept : TrueWord s.settings
  pub told : (channel : ℕ) → one_of channel (open_channels s.settings.setup) ≡ true
      → tuning_told s channel ≡ tells Code.done ((channel_at channel s.settings).word ∷ [])

-- so of every box that calls make of a fresh one, refused calls too
abbrev pub WordAtHand : Type 0
WordAtHand = (s : Station) → Reachable s → AtHand s

-- A broken box: every call is 21. It consumes nothing, writes nothing, and returns the box given; the question has no word to tell.
pub record BrokenBox (s : Station) : Type 0 where
  pub feeding : (host : List ℕ) (room : ℕ) → feeding_of s host room ≡ not_fed Code.broken s
  pub cutting : (samples : List ℤ) (room : ℕ) → cutting_of s samples room ≡ not_cut Code.broken s
  pub asking : (channel : ℕ) → tuning_told s channel ≡ tells Code.broken []

-- "A box whose stored word disagrees with its frequency and clock is broken (21)", whatever else it holds
abbrev pub AnotherWordIsBroken : Type 0
AnotherWordIsBroken =
    (s : Settings) → (TrueWord s → ⊥)
    → (in_range s ≡ false) × ((store : Store) → BrokenBox (record { settings = s; store = store }))

-- a channel with another word, and the settings with others in either channel
abbrev pub worded : ℕ → Channel → Channel
worded w c = record { frequency = c.frequency; word = w; gain = c.gain }

abbrev pub with_words : ℕ → ℕ → Settings → Settings
with_words v w s = with_tuning (worded v s.first) (worded w s.second) s.clock s

-- A message is answered as if the words were others. What it leaves then differs in the words at most, so the same holds of every
-- message after it.
pub record SameButForTheWords (v w : ℕ) (s : Settings) (m : Message) : Type 0 where
  pub code : code_of (with_words v w s) m ≡ code_of s m
  pub reply : reply_of (with_words v w s) m ≡ reply_of s m
  pub after : (x y : ℕ) → with_words x y (settings_after (with_words v w s) m) ≡ with_words x y (settings_after s m)

-- "Replies do not change": of any settings, broken ones too
abbrev pub RepliesIgnoreTheWord : Type 0
RepliesIgnoreTheWord = (v w : ℕ) (s : Settings) (m : Message) → SameButForTheWords v w s m
