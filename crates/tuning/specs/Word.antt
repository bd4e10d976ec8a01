-- Tuning word (house): "The offset n is the frequency, or 160,000,000 less the frequency in the second band. The word is
-- n x 2^32 / clock to the nearest whole number, halves up". Of 01's "it is worked out when asked" 02 has made: "Keep it in the
-- box's settings, true after every message, refused ones too." (No. 5; items/specs/Settings)
use Rattle.std.specs.Prelude.{ℕ, ◌-◌, ◌*◌, ◌^◌, Bool, not, ◌&&◌, [], ◌∷◌, ◌==◌, Result}
use Rattle.wire.specs.Choice.{pick, check, first_of, first_row, within}
use Rattle.wire.specs.Codes as Code
use Rattle.wire.specs.Halves.{halves_up}
use Rattle.wire.specs.Told.{Told, tells}
use Rattle.wire.specs.Refusal.{told}
use Rattle.wire.specs.declared.refusal.Refusal.{Refusal}
use Rattle.tuning.specs.Bands.{Band, bands, covers, in_bands}

-- the offset in a band: the frequency where the band has no oscillator, else the oscillator less the frequency
abbrev pub offset_in : Band → ℕ → ℕ
offset_in b hz = pick (b.oscillator == 0) hz (b.oscillator - hz)

-- the offset in the first band that has the frequency, 0 where none has it
abbrev pub offset_of : ℕ → ℕ
offset_of hz = first_row (λ b. covers b hz) (λ b. offset_in b hz) 0 bands

-- n x 2^32 / clock, halves up
unfoldable pub word_of : ℕ → ℕ → ℕ
word_of hz clock = halves_up (offset_of hz * 2 ^ 32) clock

-- clock: "79,992,000 to 80,008,000 (house)"
abbrev pub is_clock : ℕ → Bool
is_clock hz = within 79_992_000 80_008_000 hz

-- a frequency of a band and a clock that may be set have a word
abbrev pub has_word : ℕ → ℕ → Bool
has_word hz clock = in_bands hz && is_clock clock

-- the word that a box keeps with a frequency and a clock; where they have none, as only a broken box's may, 0
abbrev pub word_kept : ℕ → ℕ → ℕ
word_kept hz clock = pick (has_word hz clock) (word_of hz clock) 0

-- the number and the value of each answer: 1 and the word, or the refusal's code
abbrev pub word_says : Result ℕ Refusal → Told
word_says = told (λ w. w ∷ [])

-- "value not allowed": the frequency lies in no band, or the clock is none that may be set
abbrev pub word_code : ℕ → ℕ → ℕ
word_code hz clock = first_of (check Code.value_not_allowed (not (has_word hz clock)) ∷ []) Code.done

-- what asking for the word of a frequency at a clock tells
abbrev pub word_told : ℕ → ℕ → Told
word_told hz clock = tells (word_code hz clock) (word_of hz clock ∷ [])
