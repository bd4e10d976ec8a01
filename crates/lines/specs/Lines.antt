-- The lines that the span program prints, and their text.
use Rattle.std.specs.Prelude.{ℕ, zero, suc, ◌+◌, ◌*◌, ◌/◌, ◌%◌, ◌≤◌, ◌<◌, ◌≡◌, Bool, true, ◌&&◌, List, [], ◌∷◌, ◌++◌, eqb, ltb}
use Rattle.wire.specs.Choice.{pick}
use Rattle.packets.specs.declared.Form.{Form}

-- ---- text

-- the last digit of a number, in ASCII
abbrev pub last_digit : ℕ → ℕ
last_digit n = 48 + n % 10

-- A number in decimal, with no zeros in front. The first argument is a bound on the digits after the first: a number has
-- no more of them than it counts, so the number itself serves.
unfoldable pub digits_in : ℕ → ℕ → List ℕ
digits_in zero n = last_digit n ∷ []
digits_in (suc k) n = pick (ltb n 10) (last_digit n ∷ []) (digits_in k (n / 10) ++ last_digit n ∷ [])

unfoldable pub decimal : ℕ → List ℕ
decimal n = digits_in n n

-- a line: a word and numbers
pub record Line : Type 0 where
  pub word : List ℕ
  pub numbers : List ℕ

-- a space before each number
abbrev pub numbers_text : List ℕ → List ℕ
numbers_text [] = []
numbers_text (n ∷ ns) = 0x20 ∷ decimal n ++ numbers_text ns

abbrev pub text_with : List ℕ → List ℕ → List ℕ
text_with word numbers = word ++ (numbers_text numbers ++ 0x0A ∷ [])

abbrev pub line_text : Line → List ℕ
line_text l = text_with l.word l.numbers

abbrev pub text_of : List Line → List ℕ
text_of [] = []
text_of (l ∷ ls) = line_text l ++ text_of ls

-- ---- the four kinds of line

-- "It prints `SPAN 1`"
abbrev pub opening_line : Line
opening_line = record { word = 0x53 ∷ 0x50 ∷ 0x41 ∷ 0x4E ∷ []; numbers = 1 ∷ [] }

-- samples covered: each position has a packet's pairs
abbrev pub samples_over : Form → ℕ → ℕ
samples_over f positions = positions * f.pairs

-- "End times then count samples x 4D / clock seconds, in microseconds rounded down." (02, No. 9)
abbrev pub end_time : ℕ → ℕ → ℕ → ℕ
end_time d clock samples = samples * (4 * d) * 1_000_000 / clock

-- "`C` with capture number, bits, pairs per packet, packets heard, positions covered (last + 1), samples covered, and end
-- time": of a capture of a form at D and a clock. "The span line gets missed packets as a last field."
abbrev pub capture_line : Form → ℕ → ℕ → ℕ → ℕ → ℕ → ℕ → Line
capture_line f d clock capture heard last missed =
    record {
      word = 0x43 ∷ [];
      numbers =
          capture
          ∷ f.bits
          ∷ f.pairs
          ∷ heard
          ∷ (last + 1)
          ∷ samples_over f (last + 1)
          ∷ end_time d clock (samples_over f (last + 1))
          ∷ missed
          ∷ [];
    }

-- "`R code offset` (input byte where the refused head or packet begins)"
abbrev pub refusal_line : ℕ → ℕ → Line
refusal_line code offset = record { word = 0x52 ∷ []; numbers = code ∷ offset ∷ [] }

-- "`E` with the count of captures"
abbrev pub end_line : ℕ → Line
end_line captures = record { word = 0x45 ∷ []; numbers = captures ∷ [] }

-- ---- what is proved of the end time: proofs/Times

-- So many samples at D and a clock: the greatest whole number of microseconds that is not above samples x 4D / clock seconds.
pub record ExactTime (d clock samples : ℕ) : Type 0 where
  pub low : end_time d clock samples * clock ≤ samples * 4 * d * 1_000_000
  pub high : samples * 4 * d * 1_000_000 < (end_time d clock samples + 1) * clock

abbrev pub TimeExact : Type 0
TimeExact = (d clock samples : ℕ) → 0 < clock → ExactTime d clock samples

-- 01: "end time in microseconds, samples x D / 20 rounded down". A head of version 1 has no clock; its capture has 80,000,000.
abbrev pub TimeAsBefore : Type 0
TimeAsBefore = (d samples : ℕ) → end_time d 80_000_000 samples ≡ samples * d / 20

-- an end time: at D and a clock so many samples take so many microseconds
pub record Timed : Type 0 where
  pub divisor : ℕ
  pub clock : ℕ
  pub samples : ℕ
  pub time : ℕ

abbrev timed : ℕ → ℕ → ℕ → ℕ → Timed
timed d clock samples time = record { divisor = d; clock = clock; samples = samples; time = time }

abbrev pub is_timed : Timed → Bool
is_timed t = eqb (end_time t.divisor t.clock t.samples) t.time

abbrev pub all_timed : List Timed → Bool
all_timed [] = true
all_timed (t ∷ ts) = is_timed t && all_timed ts

-- with the least clock, the greatest and that of version 1; the last is the longest capture
abbrev pub times : List Timed
times =
    timed 100 80_000_000 320 1_600
    ∷ timed 100 79_992_000 320 1_600
    ∷ timed 10 79_992_000 3_000_000 1_500_150
    ∷ timed 10 80_008_000 3_000_000 1_499_850
    ∷ timed 10 80_000_000 2_000 1_000
    ∷ timed 10 80_008_000 2_000 999
    ∷ timed 625 79_992_000 1_024_000_000_000 32_003_200_320_032
    ∷ []
