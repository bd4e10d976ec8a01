-- One tuning channel or two in a packet (request No. 7 of document 02): "packets hold channel 1 I, Q then channel 2 I, Q, so pairs per
-- channel are 120, 32, 128 and 64". A form has all pairs of a packet; each channel has as many of them as the other.
use Rattle.std.specs.Prelude.{ℕ, ◌+◌, ◌*◌, ◌/◌, ◌<◌, ◌≡◌, Bool, true, List, [], ◌∷◌, map}
use Rattle.wire.specs.Choice.{one_of}
use Rattle.packets.specs.declared.Form.{Form}
use Rattle.packets.specs.Forms.{forms, form_of, listed_form}

-- a channel count: how many channels the packets of a capture hold
abbrev pub is_count : ℕ → Bool
is_count n = one_of n (1 ∷ 2 ∷ [])

-- the I/Q pairs of one channel in a packet of so many channels
abbrev pub pairs_each : ℕ → Form → ℕ
pairs_each n f = f.pairs / n

-- the form as one channel has it: its width, and its own pairs
abbrev pub each_of : ℕ → Form → Form
each_of n f = record { bits = f.bits; pairs = pairs_each n f }

-- "channel 1 I, Q then channel 2 I, Q", pair by pair (003: "Channel 1 and 2 data is interleaved"): the place among the numbers of a packet
-- of n channels at which I (j = 0) or Q (j = 1) of pair k of channel c stands, all counted from 0
abbrev pub place_of : ℕ → ℕ → ℕ → ℕ → ℕ
place_of n k c j = 2 * (n * k + c) + j

-- ---- what is proved of it: proofs/Channels

-- in each row of the table of forms
abbrev pub pairs_in_rows : ℕ → List ℕ
pairs_in_rows n = map (λ r. pairs_each n (form_of r)) forms

pub record PairsPerChannel : Type 0 where
  pub of_one : pairs_in_rows 1 ≡ 240 ∷ 64 ∷ 256 ∷ 128 ∷ []
  -- "so pairs per channel are 120, 32, 128 and 64"
  pub of_two : pairs_in_rows 2 ≡ 120 ∷ 32 ∷ 128 ∷ 64 ∷ []

-- 003, 4.5.1.4 prints the first numbers of a packet of two channels as I11 Q11 I21 Q21 I12 Q12 I22 Q22, and of one as I1 Q1 I2 Q2: the
-- places in the order in which they are printed there.
pub record AsPrinted : Type 0 where
  pub of_two :
      place_of 2 0 0 0 ∷ place_of 2 0 0 1 ∷ place_of 2 0 1 0 ∷ place_of 2 0 1 1
      ∷ place_of 2 1 0 0 ∷ place_of 2 1 0 1 ∷ place_of 2 1 1 0 ∷ place_of 2 1 1 1 ∷ []
      ≡ 0 ∷ 1 ∷ 2 ∷ 3 ∷ 4 ∷ 5 ∷ 6 ∷ 7 ∷ []
  pub of_one : place_of 1 0 0 0 ∷ place_of 1 0 0 1 ∷ place_of 1 1 0 0 ∷ place_of 1 1 0 1 ∷ [] ≡ 0 ∷ 1 ∷ 2 ∷ 3 ∷ []
  -- and so on: each pair stands as many places behind the one before as there are numbers of a pair in all channels
  pub onwards : (n k c j : ℕ) → place_of n (k + 1) c j ≡ place_of n k c j + 2 * n

-- a number of a packet: a channel, a pair of it, and I or Q
pub record IsNumber (n : ℕ) (f : Form) (k c j : ℕ) : Type 0 where
  pub pair : k < pairs_each n f
  pub channel : c < n
  pub part : j < 2

-- the number that stands at a place
pub record StandsAt (n : ℕ) (f : Form) (place : ℕ) : Type 0 where
  pub k : ℕ
  pub c : ℕ
  pub j : ℕ
  pub number : IsNumber n f k c j
  pub there : place_of n k c j ≡ place

-- A packet has two numbers for each pair of its form. Each number of each channel has one of these places, no two have the same, and no
-- place is left over.
pub record InTurn (n : ℕ) (f : Form) : Type 0 where
  pub within : (k c j : ℕ) → IsNumber n f k c j → place_of n k c j < 2 * f.pairs
  pub apart : (k c j l d i : ℕ) → IsNumber n f k c j → IsNumber n f l d i → place_of n k c j ≡ place_of n l d i
      → (k ≡ l) × (c ≡ d) × (j ≡ i)
  pub all : (place : ℕ) → place < 2 * f.pairs → StandsAt n f place

-- once over the count and the form
abbrev pub ChannelsInTurn : Type 0
ChannelsInTurn = (n : ℕ) (f : Form) → is_count n ≡ true → listed_form f ≡ true → InTurn n f
