-- Two settings, either order (02, No. 11), of the box: "with a valid box between messages, two set messages for different items among 0019,
-- 0020, 0038, 00B0, 00B8 and 00C4 leave the same settings in either order and get the same replies, accepted or not." Which pairs these
-- are, and why, stands in items/specs/EitherOrder; what holds in pieces, and of more than two, in Scripts.
use Rattle.std.specs.Prelude.{ℕ, ◌≡◌, true, List, [], ◌∷◌, ◌⊎◌, length}
use Rattle.wire.specs.Choice.{pick, one_of}
use Rattle.wire.specs.Codes as Code
use Rattle.wire.specs.Header.{nak, type_set}
use Rattle.framing.specs.Framing.{announced}
use Rattle.items.specs.declared.Settings.{Settings}
use Rattle.items.specs.Items.{state}
use Rattle.items.specs.Answer.{item_in}
use Rattle.items.specs.Touching.{named}
use Rattle.items.specs.EitherOrder.{six_items, excepted, Exchangeable}
use Rattle.station.specs.declared.Station.{Station}
use Rattle.station.specs.Station.{fresh_station, session_serial}
use Rattle.station.specs.Feeding.{Feeding, feeding_of}
use Rattle.demands.specs.Shown.{message_of, resting}

-- a whole set message, of any length and with any bytes: as many as its header announces
pub record WholeSet (m : List ℕ) : Type 0 where
  pub announces : announced m ≡ length m
  pub is_set : (message_of m).type ≡ type_set

-- ---- each message in a call of its own

-- the box after a message that is fed with this much room for its reply
abbrev pub box_after : Station → List ℕ → ℕ → Station
box_after s m room = (feeding_of s m room).fed.station

-- two calls tell the host the same: the code, how many bytes were consumed and written, and the reply
abbrev pub SameAnswer : Feeding → Feeding → Type 0
SameAnswer f g =
    (f.fed.code ≡ g.fed.code)
    × (f.fed.consumed ≡ g.fed.consumed)
    × (f.fed.wrote ≡ g.fed.wrote)
    × (f.bytes ≡ g.bytes)

-- Two messages, each with its own room: the box after both is the same in either order, its words too, and each message is answered the
-- same whether it comes first or second.
pub record FedInEitherOrder (s : Station) (m n : List ℕ) (m_room n_room : ℕ) : Type 0 where
  pub box : box_after (box_after s m m_room) n n_room ≡ box_after (box_after s n n_room) m m_room
  pub to_m : SameAnswer (feeding_of s m m_room) (feeding_of (box_after s n n_room) m m_room)
  pub to_n : SameAnswer (feeding_of s n n_room) (feeding_of (box_after s m m_room) n n_room)

-- Every two whole sets that may change places may be fed in either order to a box between messages. It may be idle or running; the rooms
-- may be too small, or the box be broken, since such calls are refused alike in either order.
abbrev pub SetsFedInEitherOrder : Type 0
SetsFedInEitherOrder =
    (s : Settings) (m n : List ℕ) (m_room n_room : ℕ) → WholeSet m → WholeSet n → Exchangeable (named (message_of m)) (named (message_of n))
    → FedInEitherOrder (resting s) m n m_room n_room

-- ---- examples

-- what comes of two sets m and n in one order: the code and the reply of each, and what is seen of the settings after both
pub record InOneOrder : Type 0 where
  pub m_code : ℕ
  pub m_reply : List ℕ
  pub n_code : ℕ
  pub n_reply : List ℕ
  pub numbers : List ℕ

abbrev in_one_order : ℕ → List ℕ → ℕ → List ℕ → List ℕ → InOneOrder
in_one_order m_code m_reply n_code n_reply numbers =
    record { m_code = m_code; m_reply = m_reply; n_code = n_code; n_reply = n_reply; numbers = numbers }

-- What a fresh box is fed first, then two sets, and what comes of them where m is fed first and where n is.
pub record BothOrders : Type 0 where
  pub before : List (List ℕ)
  pub m : List ℕ
  pub n : List ℕ
  pub seen : Settings → List ℕ
  pub m_first : InOneOrder
  pub n_first : InOneOrder

-- messages fed one after the other, each with room for any reply
abbrev pub box_after_each : Station → List (List ℕ) → Station
box_after_each s [] = s
box_after_each s (m ∷ ms) = box_after_each (box_after s m 64) ms

abbrev pub box_before : BothOrders → Station
box_before e = box_after_each (fresh_station session_serial) e.before

-- so the box computes
abbrev pub Computes : BothOrders → Type 0
Computes e =
    let s = box_before e in
    let m_first = feeding_of s e.m 64 in
    let n_second = feeding_of m_first.fed.station e.n 64 in
    let n_first = feeding_of s e.n 64 in
    let m_second = feeding_of n_first.fed.station e.m 64 in
    (in_one_order m_first.fed.code m_first.bytes n_second.fed.code n_second.bytes (e.seen n_second.fed.station.settings)
    ≡ e.m_first)
    × (in_one_order m_second.fed.code m_second.bytes n_first.fed.code n_first.bytes (e.seen m_second.fed.station.settings)
    ≡ e.n_first)

-- sets, as bytes: 14,010,000 Hz on a channel, 20,000,000 on channel 02, 34,000,001 on channel 00
abbrev pub set_frequency : ℕ → List ℕ
set_frequency channel = 0x0A ∷ 0x00 ∷ 0x20 ∷ 0x00 ∷ channel ∷ 0x90 ∷ 0xC6 ∷ 0xD5 ∷ 0x00 ∷ 0x00 ∷ []

abbrev pub set_second_frequency : List ℕ
set_second_frequency = 0x0A ∷ 0x00 ∷ 0x20 ∷ 0x00 ∷ 0x02 ∷ 0x00 ∷ 0x2D ∷ 0x31 ∷ 0x01 ∷ 0x00 ∷ []

abbrev set_frequency_too_high : List ℕ
set_frequency_too_high = 0x0A ∷ 0x00 ∷ 0x20 ∷ 0x00 ∷ 0x00 ∷ 0x81 ∷ 0xCC ∷ 0x06 ∷ 0x02 ∷ 0x00 ∷ []

-- a gain; 80,000,123 Hz; 100,000 samples a second; small packets; two channels; running with 24 bits
abbrev pub set_gain : ℕ → ℕ → List ℕ
set_gain channel gain = 0x06 ∷ 0x00 ∷ 0x38 ∷ 0x00 ∷ channel ∷ gain ∷ []

abbrev pub set_clock : List ℕ
set_clock = 0x09 ∷ 0x00 ∷ 0xB0 ∷ 0x00 ∷ 0x00 ∷ 0x7B ∷ 0xB4 ∷ 0xC4 ∷ 0x04 ∷ []

abbrev pub set_rate : List ℕ
set_rate = 0x09 ∷ 0x00 ∷ 0xB8 ∷ 0x00 ∷ 0x00 ∷ 0xA0 ∷ 0x86 ∷ 0x01 ∷ 0x00 ∷ []

abbrev pub small_packets : List ℕ
small_packets = 0x05 ∷ 0x00 ∷ 0xC4 ∷ 0x00 ∷ 0x01 ∷ []

abbrev pub two_channels : List ℕ
two_channels = 0x05 ∷ 0x00 ∷ 0x19 ∷ 0x00 ∷ 0x04 ∷ []

abbrev start_box : List ℕ
start_box = 0x08 ∷ 0x00 ∷ 0x18 ∷ 0x00 ∷ 0x80 ∷ 0x02 ∷ 0x80 ∷ 0x00 ∷ []

-- what is seen of the settings
abbrev both_frequencies : Settings → List ℕ
both_frequencies s = s.setup ∷ s.first.frequency ∷ s.second.frequency ∷ []

abbrev both_gains : Settings → List ℕ
both_gains s = s.setup ∷ s.first.gain ∷ s.second.gain ∷ []

abbrev rate_and_size : Settings → List ℕ
rate_and_size s = s.divisor ∷ s.size ∷ pick s.running 1 0 ∷ []

-- both echoed
abbrev both_echoed : List ℕ → List ℕ → List ℕ → InOneOrder
both_echoed m n numbers = in_one_order Code.done m Code.done n numbers

abbrev in_both_orders : List (List ℕ) → List ℕ → List ℕ → (Settings → List ℕ) → InOneOrder → InOneOrder → BothOrders
in_both_orders before m n seen m_first n_first = record { before = before; m = m; n = n; seen = seen; m_first = m_first; n_first = n_first }

-- the same in either order
abbrev either_way : List (List ℕ) → List ℕ → List ℕ → (Settings → List ℕ) → InOneOrder → BothOrders
either_way before m n seen both = in_both_orders before m n seen both both

abbrev pub commuting : List BothOrders
commuting =
    either_way [] (set_frequency 0x00) set_clock (λ s. s.first.frequency ∷ s.clock ∷ s.first.word ∷ [])
    (both_echoed (set_frequency 0x00) set_clock (14_010_000 ∷ 80_000_123 ∷ 752_154_991 ∷ []))
    ∷ either_way [] two_channels (set_frequency 0x00) both_frequencies
    (both_echoed two_channels (set_frequency 0x00) (4 ∷ 14_010_000 ∷ 10_000_000 ∷ []))
    ∷ either_way [] set_rate small_packets rate_and_size (both_echoed set_rate small_packets (200 ∷ 1 ∷ 0 ∷ []))
    ∷ either_way (start_box ∷ []) set_rate small_packets rate_and_size
    (in_one_order Code.not_while_running nak Code.not_while_running nak (100 ∷ 0 ∷ 1 ∷ []))
    ∷ either_way [] (set_gain 0x00 0xF0) set_frequency_too_high (λ s. s.first.gain ∷ s.first.frequency ∷ [])
    (in_one_order Code.value_not_allowed nak Code.value_not_allowed nak (0 ∷ 10_000_000 ∷ []))
    ∷ either_way (two_channels ∷ []) (set_frequency 0x00) set_second_frequency both_frequencies
    (both_echoed (set_frequency 0x00) set_second_frequency (4 ∷ 14_010_000 ∷ 20_000_000 ∷ []))
    ∷ []

-- these are pairs that the claim is about
abbrev pub Claimed : BothOrders → Type 0
Claimed e = WholeSet e.m × WholeSet e.n × Exchangeable (named (message_of e.m)) (named (message_of e.n))

-- "FF and 02 are named exceptions": where 0019 is set first, a set with FF covers channel 02 too, and one with 02 is taken. "Item 0018 is
-- named as the exception with an example": what is 17 while running is taken before the box is started, and not after.
abbrev pub exceptions : List BothOrders
exceptions =
    in_both_orders [] two_channels (set_frequency 0xFF) both_frequencies
    (both_echoed two_channels (set_frequency 0xFF) (4 ∷ 14_010_000 ∷ 14_010_000 ∷ []))
    (both_echoed two_channels (set_frequency 0xFF) (4 ∷ 14_010_000 ∷ 10_000_000 ∷ []))
    ∷ in_both_orders [] two_channels (set_gain 0xFF 0xF6) both_gains
    (both_echoed two_channels (set_gain 0xFF 0xF6) (4 ∷ 0xF6 ∷ 0xF6 ∷ []))
    (both_echoed two_channels (set_gain 0xFF 0xF6) (4 ∷ 0xF6 ∷ 0x00 ∷ []))
    ∷ in_both_orders [] two_channels (set_frequency 0x02) both_frequencies
    (both_echoed two_channels (set_frequency 0x02) (4 ∷ 10_000_000 ∷ 14_010_000 ∷ []))
    (in_one_order Code.done two_channels Code.channel_not_allowed nak (4 ∷ 10_000_000 ∷ 10_000_000 ∷ []))
    ∷ in_both_orders [] two_channels (set_gain 0x02 0xF6) both_gains
    (both_echoed two_channels (set_gain 0x02 0xF6) (4 ∷ 0x00 ∷ 0xF6 ∷ []))
    (in_one_order Code.done two_channels Code.channel_not_allowed nak (4 ∷ 0x00 ∷ 0x00 ∷ []))
    ∷ in_both_orders [] set_rate start_box rate_and_size
    (both_echoed set_rate start_box (200 ∷ 0 ∷ 1 ∷ []))
    (in_one_order Code.not_while_running nak Code.done start_box (100 ∷ 0 ∷ 1 ∷ []))
    ∷ []

-- these are whole sets, of the exceptions that 02 names: 0019 with 0020 or 0038 on FF or 02; one of the six with 0018
abbrev pub IsException : BothOrders → Type 0
IsException e =
    WholeSet e.m
    × WholeSet e.n
    × (one_of (item_in (message_of e.m)) six_items ≡ true)
    × ((excepted (named (message_of e.m)) (named (message_of e.n)) ≡ true) ⊎ (item_in (message_of e.n) ≡ state.code))

-- and such sets may not be fed in either order
abbrev pub OrderTells : BothOrders → Type 0
OrderTells e = FedInEitherOrder (box_before e) e.m e.n 64 64 → ⊥
