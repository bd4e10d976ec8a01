-- The table of items. "Lengths are totals; a dash means not offered (14)." What every item shares
-- stands in Answer.antt.
use Rattle.std.specs.Prelude.{ℕ, Bool, true, false, ◌&&◌, ◌||◌, not, List, [], ◌∷◌, ◌++◌, eqb, ltb, length, get_or}
use Rattle.wire.specs.Choice.{pick, any_of, first_row}
use Rattle.wire.specs.Number.{bytes, field}
use Rattle.rates.specs.Rate.{may_ask, nearest_of, is_d, rate_of}
use Rattle.tuning.specs.Bands.{in_bands}
use Rattle.tuning.specs.Word.{is_clock}
use Rattle.items.specs.declared.Settings.{Settings}
use Rattle.items.specs.Settings.{is_gain, is_mode, is_size, is_setup, with_count, with_clock, with_divisor, with_running, with_mode}
use Rattle.items.specs.Settings.{with_size, with_setup, channel_at, on_channels, tuned_to, gained_to}

-- what the table has for an item and a kind: the total length of the message, or a dash
pub data Offer : Type 0 where
  total : ℕ → Offer
  dash : Offer

-- the byte that an item may have before its value, a channel byte or an id: "the channel byte or id is echoed"
pub data Echoed : Type 0 where
  no_byte : Echoed
  an_id : Echoed
  -- "any channel byte"
  any_channel : Echoed
  -- a tuning channel
  a_channel : Echoed

-- how many bytes that is
abbrev pub echoes : Echoed → ℕ
echoes no_byte = 0
echoes an_id = 1
echoes any_channel = 1
echoes a_channel = 1

-- What the table's last column and the paragraphs below it say of an item. Parameters are the message's bytes from the
-- fifth on.
pub record Rule : Type 0 where
  -- a set with these parameters has a value that is allowed; so has a request
  pub settable : List ℕ → Bool
  pub askable : List ℕ → Bool
  -- a set with these parameters is not taken while running
  pub locked : Settings → List ℕ → Bool
  -- the settings after an accepted set
  pub stored : Settings → List ℕ → Settings
  -- the value's bytes in a reply
  pub value : Settings → List ℕ → List ℕ

-- One line of the table.
pub record Item : Type 0 where
  pub code : ℕ
  pub on_set : Offer
  pub on_request : Offer
  pub on_range : Offer
  pub echoed : Echoed
  pub rule : Rule

-- what most rules share
abbrev always : List ℕ → Bool
always p = true

abbrev never : Settings → List ℕ → Bool
never s p = false

abbrev unset : Settings → List ℕ → Settings
unset s p = s

-- an item that is never set, and is shown by these bytes
abbrev shown : (Settings → List ℕ → List ℕ) → Rule
shown value =
    record { settable = always; askable = always; locked = never; stored = unset; value = value }

-- ---- the rules

-- name: "NetSDR" and a zero byte
abbrev pub name_bytes : List ℕ
name_bytes = 0x4E ∷ 0x65 ∷ 0x74 ∷ 0x53 ∷ 0x44 ∷ 0x52 ∷ 0x00 ∷ []

abbrev name_rule : Rule
name_rule = shown (λ s p. name_bytes)

-- serial: eight characters and a zero byte
abbrev serial_rule : Rule
serial_rule = shown (λ s p. s.serial ++ 0x00 ∷ [])

-- interface: 105 in 16 bits
abbrev pub interface_number : ℕ
interface_number = 105

abbrev interface_rule : Rule
interface_rule = shown (λ s p. bytes 2 interface_number)

-- versions: id, then two bytes: 0: 64 00, 1: 6B 00, 2: 66 00, 3: 01 07 (house); other id 16
abbrev pub version_table : List (List ℕ)
version_table = (0x64 ∷ 0x00 ∷ []) ∷ (0x6B ∷ 0x00 ∷ []) ∷ (0x66 ∷ 0x00 ∷ []) ∷ (0x01 ∷ 0x07 ∷ []) ∷ []

abbrev pub is_version : ℕ → Bool
is_version id = ltb id (length version_table)

abbrev versions_rule : Rule
versions_rule =
    record {
      settable = always;
      askable = λ p. is_version (get_or p 0 0);
      locked = never;
      stored = unset;
      value = λ s p. get_or version_table (get_or p 0 0) [];
    }

-- status: 0B idle, 0C running
abbrev pub status_byte : Bool → ℕ
status_byte running = pick running 0x0C 0x0B

abbrev status_rule : Rule
status_rule = shown (λ s p. status_byte s.running ∷ [])

-- State. "Four bytes: 80 for complex data, run byte, capture mode, 00."
abbrev pub idle : ℕ
idle = 1

abbrev pub run : ℕ
run = 2

-- the run byte of a set
abbrev pub run_byte : List ℕ → ℕ
run_byte p = get_or p 1 0

-- the capture mode of a set
abbrev pub mode_byte : List ℕ → ℕ
mode_byte p = get_or p 2 0

-- "Run byte 1 is idle: the other three are ignored .. always accepted." "Run byte 2 starts: first byte 80 and mode 80 (24 bits)
-- or 00 (16 bits), else 16; the fourth byte is ignored. Other run bytes are 16."
abbrev pub may_state : List ℕ → Bool
may_state p = eqb (run_byte p) idle || (eqb (run_byte p) run && eqb (get_or p 0 0) 0x80 && is_mode (mode_byte p))

-- "Run while running in the same mode replies and changes nothing; in another mode 17."
abbrev pub other_mode : Settings → List ℕ → Bool
other_mode s p = eqb (run_byte p) run && not (eqb (mode_byte p) s.mode)

-- the settings after a set to a run byte and a mode: idle, "the mode is kept"; run, "Starting from idle sets the packet count
-- to 0."
abbrev pub state_to : ℕ → ℕ → Settings → Settings
state_to byte mode s =
    pick (eqb byte idle) (with_running false s) (pick s.running s (with_count 0 (with_mode mode (with_running true s))))

abbrev pub state_after : Settings → List ℕ → Settings
state_after s p = state_to (run_byte p) (mode_byte p) s

-- "Replies hold 80, run byte, mode, 00 (house)."
abbrev pub state_bytes : ℕ → ℕ → List ℕ
state_bytes byte mode = 0x80 ∷ byte ∷ mode ∷ 0x00 ∷ []

abbrev state_rule : Rule
state_rule =
    record {
      settable = may_state;
      askable = always;
      locked = other_mode;
      stored = state_after;
      value = λ s p. state_bytes (pick s.running run idle) s.mode;
    }

-- channel setup: "values 0 (single, the fresh value) and 4 (two channels, one converter)"; "setting it while running is 17"
abbrev setup_rule : Rule
setup_rule =
    record {
      settable = λ p. is_setup (get_or p 0 0);
      askable = always;
      locked = λ s p. true;
      stored = λ s p. with_setup (get_or p 0 0) s;
      value = λ s p. bytes 1 s.setup;
    }

-- frequency: channel, 40-bit Hz
abbrev frequency_rule : Rule
frequency_rule =
    record {
      settable = λ p. in_bands (field 1 5 p);
      askable = always;
      locked = never;
      stored = λ s p. on_channels (get_or p 0 0) (tuned_to (field 1 5 p) s.clock) s;
      value = λ s p. bytes 5 (channel_at (get_or p 0 0) s).frequency;
    }

-- RF gain: channel, signed byte 0, -10, -20 or -30
abbrev gain_rule : Rule
gain_rule =
    record {
      settable = λ p. is_gain (get_or p 1 0);
      askable = always;
      locked = never;
      stored = λ s p. on_channels (get_or p 0 0) (gained_to (get_or p 1 0)) s;
      value = λ s p. bytes 1 (channel_at (get_or p 0 0) s).gain;
    }

-- clock: any channel byte, 32-bit Hz, 79,992,000 to 80,008,000 (house)
abbrev clock_rule : Rule
clock_rule =
    record {
      settable = λ p. is_clock (field 1 4 p);
      askable = always;
      locked = never;
      stored = λ s p. with_clock (field 1 4 p) s;
      value = λ s p. bytes 4 s.clock;
    }

-- the achieved rate of a D; a divisor that is none, as only a broken box has it, has no rate
abbrev pub achieved_rate : ℕ → ℕ
achieved_rate d = pick (is_d d) (rate_of d) 0

-- rate: any channel byte, 32-bit Hz; "Items 00B8 and 00C4 cannot be set while running (17)."
abbrev rate_rule : Rule
rate_rule =
    record {
      settable = λ p. may_ask (field 1 4 p);
      askable = always;
      locked = λ s p. true;
      stored = λ s p. with_divisor (nearest_of (field 1 4 p)) s;
      value = λ s p. bytes 4 (achieved_rate s.divisor);
    }

-- packet size: 0 large, 1 small; as the rate it cannot be set while running
abbrev size_rule : Rule
size_rule =
    record {
      settable = λ p. is_size (get_or p 0 0);
      askable = always;
      locked = λ s p. true;
      stored = λ s p. with_size (get_or p 0 0) s;
      value = λ s p. bytes 1 s.size;
    }

-- ---- the table: item, set, request, range, channel byte or id, rule

abbrev line : ℕ → Offer → Offer → Offer → Echoed → Rule → Item
line code on_set on_request on_range echoed rule =
    record { code = code; on_set = on_set; on_request = on_request; on_range = on_range; echoed = echoed; rule = rule }

abbrev pub name : Item
name = line 0x0001 dash (total 4) dash no_byte name_rule

abbrev pub serial : Item
serial = line 0x0002 dash (total 4) dash no_byte serial_rule

abbrev pub interface : Item
interface = line 0x0003 dash (total 4) dash no_byte interface_rule

abbrev pub versions : Item
versions = line 0x0004 dash (total 5) dash an_id versions_rule

abbrev pub status : Item
status = line 0x0005 dash (total 4) dash no_byte status_rule

abbrev pub state : Item
state = line 0x0018 (total 8) (total 4) dash no_byte state_rule

-- "Add item 0019 of document 003 (set 5, request 4)" (02, No. 7)
abbrev pub channel_setup : Item
channel_setup = line 0x0019 (total 5) (total 4) dash no_byte setup_rule

-- "the only range request, length 5"
abbrev pub frequency : Item
frequency = line 0x0020 (total 10) (total 5) (total 5) a_channel frequency_rule

abbrev pub gain : Item
gain = line 0x0038 (total 6) (total 5) dash a_channel gain_rule

abbrev pub clock : Item
clock = line 0x00B0 (total 9) (total 5) dash any_channel clock_rule

abbrev pub rate : Item
rate = line 0x00B8 (total 9) (total 5) dash any_channel rate_rule

abbrev pub packet_size : Item
packet_size = line 0x00C4 (total 5) (total 4) dash no_byte size_rule

abbrev pub items : List Item
items =
    name
    ∷ serial
    ∷ interface
    ∷ versions
    ∷ status
    ∷ state
    ∷ channel_setup
    ∷ frequency
    ∷ gain
    ∷ clock
    ∷ rate
    ∷ packet_size
    ∷ []

-- an item code is in the list
abbrev pub listed_in : List Item → ℕ → Bool
listed_in is code = any_of (λ i. eqb code i.code) is

unfoldable pub listed_item : ℕ → Bool
listed_item code = listed_in items code

-- no item: every kind is a dash
abbrev pub no_item : Item
no_item = line 0 dash dash dash no_byte (shown (λ s p. []))

-- the row of an item code
abbrev pub row_in : List Item → ℕ → Item
row_in is code = first_row (λ i. eqb code i.code) (λ i. i) no_item is

unfoldable pub row_of : ℕ → Item
row_of code = row_in items code
