-- Harvester's wishes: "One wish for each kind and item above". "Wishes gain 0019 and a channel byte" (02, No. 7).
use Rattle.std.specs.Prelude.{ℕ, ◌+◌, ◌-◌, ◌^◌, ◌≤◌, ◌<◌, Bool, true, false, ◌&&◌, ◌||◌, not, ◌≡◌, Some, None, List, [], ◌∷◌, ◌++◌, map, eqb, ℤ, length, get_or, replicate}
use Rattle.std.specs.Int.Signed.{mag}
use Rattle.wire.specs.Choice.{pick, any_of}
use Rattle.wire.specs.Lists.{all_bytes}
use Rattle.wire.specs.Number.{number}
use Rattle.wire.specs.Signed.{coded, same_integer}
use Rattle.wire.specs.Header.{type_set, type_request, type_range}
use Rattle.rates.specs.Rate.{may_ask, nearest_of}
use Rattle.tuning.specs.Bands.{in_bands}
use Rattle.tuning.specs.Word.{is_clock}
use Rattle.layouts.specs.declared.Layout.{Layout}
use Rattle.layouts.specs.Layouts.{laid}
use Rattle.items.specs.declared.Settings.{Settings}
use Rattle.items.specs.Settings.{gains, is_mode, is_size, is_setup, single, dual, on_channels, tuned_to, gained_to}
use Rattle.items.specs.Settings.{with_clock, with_divisor, with_size, with_setup}
use Rattle.items.specs.Items.{echoes, Offer, total, dash, Item, items, name, serial, interface, versions, status}
use Rattle.items.specs.Items.{state, channel_setup, frequency, gain, clock, rate, packet_size, idle, run, is_version, state_to}
use Rattle.items.specs.Table.{offered}
use Rattle.items.specs.Answer.{Message, channel_allowed}
use Rattle.wishes.specs.declared.StateFields.{StateFields}
use Rattle.wishes.specs.declared.Wish.{Wish}
use Rattle.wishes.specs.declared.Wish.TheVariants.{AskName, AskSerial, AskInterface, AskVersion, AskStatus, SetState, AskState}
use Rattle.wishes.specs.declared.Wish.TheVariants.{SetChannelSetup, AskChannelSetup, SetFrequency, AskFrequency, AskFrequencyRange}
use Rattle.wishes.specs.declared.Wish.TheVariants.{SetGain, AskGain, SetClock, AskClock}
use Rattle.wishes.specs.declared.Wish.TheVariants.{SetRate, AskRate, SetPacketSize, AskPacketSize}

-- A value as it is sent: a number, least significant byte first; a signed byte; or byte after byte.
pub data Value : Type 0 where
  whole : ℕ → Value
  signed_byte : ℤ → Value
  in_bytes : List ℕ → Value

-- as one number
abbrev pub sent : Value → ℕ
sent (whole n) = n
sent (signed_byte z) = coded 8 z
sent (in_bytes l) = number l

-- a field of so many bytes holds all of it. (`mag` is z where z is not negative, and -z - 1 where it is.)
abbrev pub fits_in : ℕ → Value → Type 0
fits_in width (whole n) = n < 256 ^ width
fits_in width (signed_byte z) = (1 ≤ width) × (mag z < 128)
fits_in width (in_bytes l) = (length l ≤ width) × all_bytes l

-- What a wish asks for: an item of the table, the kind, the channel byte or id, which comes first where the item has one,
-- and the value.
pub record Asking : Type 0 where
  pub item : Item
  pub kind : ℕ
  pub echo : ℕ
  pub value : Value

-- of an item that has neither a channel byte nor an id
abbrev no_echo : ℕ
no_echo = 0

-- with the channel byte or id
abbrev pub request_of : Item → ℕ → Asking
request_of item byte = record { item = item; kind = type_request; echo = byte; value = whole 0 }

abbrev pub setting_of : Item → ℕ → Value → Asking
setting_of item byte value = record { item = item; kind = type_set; echo = byte; value = value }

abbrev pub request : Item → Asking
request item = request_of item no_echo

abbrev pub setting : Item → Value → Asking
setting item value = setting_of item no_echo value

-- "Idle is sent as 00 01 00 00, run as 80 02, mode, 00."
abbrev pub state_sent : StateFields → List ℕ
state_sent f =
    pick (eqb f.run idle) (0x00 ∷ 0x01 ∷ 0x00 ∷ 0x00 ∷ [])
    (0x80 ∷ f.run ∷ f.mode ∷ 0x00 ∷ [])

-- The table of wishes, over the table of items.
abbrev pub asking : Wish → Asking
asking AskName = request name
asking AskSerial = request serial
asking AskInterface = request interface
asking (AskVersion id) = request_of versions id
asking AskStatus = request status
asking (SetState f) = setting state (in_bytes (state_sent f))
asking AskState = request state
asking (SetChannelSetup n) = setting channel_setup (whole n)
asking AskChannelSetup = request channel_setup
asking (SetFrequency channel hz) = setting_of frequency channel (whole hz)
asking (AskFrequency channel) = request_of frequency channel
asking (AskFrequencyRange channel) = record { item = frequency; kind = type_range; echo = channel; value = whole 0 }
asking (SetGain channel g) = setting_of gain channel (signed_byte g)
asking (AskGain channel) = request_of gain channel
asking (SetClock channel hz) = setting_of clock channel (whole hz)
asking (AskClock channel) = request_of clock channel
asking (SetRate channel hz) = setting_of rate channel (whole hz)
asking (AskRate channel) = request_of rate channel
asking (SetPacketSize n) = setting packet_size (whole n)
asking AskPacketSize = request packet_size

-- "One wish for each kind and item above": the cells of the table that are no dash, and a wish of each case, whatever it
-- holds.
pub record Cell : Type 0 where
  pub code : ℕ
  pub kind : ℕ

abbrev pub cell_of : ℕ → ℕ → Offer → List Cell
cell_of code kind (total n) = record { code = code; kind = kind } ∷ []
cell_of code kind dash = []

abbrev pub cells_in : List Item → List Cell
cells_in [] = []
cells_in (i ∷ is) =
    cell_of i.code type_set i.on_set
    ++ cell_of i.code type_request i.on_request
    ++ cell_of i.code type_range i.on_range
    ++ cells_in is

-- the values that wishes hold
pub record WishValues : Type 0 where
  pub id : ℕ
  pub state : StateFields
  pub setup : ℕ
  pub channel : ℕ
  pub frequency : ℕ
  pub gain : ℤ
  pub clock : ℕ
  pub rate : ℕ
  pub size : ℕ

abbrev pub each_wish : WishValues → List Wish
each_wish v =
    AskName
    ∷ AskSerial
    ∷ AskInterface
    ∷ AskVersion v.id
    ∷ AskStatus
    ∷ SetState v.state
    ∷ AskState
    ∷ SetChannelSetup v.setup
    ∷ AskChannelSetup
    ∷ SetFrequency v.channel v.frequency
    ∷ AskFrequency v.channel
    ∷ AskFrequencyRange v.channel
    ∷ SetGain v.channel v.gain
    ∷ AskGain v.channel
    ∷ SetClock v.channel v.clock
    ∷ AskClock v.channel
    ∷ SetRate v.channel v.rate
    ∷ AskRate v.channel
    ∷ SetPacketSize v.size
    ∷ AskPacketSize
    ∷ []

abbrev pub cell_asked : Wish → Cell
cell_asked w = record { code = (asking w).item.code; kind = (asking w).kind }

-- they ask for the same, in the table's order
abbrev pub OneForEach : Type 0
OneForEach = (v : WishValues) → map cell_asked (each_wish v) ≡ cells_in items

-- and there is no other wish
pub record Among (w : Wish) : Type 0 where
  pub values : WishValues
  pub place : ℕ
  pub is : get_or (each_wish values) place AskName ≡ w

-- "Lengths are totals": header and item code are four bytes, then comes the echoed byte, and the rest is the value
abbrev pub width_in : Item → Offer → ℕ
width_in i (total n) = n - (4 + echoes i.echoed)
width_in i dash = 0

-- the row as it is laid out
abbrev pub layout_of : Wish → Layout
layout_of w =
    record {
      kind = (asking w).kind;
      item = (asking w).item.code;
      echo = pick (eqb (echoes (asking w).item.echoed) 1) (Some (asking w).echo) None;
      width = width_in (asking w).item (offered (asking w).item (asking w).kind);
      value = sent (asking w).value;
    }

unfoldable pub message_of : Wish → List ℕ
message_of w = laid (layout_of w)

-- The value stands whole in its field. So does that of every wish that a program can hold, but for a frequency of more than
-- 40 bits.
abbrev pub Fits : Wish → Type 0
Fits w = fits_in (layout_of w).width (asking w).value

-- a box with this value of 0019 allows the wish's channel byte
abbrev pub open_at : Wish → ℕ → Bool
open_at w setup = channel_allowed setup (asking w).item.echoed (asking w).kind (asking w).echo

-- some box does: "15, nothing written, if no box allows it"
abbrev pub open_wish : Wish → Bool
open_wish w = any_of (open_at w) (single ∷ dual ∷ [])

-- idle, whatever the mode, or run in one of the two modes
abbrev pub may_wish_state : StateFields → Bool
may_wish_state f = eqb f.run idle || (eqb f.run run && is_mode f.mode)

-- "The writer refuses with 16 values the box would refuse so": the wishes whose value the box allows. The value counts
-- whole, also where it has more bytes than its field.
abbrev pub allowed_wish : Wish → Bool
allowed_wish AskName = true
allowed_wish AskSerial = true
allowed_wish AskInterface = true
allowed_wish (AskVersion id) = is_version id
allowed_wish AskStatus = true
allowed_wish (SetState f) = may_wish_state f
allowed_wish AskState = true
allowed_wish (SetChannelSetup n) = is_setup n
allowed_wish AskChannelSetup = true
allowed_wish (SetFrequency channel hz) = in_bands hz
allowed_wish (AskFrequency channel) = true
allowed_wish (AskFrequencyRange channel) = true
allowed_wish (SetGain channel g) = any_of (same_integer g) gains
allowed_wish (AskGain channel) = true
allowed_wish (SetClock channel hz) = is_clock hz
allowed_wish (AskClock channel) = true
allowed_wish (SetRate channel hz) = may_ask hz
allowed_wish (AskRate channel) = true
allowed_wish (SetPacketSize n) = is_size n
allowed_wish AskPacketSize = true

-- What a wish means: the settings of a box that grants it. Only a set changes one.
abbrev pub granted : Wish → Settings → Settings
granted AskName s = s
granted AskSerial s = s
granted AskInterface s = s
granted (AskVersion id) s = s
granted AskStatus s = s
granted (SetState f) s = state_to f.run f.mode s
granted AskState s = s
granted (SetChannelSetup n) s = with_setup n s
granted AskChannelSetup s = s
granted (SetFrequency channel hz) s = on_channels channel (tuned_to hz s.clock) s
granted (AskFrequency channel) s = s
granted (AskFrequencyRange channel) s = s
granted (SetGain channel g) s = on_channels channel (gained_to (coded 8 g)) s
granted (AskGain channel) s = s
granted (SetClock channel hz) s = with_clock hz s
granted (AskClock channel) s = s
granted (SetRate channel hz) s = with_divisor (nearest_of hz) s
granted (AskRate channel) s = s
granted (SetPacketSize n) s = with_size n s
granted AskPacketSize s = s

-- A box in which the wish's channel is not open does not take it now (15): "channel 02 with value 0 is 15".
abbrev pub closed_now : Wish → Settings → Bool
closed_now w s = not (open_at w s.setup)

-- Nor does one that is running (17): "Run while running in the same mode replies and changes nothing; in another mode 17. Items 00B8 and
-- 00C4 cannot be set while running (17)." "setting it [0019] while running is 17".
abbrev pub not_now : Wish → Settings → Bool
not_now AskName s = false
not_now AskSerial s = false
not_now AskInterface s = false
not_now (AskVersion id) s = false
not_now AskStatus s = false
not_now (SetState f) s = s.running && (eqb f.run run && not (eqb f.mode s.mode))
not_now AskState s = false
not_now (SetChannelSetup n) s = s.running
not_now AskChannelSetup s = false
not_now (SetFrequency channel hz) s = false
not_now (AskFrequency channel) s = false
not_now (AskFrequencyRange channel) s = false
not_now (SetGain channel g) s = false
not_now (AskGain channel) s = false
not_now (SetClock channel hz) s = false
not_now (AskClock channel) s = false
not_now (SetRate channel hz) s = s.running
not_now (AskRate channel) s = false
not_now (SetPacketSize n) s = s.running
not_now AskPacketSize s = false

-- the box refuses the wish now, for either reason
abbrev pub refused_now : Wish → Settings → Bool
refused_now w s = closed_now w s || not_now w s

-- the wish's message as the box holds it when it is finished: unused places are zero
abbrev pub as_message : Wish → Message
as_message w =
    record {
      type = (asking w).kind;
      size = length (message_of w);
      bytes = message_of w ++ replicate (64 - length (message_of w)) 0;
    }
