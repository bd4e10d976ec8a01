-- What one finished message does: its code, its reply, and the settings after it.
use Rattle.std.specs.Prelude.{ℕ, ◌+◌, Bool, true, ◌&&◌, not, List, [], ◌∷◌, ◌++◌, eqb, length, get_or, take, drop}
use Rattle.wire.specs.Choice.{pick, Check, check, first_of, one_of}
use Rattle.wire.specs.Codes.{box_writes}
use Rattle.wire.specs.Codes as Code
use Rattle.wire.specs.Number.{bytes, field}
use Rattle.wire.specs.Header.{header_of, type_set, type_range, type_reply, type_range_reply}
use Rattle.tuning.specs.Bands.{bands, range_bytes}
use Rattle.items.specs.declared.Settings.{Settings}
use Rattle.items.specs.Settings.{open_channels, covers, channel_shown}
use Rattle.items.specs.Items.{Echoed, no_byte, an_id, any_channel, a_channel, echoes, Item, row_of}
use Rattle.items.specs.Header.{header_checks}
use Rattle.items.specs.Table.{table_checks}

-- A finished message: its type, its length as the header has it, and its first bytes: the 64 that are held, or ten that decide
-- as well (TenBytes and Behind in proofs/).
pub record Message : Type 0 where
  pub type : ℕ
  pub size : ℕ
  pub bytes : List ℕ

-- "Control messages have a 16-bit item code after the header, then parameters."
abbrev pub item_in : Message → ℕ
item_in m = field 2 2 m.bytes

abbrev pub row : Message → Item
row m = row_of (item_in m)

abbrev pub parameters : Message → List ℕ
parameters m = drop 4 m.bytes

-- By 0019's value. "Channel for 0020 and 0038: 00, and on set also FF." "With 4, frequency, tuning word and gain are open for channels
-- 00 and 02"; "channel 02 with value 0 is 15".
abbrev pub channel_allowed : ℕ → Echoed → ℕ → ℕ → Bool
channel_allowed setup no_byte kind byte = true
channel_allowed setup an_id kind byte = true
channel_allowed setup any_channel kind byte = true
channel_allowed setup a_channel kind byte = one_of byte (pick (eqb kind type_set) (0xFF ∷ []) [] ++ open_channels setup)

-- A set covers what a request asks for, by 0019's value, the set's channel byte and the request's. Frequency and gain are a channel's;
-- any other item is one for all channels.
abbrev pub covers_asked : ℕ → Echoed → ℕ → ℕ → Bool
covers_asked setup no_byte byte asked = true
covers_asked setup an_id byte asked = true
covers_asked setup any_channel byte asked = true
covers_asked setup a_channel byte asked = covers setup byte (channel_shown asked)

-- the value that a set has is allowed, or the id that a request has
abbrev pub value_allowed : Item → ℕ → List ℕ → Bool
value_allowed i kind p = pick (eqb kind type_set) (i.rule.settable p) (i.rule.askable p)

-- a set that is not taken now, since the box is running
abbrev pub refused_running : Item → ℕ → Settings → List ℕ → Bool
refused_running i kind s p = eqb kind type_set && s.running && i.rule.locked s p

-- The last three checks, which an item makes of its parameters.
abbrev pub item_checks : Item → ℕ → Settings → List ℕ → List Check
item_checks i kind s p =
    check Code.channel_not_allowed (not (channel_allowed s.setup i.echoed kind (get_or p 0 0)))
    ∷ check Code.value_not_allowed (not (value_allowed i kind p))
    ∷ check Code.not_while_running (refused_running i kind s p)
    ∷ []

-- what the item makes of its parameters: 15, 16, 17, or 1
abbrev pub item_code : Item → ℕ → Settings → List ℕ → ℕ
item_code i kind s p = first_of (item_checks i kind s p) Code.done

-- "Codes 10 to 17 stand in order of checking (11 first)".
abbrev pub checks : Settings → Message → List Check
checks s m =
    header_checks m.type m.size (get_or m.bytes 2 0)
    ++ table_checks (item_in m) m.type m.size
    ++ item_checks (row m) m.type s (parameters m)

-- the message's code: 1 where nothing speaks against it
unfoldable pub code_of : Settings → Message → ℕ
code_of s m = first_of (checks s m) Code.done

-- the settings after it: an accepted set stores, everything else leaves every setting
unfoldable pub settings_after : Settings → Message → Settings
settings_after s m = pick (eqb (code_of s m) Code.done && eqb m.type type_set) ((row m).rule.stored s (parameters m)) s

-- what becomes of one message: its code, and the settings after it
pub record Judged : Type 0 where
  pub code : ℕ
  pub settings : Settings

-- both
abbrev pub judged_of : Settings → Message → Judged
judged_of s m = record { code = code_of s m; settings = settings_after s m }

-- "Replies have the item's set layout with the current value; the channel byte or id is echoed."
abbrev pub reply_body : Item → Settings → List ℕ → List ℕ
reply_body i s p = bytes 2 i.code ++ take (echoes i.echoed) p ++ i.rule.value s p

-- "The range reply gives channel, 02, then minimum, maximum, oscillator of each in five bytes."
abbrev pub range_body : Item → List ℕ → List ℕ
range_body i p = bytes 2 i.code ++ take 1 p ++ 0x02 ∷ range_bytes bands

-- a header of the true length before the body
abbrev pub framed : ℕ → List ℕ → List ℕ
framed type body = bytes 2 (header_of type (2 + length body)) ++ body

-- the reply to an accepted message of an item, with the settings after it
abbrev pub reply_to : Item → ℕ → Settings → List ℕ → List ℕ
reply_to i kind s p = pick (eqb kind type_range) (framed type_range_reply (range_body i p)) (framed type_reply (reply_body i s p))

-- the reply to the message where it is obeyed
abbrev pub reply_due : Settings → Message → List ℕ
reply_due s m = reply_to (row m) m.type (settings_after s m) (parameters m)

-- what the box writes: what the table of "What comes back" has beside the message's code
unfoldable pub reply_of : Settings → Message → List ℕ
reply_of s m = box_writes (code_of s m) (reply_due s m)
