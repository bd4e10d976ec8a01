-- The second tuning channel (02, No. 7), of the box: "With 4, frequency, tuning word and gain are open for channels 00 and 02, and FF
-- sets both; with 0, FF sets channel 00 only and channel 02 retains its values".
use Rattle.std.specs.Prelude.{ℕ, ◌≡◌, Bool, true, false, List, [], ◌∷◌, get_or}
use Rattle.wire.specs.Choice.{one_of, first_of}
use Rattle.wire.specs.Codes as Code
use Rattle.wire.specs.Header.{type_set}
use Rattle.items.specs.declared.Settings.{Settings}
use Rattle.items.specs.Settings.{single, dual, covers, with_setup}
use Rattle.items.specs.Items.{a_channel, channel_setup}
use Rattle.items.specs.Header.{header_checks}
use Rattle.items.specs.Table.{table_checks}
use Rattle.items.specs.Answer.{Message, item_in, row, parameters, code_of, settings_after}
use Rattle.demands.specs.Shown.{HeldWhole, value_set}

-- ---- which channels a set covers

-- 0019's value, a channel byte that is allowed on set, and whether such a set covers channel 00 and channel 02
pub record Covered : Type 0 where
  pub setup : ℕ
  pub byte : ℕ
  pub first : Bool
  pub second : Bool

abbrev with : ℕ → ℕ → Bool → Bool → Covered
with setup byte first second = record { setup = setup; byte = byte; first = first; second = second }

abbrev pub coverage : List Covered
coverage =
    with single 0x00 true false
    ∷ with single 0xFF true false
    ∷ with dual 0x00 true false
    ∷ with dual 0x02 false true
    ∷ with dual 0xFF true true
    ∷ []

abbrev pub AllCovered : List Covered → Type 0
AllCovered [] = Unit {0}
AllCovered (c ∷ cs) =
    (covers c.setup c.byte 0x00 ≡ c.first) × (covers c.setup c.byte 0x02 ≡ c.second) × AllCovered cs

-- ---- sets with FF

-- an accepted set of frequency or gain with a channel byte
pub record SetWith (byte : ℕ) (s : Settings) (m : Message) : Type 0 where
  pub accepted : code_of s m ≡ Code.done
  pub is_set : m.type ≡ type_set
  pub of_channel : (row m).echoed ≡ a_channel
  pub has : get_or (parameters m) 0 0 ≡ byte

-- what a request of its item with these parameters then shows is the value set
abbrev pub ShowsIt : Settings → Message → List ℕ → Type 0
ShowsIt s m q = (row m).rule.value (settings_after s m) q ≡ value_set s m

-- "With 4 .. FF sets both": requests of either channel show the value
abbrev pub AllSetsBoth : Type 0
AllSetsBoth =
    (s : Settings) (m : Message) → s.setup ≡ dual → SetWith 0xFF s m → HeldWhole m
    → (q : List ℕ) → one_of (get_or q 0 0) (0x00 ∷ 0x02 ∷ []) ≡ true → ShowsIt s m q

-- "with 0, FF sets channel 00 only and channel 02 retains its values": all of them, its word too
abbrev pub AllSetsFirstOnly : Type 0
AllSetsFirstOnly =
    (s : Settings) (m : Message) → s.setup ≡ single → SetWith 0xFF s m → HeldWhole m
    → ((q : List ℕ) → get_or q 0 0 ≡ 0x00 → ShowsIt s m q) × ((settings_after s m).second ≡ s.second)

-- ---- what channel 02 retains

-- No message that comes while 0019 is 0 changes channel 02's frequency or gain, whatever it is. (Its word goes by the clock.)
abbrev pub SecondRetained : Type 0
SecondRetained =
    (s : Settings) (m : Message) → s.setup ≡ single
    → ((settings_after s m).second.frequency ≡ s.second.frequency) × ((settings_after s m).second.gain ≡ s.second.gain)

-- and a set of 0019 changes nothing but its own value
abbrev pub SetupAlone : Type 0
SetupAlone = (s : Settings) (m : Message) → item_in m ≡ channel_setup.code → with_setup s.setup (settings_after s m) ≡ s

-- "setting it while running is 17": so a box that runs keeps the count of channels
abbrev pub SetupStaysWhileRunning : Type 0
SetupStaysWhileRunning = (s : Settings) (m : Message) → s.running ≡ true → (settings_after s m).setup ≡ s.setup

-- ---- 15

-- "channel 02 with value 0 is 15": of a message of frequency or gain that no earlier check refuses, exactly where 0019 is not 4
abbrev pub SecondClosedExactly : Type 0
SecondClosedExactly =
    (s : Settings) (m : Message)
    → first_of (header_checks m.type m.size (get_or m.bytes 2 0)) Code.done ≡ Code.done
    → first_of (table_checks (item_in m) m.type m.size) Code.done ≡ Code.done
    → (row m).echoed ≡ a_channel → get_or (parameters m) 0 0 ≡ 0x02
    → ((code_of s m ≡ Code.channel_not_allowed) → s.setup ≡ dual → ⊥) × ((s.setup ≡ dual → ⊥) → code_of s m ≡ Code.channel_not_allowed)
