-- Demand 2: after an accepted set a request shows the value set, and every other item is as it was. "A box that echoes
-- without storing" does not do so: "later requests show the setting".
use Rattle.std.specs.Prelude.{ℕ, ◌-◌, ◌≤◌, ◌≡◌, Bool, true, false, ◌&&◌, ◌||◌, List, [], ◌∷◌, ◌++◌, eqb, ℤ, length, take, drop, replicate}
use Rattle.wire.specs.Choice.{pick, first_row}
use Rattle.wire.specs.Codes as Code
use Rattle.wire.specs.Number.{bytes, field}
use Rattle.wire.specs.Header.{length_in, type_in, nak, type_set, type_request, type_reply}
use Rattle.framing.specs.Framing.{between, call_takes, header_in, announced}
use Rattle.wire.specs.Lists.{all_bytes}
use Rattle.rates.specs.Rate.{nearest_of, rate_of}
use Rattle.items.specs.declared.Settings.{Settings}
use Rattle.items.specs.Items.{echoes, status, state, idle, run, run_byte, mode_byte, state_bytes}
use Rattle.items.specs.Items.{channel_setup, frequency, gain, clock, rate, packet_size}
use Rattle.items.specs.Items.{Echoed, no_byte, an_id, any_channel, a_channel, row_of}
use Rattle.items.specs.Answer.{Message, item_in, row, parameters, code_of, settings_after, framed}
use Rattle.items.specs.Touching.{Named, named, covering, touches}
use Rattle.station.specs.declared.Station.{Station}
use Rattle.station.specs.Station.{valid}
use Rattle.station.specs.Feeding.{Feeding, message_in, feeding_of}
use Rattle.cutting.specs.Cutting.{cutting_of}

-- What a request shows after an accepted set, by the settings before the set and the set's parameters: a line for each
-- item that can be set.
pub record Line : Type 0 where
  pub code : ℕ
  pub shown : Settings → List ℕ → List ℕ

abbrev line : ℕ → (Settings → List ℕ → List ℕ) → Line
line code shown = record { code = code; shown = shown }

-- the very bytes that were sent: n parameters from a place on
abbrev sent : ℕ → ℕ → Settings → List ℕ → List ℕ
sent at n s p = take n (drop at p)

-- "the D with the nearest exact rate is taken"; "The reply is 20,000,000 / D rounded to a whole Hz, halves up."
abbrev achieved : Settings → List ℕ → List ℕ
achieved s p = bytes 4 (rate_of (nearest_of (field 1 4 p)))

-- "Replies hold 80, run byte, mode, 00": of a set to idle "the mode is kept", of a run it is the one that was sent
abbrev state_shown : Settings → List ℕ → List ℕ
state_shown s p =
    pick (eqb (run_byte p) idle) (state_bytes idle s.mode) (state_bytes run (mode_byte p))

abbrev pub lines : List Line
lines =
    line state.code state_shown
    ∷ line channel_setup.code (sent 0 1)
    ∷ line frequency.code (sent 1 5)
    ∷ line gain.code (sent 1 1)
    ∷ line clock.code (sent 1 4)
    ∷ line rate.code achieved
    ∷ line packet_size.code (sent 0 1)
    ∷ []

-- what a request of an item shows after an accepted set of it with these parameters
unfoldable pub shown_by : ℕ → Settings → List ℕ → List ℕ
shown_by code s p = first_row (λ l. eqb code l.code) (λ l. l.shown s p) [] lines

-- the same of a message: the value that it set
abbrev pub value_set : Settings → Message → List ℕ
value_set s m = shown_by (item_in m) s (parameters m)

-- all of the message is held, and each place holds a byte
pub record HeldWhole (m : Message) : Type 0 where
  pub whole : m.size ≤ length m.bytes
  pub are_bytes : all_bytes m.bytes

-- the reply to a set or a request, with this value: "the channel byte or id is echoed"
abbrev pub showing : Message → List ℕ → List ℕ
showing q value = framed type_reply (bytes 2 (item_in q) ++ take (echoes (row q).echoed) (parameters q) ++ value)

-- A set of 0019 opens channel 02 or closes it: then a request that names it may be answered otherwise.
abbrev pub of_channels : Echoed → Bool
of_channels no_byte = false
of_channels an_id = false
of_channels any_channel = false
of_channels a_channel = true

abbrev pub asks_second : Named → Bool
asks_second asked = of_channels (row_of asked.item).echoed && eqb asked.byte 0x02

abbrev pub opens : Named → Named → Bool
opens set asked = eqb set.item channel_setup.code && asks_second asked

-- the message is an accepted set, and can change what `asked` shows
abbrev pub changes : Named → Settings → Message → Bool
changes asked s m = eqb (code_of s m) Code.done && eqb m.type type_set && touches s.setup (named m) asked

-- the settings after one message after the other
abbrev pub after_all : Settings → List Message → Settings
after_all s [] = s
after_all s (m ∷ ms) = after_all (settings_after s m) ms

-- no message changes what `asked` shows, each judged when it comes
abbrev pub none_changes : Named → Settings → List Message → Type 0
none_changes asked s [] = Unit {0}
none_changes asked s (m ∷ ms) = (changes asked s m ≡ false) × none_changes asked (settings_after s m) ms

-- The same of a box that is fed.

-- the bytes of one message: as many as its header announces
pub record OneMessage (m : List ℕ) : Type 0 where
  pub are_bytes : all_bytes m
  pub announces : announced m ≡ length m

-- the message that a box holds when it has taken them: "The box keeps the first 64 bytes", and "unused places are zero"
abbrev pub message_of : List ℕ → Message
message_of m = record { type = type_in (header_in m); size = length_in (header_in m); bytes = take 64 m ++ replicate (64 - length m) 0 }

-- a box between messages
abbrev pub resting : Settings → Station
resting s = record { settings = s; store = between }

-- the call has room for what it writes (else it is 20, and nothing has happened)
abbrev pub has_room : Feeding → Type 0
has_room f = f.fed.code ≡ Code.no_room → ⊥

-- a call is done, and wrote this reply
abbrev pub replies_with : Feeding → List ℕ → Type 0
replies_with f reply = (f.fed.code ≡ Code.done) × (f.bytes ≡ reply)

-- Demand 2 of a way to feed a box, whichever it is: a whole set that is to be accepted is fed in one call, and in the next a whole
-- request that it covers and that is to be accepted, both with room for what the box writes. Both replies show the value set.
abbrev pub ShowsSets : (Station → List ℕ → ℕ → Feeding) → Type 0
ShowsSets feed =
    (s : Settings) (m : List ℕ) (room : ℕ) (q : List ℕ) (later : ℕ)
    → valid (resting s) ≡ true
    → has_room (feeding_of (resting s) m room) → has_room (feeding_of (feeding_of (resting s) m room).fed.station q later)
    → OneMessage m → (message_of m).type ≡ type_set → code_of s (message_of m) ≡ Code.done
    → OneMessage q → (message_of q).type ≡ type_request → covering s.setup (named (message_of m)) (named (message_of q)) ≡ true
    → code_of (settings_after s (message_of m)) (message_of q) ≡ Code.done
    → replies_with (feed (resting s) m room) (showing (message_of m) (value_set s (message_of m)))
    × replies_with (feed (feed (resting s) m room).fed.station q later) (showing (message_of q) (value_set s (message_of m)))

-- "a box that NAKs all", with whatever code
abbrev pub naks_all : ℕ → Station → List ℕ → ℕ → Feeding
naks_all code s host room = record { fed = record { code = code; consumed = length host; wrote = 2; station = s }; bytes = nak }

-- "a box that echoes without storing": it answers as it should, and stays as it was
abbrev pub echoes_only : Station → List ℕ → ℕ → Feeding
echoes_only s host room =
    record {
      fed =
          record {
            code = (feeding_of s host room).fed.code;
            consumed = (feeding_of s host room).fed.consumed;
            wrote = (feeding_of s host room).fed.wrote;
            station = record { settings = s.settings; store = (feeding_of s host room).fed.station.store };
          };
      bytes = (feeding_of s host room).bytes;
    }

-- the message that a call finishes, where it finishes one
abbrev pub finished_by : Station → List ℕ → Message
finished_by s host = message_in (call_takes s.store host).store

-- what is asked of a set: 0019's value when it comes, and what it names
abbrev pub SetTest : Type 0
SetTest = ℕ → Named → Bool

-- the call accepts a set of which the test holds
abbrev pub disturbs : SetTest → Station → List ℕ → ℕ → Bool
disturbs test s host room =
    eqb (feeding_of s host room).fed.code Code.done
    && eqb (finished_by s host).type type_set
    && test s.settings.setup (named (finished_by s host))

-- From one box to another by any calls of feeding and cutting, each refused or not, of which none accepts a set of which the test holds.
pub data Undisturbed (test : SetTest) : Station → Station → Type 0 where
  still : (s : Station) → Undisturbed test s s
  fed : (s t : Station) (host : List ℕ) (room : ℕ) → Undisturbed test s t → disturbs test t host room ≡ false
      → Undisturbed test s (feeding_of t host room).fed.station
  cut : (s t : Station) (samples : List ℤ) (room : ℕ) → Undisturbed test s t → Undisturbed test s (cutting_of t samples room).cut.station

-- none changes what `asked` shows
abbrev pub touching : Named → SetTest
touching asked setup set = touches setup set asked

-- and none opens or closes the channel that it names
abbrev pub answering : Named → SetTest
answering asked setup set = touches setup set asked || opens set asked

-- Demand 2, of the box: a whole set that is accepted is fed in one call; then any calls of feeding and cutting; then, between messages, a
-- whole request that the set covers, if none of the calls changed what it shows. Where it is accepted its reply shows the value set.
abbrev pub FedSetShowsLater : Type 0
FedSetShowsLater =
    (s : Settings) (m : List ℕ) (room : ℕ) (t : Settings) (q : List ℕ) (later : ℕ)
    → valid (resting s) ≡ true → has_room (feeding_of (resting s) m room) → has_room (feeding_of (resting t) q later)
    → OneMessage m → (message_of m).type ≡ type_set → code_of s (message_of m) ≡ Code.done
    → Undisturbed (touching (named (message_of q))) (feeding_of (resting s) m room).fed.station (resting t)
    → OneMessage q → (message_of q).type ≡ type_request → covering s.setup (named (message_of m)) (named (message_of q)) ≡ true
    → code_of t (message_of q) ≡ Code.done
    → replies_with (feeding_of (resting t) q later) (showing (message_of q) (value_set s (message_of m)))

-- The code of a request, of the value or of the range, looks at no setting but 0019's, and at that only where it names channel 02.
abbrev pub AskedAlike : Type 0
AskedAlike =
    (s t : Settings) (q : Message) → (q.type ≡ type_set → ⊥) → (asks_second (named q) ≡ true → t.setup ≡ s.setup)
    → code_of t q ≡ code_of s q

-- And what is not touched is unchanged: after any calls, none of which changes what it shows or opens or closes the channel that it names,
-- a request is answered as before, accepted or not and whatever its bytes are.
abbrev pub FedSameAnswer : Type 0
FedSameAnswer =
    (s t : Settings) (q : List ℕ) (room later : ℕ)
    → valid (resting s) ≡ true → has_room (feeding_of (resting s) q room) → has_room (feeding_of (resting t) q later)
    → (finished_by (resting s) q).type ≡ type_request
    → Undisturbed (answering (named (finished_by (resting s) q))) (resting s) (resting t)
    → (feeding_of (resting t) q later).bytes ≡ (feeding_of (resting s) q room).bytes

-- What a set changes of another item: after a whole set of the state that is accepted, and any calls of which none changes what the
-- status shows, a whole request of the status shows it, "0B idle, 0C running".
abbrev pub FedStateShowsInStatus : Type 0
FedStateShowsInStatus =
    (s : Settings) (m : List ℕ) (room : ℕ) (t : Settings) (q : List ℕ) (later : ℕ)
    → valid (resting s) ≡ true → has_room (feeding_of (resting s) m room) → has_room (feeding_of (resting t) q later)
    → OneMessage m → (message_of m).type ≡ type_set → item_in (message_of m) ≡ state.code → code_of s (message_of m) ≡ Code.done
    → Undisturbed (touching (named (message_of q))) (feeding_of (resting s) m room).fed.station (resting t)
    → OneMessage q → (message_of q).type ≡ type_request → item_in (message_of q) ≡ status.code → code_of t (message_of q) ≡ Code.done
    → replies_with (feeding_of (resting t) q later)
    (showing (message_of q) (pick (eqb (run_byte (parameters (message_of m))) idle) 0x0B 0x0C ∷ []))
