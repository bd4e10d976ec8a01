-- Refusals: each has its line of the table in specs/Codes.
use Rattle.std.specs.Prelude.{ℕ, List, [], Result, Ok, Err}
use Rattle.wire.specs.Codes as Code
use Rattle.wire.specs.Told.{Told}
use Rattle.wire.specs.declared.refusal.Refusal.{Refusal}
use Rattle.wire.specs.declared.refusal.Refusal.TheVariants.{BadHeader, TooLong, NotListed, NotOffered, WrongLength, ChannelNotAllowed, ValueNotAllowed, NotWhileRunning, NoRoom, Broken, WhileIdle, WrongCount, NotASample, CaptureFull, NotASerial, NotAReply, NotAPacket, NoFirstPacket, FormChanged, PastLast, NotAHead, OtherVersion, WouldLose}

-- the code of a refusal
abbrev pub refusal_code : Refusal → ℕ
refusal_code BadHeader = Code.bad_header
refusal_code TooLong = Code.too_long
refusal_code NotListed = Code.not_listed
refusal_code NotOffered = Code.not_offered
refusal_code WrongLength = Code.wrong_length
refusal_code ChannelNotAllowed = Code.channel_not_allowed
refusal_code ValueNotAllowed = Code.value_not_allowed
refusal_code NotWhileRunning = Code.not_while_running
refusal_code NoRoom = Code.no_room
refusal_code Broken = Code.broken
refusal_code WhileIdle = Code.while_idle
refusal_code WrongCount = Code.wrong_count
refusal_code NotASample = Code.not_a_sample
refusal_code CaptureFull = Code.capture_full
refusal_code NotASerial = Code.not_a_serial
refusal_code NotAReply = Code.not_a_reply
refusal_code NotAPacket = Code.not_a_packet
refusal_code NoFirstPacket = Code.no_first_packet
refusal_code FormChanged = Code.form_changed
refusal_code PastLast = Code.past_last
refusal_code NotAHead = Code.not_a_head
refusal_code OtherVersion = Code.other_version
refusal_code WouldLose = Code.would_lose

-- the code of what was done or refused
abbrev pub code_of : {A : Type 0} → Result A Refusal → ℕ
code_of (Ok _) = Code.done
code_of (Err r) = refusal_code r

-- the number and the values of an answer, by the values of what was done
abbrev pub told : {A : Type 0} → (A → List ℕ) → Result A Refusal → Told
told values (Ok a) = record { code = Code.done; values = values a }
told values (Err r) = record { code = refusal_code r; values = [] }
