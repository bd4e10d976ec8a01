-- Why hearing stops, as a number: it is 0 exactly where it does not stop.
use Rattle.std.proofs.Common.{◌≤◌, ◌<◌, ◌≡◌, true, false, Option, Some, None, refl, arith}
use Rattle.std.specs.Prelude.{is_some}
use Rattle.wire.specs.Refusal.{refusal_code}
use Rattle.wire.specs.declared.refusal.Refusal.{Refusal}
use Rattle.wire.specs.declared.refusal.Refusal.TheVariants.{BadHeader, TooLong, NotListed, NotOffered, WrongLength, ChannelNotAllowed, ValueNotAllowed, NotWhileRunning, NoRoom, Broken, WhileIdle, WrongCount, NotASample, CaptureFull, NotASerial, NotAReply, NotAPacket, NoFirstPacket, FormChanged, PastLast, NotAHead, OtherVersion, WouldLose}
use Rattle.hearing.specs.declared.Stop.{Stop}
use Rattle.hearing.specs.declared.Stop.TheVariants.{CaptureEnds, Refused}
use Rattle.hearing.specs.Hearing.{stop_told, stops_told}

-- refusals have the codes from 10 on
pub from_ten : (r : Refusal) → 10 ≤ refusal_code r
from_ten BadHeader = omega arith
from_ten TooLong = omega arith
from_ten NotListed = omega arith
from_ten NotOffered = omega arith
from_ten WrongLength = omega arith
from_ten ChannelNotAllowed = omega arith
from_ten ValueNotAllowed = omega arith
from_ten NotWhileRunning = omega arith
from_ten NoRoom = omega arith
from_ten Broken = omega arith
from_ten WhileIdle = omega arith
from_ten WrongCount = omega arith
from_ten NotASample = omega arith
from_ten CaptureFull = omega arith
from_ten NotASerial = omega arith
from_ten NotAReply = omega arith
from_ten NotAPacket = omega arith
from_ten NoFirstPacket = omega arith
from_ten FormChanged = omega arith
from_ten PastLast = omega arith
from_ten NotAHead = omega arith
from_ten OtherVersion = omega arith
from_ten WouldLose = omega arith

pub stop_some : (s : Stop) → 0 < stop_told s
stop_some CaptureEnds = omega arith
stop_some (Refused r) = omega (arith, from_ten r)

pub stopped : (s : Option Stop) → is_some s ≡ true → stops_told s ≡ 0 → ⊥
stopped None e z = cc
stopped (Some s) e z = omega (arith, stop_some s)

pub goes : (s : Option Stop) → is_some s ≡ false → stops_told s ≡ 0
goes None e = refl
goes (Some s) e = absurd (cc)
