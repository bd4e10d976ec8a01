-- No two refusals have one code, and none has that of what was done.
use Rattle.std.proofs.Common.{ℕ, ◌≡◌, refl, sym, ap, ◌∙◌, false, List, eqb, Ok, Err}
use Rattle.wire.specs.Choice.{pick}
use Rattle.wire.specs.Codes as Code
use Rattle.wire.specs.Told.{Told}
use Rattle.wire.specs.Refusal.{refusal_code, told}
use Rattle.wire.proofs.Laws.{true_not_false}
use Rattle.wire.proofs.Firm.{OneEach, one_by}
use Rattle.wire.specs.declared.refusal.Refusal.{Refusal}
use Rattle.wire.specs.declared.refusal.Refusal.TheVariants.{BadHeader, TooLong, NotListed, NotOffered, WrongLength, ChannelNotAllowed, ValueNotAllowed, NotWhileRunning, NoRoom, Broken, WhileIdle, WrongCount, NotASample, CaptureFull, NotASerial, NotAReply, NotAPacket, NoFirstPacket, FormChanged, PastLast, NotAHead, OtherVersion, WouldLose}

-- the refusal with a code
refusal_of : ℕ → Refusal
refusal_of n =
    pick (eqb n 11) BadHeader (
    pick (eqb n 10) TooLong (
    pick (eqb n 12) NotListed (
    pick (eqb n 14) NotOffered (
    pick (eqb n 13) WrongLength (
    pick (eqb n 15) ChannelNotAllowed (
    pick (eqb n 16) ValueNotAllowed (
    pick (eqb n 17) NotWhileRunning (
    pick (eqb n 20) NoRoom (
    pick (eqb n 21) Broken (
    pick (eqb n 22) WhileIdle (
    pick (eqb n 23) WrongCount (
    pick (eqb n 24) NotASample (
    pick (eqb n 25) CaptureFull (
    pick (eqb n 26) NotASerial (
    pick (eqb n 28) NotAReply (
    pick (eqb n 30) NotAPacket (
    pick (eqb n 31) NoFirstPacket (
    pick (eqb n 32) FormChanged (
    pick (eqb n 33) PastLast (
    pick (eqb n 40) NotAHead (
    pick (eqb n 41) OtherVersion (
    pick (eqb n 42) WouldLose Broken))))))))))))))))))))))

refusal_back : (r : Refusal) → refusal_of (refusal_code r) ≡ r
unfolding refusal_of
refusal_back BadHeader = refl
refusal_back TooLong = refl
refusal_back NotListed = refl
refusal_back NotOffered = refl
refusal_back WrongLength = refl
refusal_back ChannelNotAllowed = refl
refusal_back ValueNotAllowed = refl
refusal_back NotWhileRunning = refl
refusal_back NoRoom = refl
refusal_back Broken = refl
refusal_back WhileIdle = refl
refusal_back WrongCount = refl
refusal_back NotASample = refl
refusal_back CaptureFull = refl
refusal_back NotASerial = refl
refusal_back NotAReply = refl
refusal_back NotAPacket = refl
refusal_back NoFirstPacket = refl
refusal_back FormChanged = refl
refusal_back PastLast = refl
refusal_back NotAHead = refl
refusal_back OtherVersion = refl
refusal_back WouldLose = refl

pub number_one : OneEach refusal_code
number_one = one_by refusal_code refusal_of refusal_back

pub not_done : (r : Refusal) → eqb (refusal_code r) Code.done ≡ false
not_done BadHeader = refl
not_done TooLong = refl
not_done NotListed = refl
not_done NotOffered = refl
not_done WrongLength = refl
not_done ChannelNotAllowed = refl
not_done ValueNotAllowed = refl
not_done NotWhileRunning = refl
not_done NoRoom = refl
not_done Broken = refl
not_done WhileIdle = refl
not_done WrongCount = refl
not_done NotASample = refl
not_done CaptureFull = refl
not_done NotASerial = refl
not_done NotAReply = refl
not_done NotAPacket = refl
not_done NoFirstPacket = refl
not_done FormChanged = refl
not_done PastLast = refl
not_done NotAHead = refl
not_done OtherVersion = refl
not_done WouldLose = refl

-- nor has any that of what no reply is due to
pub not_silent : (r : Refusal) → eqb (refusal_code r) Code.no_reply_due ≡ false
not_silent BadHeader = refl
not_silent TooLong = refl
not_silent NotListed = refl
not_silent NotOffered = refl
not_silent WrongLength = refl
not_silent ChannelNotAllowed = refl
not_silent ValueNotAllowed = refl
not_silent NotWhileRunning = refl
not_silent NoRoom = refl
not_silent Broken = refl
not_silent WhileIdle = refl
not_silent WrongCount = refl
not_silent NotASample = refl
not_silent CaptureFull = refl
not_silent NotASerial = refl
not_silent NotAReply = refl
not_silent NotAPacket = refl
not_silent NoFirstPacket = refl
not_silent FormChanged = refl
not_silent PastLast = refl
not_silent NotAHead = refl
not_silent OtherVersion = refl
not_silent WouldLose = refl

-- done is no refusal
pub done_no_refusal : {B : Type 0} (r : Refusal) → Code.done ≡ refusal_code r → B
done_no_refusal r e = absurd (true_not_false (ap (λ (n : ℕ). eqb n Code.done) e ∙ not_done r))

-- no two answers tell the same, where no two values do
pub told_one : {A : Type 0} (values : A → List ℕ) → OneEach values → OneEach (told values)
told_one values one (Ok a) (Ok b) e = ap Ok (one a b (ap (λ (t : Told). t.values) e))
told_one values one (Ok a) (Err r) e = done_no_refusal r (ap (λ (t : Told). t.code) e)
told_one values one (Err r) (Ok b) e = done_no_refusal r (sym (ap (λ (t : Told). t.code) e))
told_one values one (Err r) (Err q) e = ap Err (number_one r q (ap (λ (t : Told). t.code) e))

-- nor is what no reply is due to
pub silent_no_refusal : {B : Type 0} (r : Refusal) → Code.no_reply_due ≡ refusal_code r → B
silent_no_refusal r e = absurd (true_not_false (ap (λ (n : ℕ). eqb n Code.no_reply_due) e ∙ not_silent r))

-- nor is waiting for more bytes
not_waiting : (r : Refusal) → eqb (refusal_code r) Code.waiting ≡ false
not_waiting BadHeader = refl
not_waiting TooLong = refl
not_waiting NotListed = refl
not_waiting NotOffered = refl
not_waiting WrongLength = refl
not_waiting ChannelNotAllowed = refl
not_waiting ValueNotAllowed = refl
not_waiting NotWhileRunning = refl
not_waiting NoRoom = refl
not_waiting Broken = refl
not_waiting WhileIdle = refl
not_waiting WrongCount = refl
not_waiting NotASample = refl
not_waiting CaptureFull = refl
not_waiting NotASerial = refl
not_waiting NotAReply = refl
not_waiting NotAPacket = refl
not_waiting NoFirstPacket = refl
not_waiting FormChanged = refl
not_waiting PastLast = refl
not_waiting NotAHead = refl
not_waiting OtherVersion = refl
not_waiting WouldLose = refl

pub waits_no_refusal : {B : Type 0} (r : Refusal) → Code.waiting ≡ refusal_code r → B
waits_no_refusal r e = absurd (true_not_false (ap (λ (n : ℕ). eqb n Code.waiting) e ∙ not_waiting r))
