-- What a read answers: how many bytes it gave, 0 at the end of the input, or why it failed.
use Rattle.std.specs.Prelude.{ℕ, ◌≡◌, List, length, Result, Ok, Err}
use Rattle.streams.specs.declared.Failed.{Failed}
use Rattle.streams.specs.declared.Failed.TheVariants as Told
use Rattle.reads.specs.declared.Early.{Early}
use Rattle.reads.specs.declared.Early.TheVariants.{Unread, Unwritten}

-- the input has ended, and was read whole
abbrev pub Whole : {E : Type 0} → Result ℕ E → Type 0
Whole got = got ≡ Ok 0

-- a piece is all that the read gave
abbrev pub AllOf : {E : Type 0} → Result ℕ E → List ℕ → Type 0
AllOf got piece = got ≡ Ok (length piece)

-- no more is counted than this
abbrev pub most : ℕ
most = 0x8000_0000_0000_0000

-- where reading ended early because a read failed, this holds of how many bytes were read before it
abbrev pub IfUnread : {A : Type 0} → Result A Early → (ℕ → Type 0) → Type 0
IfUnread (Ok a) Holds = Unit {0}
IfUnread (Err (Unread read e)) Holds = Holds read
IfUnread (Err (Unwritten e)) Holds = Unit {0}

-- why reading ended early, without that count
abbrev pub failed_of : Early → Failed
failed_of (Unread read e) = Told.Unread e
failed_of (Unwritten e) = Told.Unwritten e
