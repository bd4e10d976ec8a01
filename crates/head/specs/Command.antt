-- The command of the program head: four words or six, and its own name counts among them.
use Rattle.std.specs.Prelude.{ℕ, List, eqb, take}
use Rattle.wire.specs.Choice.{pick}
use Rattle.head.specs.declared.words.Word.{Word}
use Rattle.head.specs.declared.words.Words.{Words}
use Rattle.headwords.specs.Words.{Worded, plain_of, named_of}

-- the bytes of a word
abbrev pub text : Word → List ℕ
text w = take w.long w.bytes

-- what so many words come to; of four there is no serial and no clock
abbrev pub worded_of : ℕ → Words → Worded
worded_of count w =
    pick (eqb count 7) (named_of (text w.d) (text w.hz) (text w.bits) (text w.size) (text w.serial) (text w.clock))
    (plain_of (text w.d) (text w.hz) (text w.bits) (text w.size))
