-- One digit after the other; the number stays below 10 to the count of digits read.
use Rattle.headwords.proofs.Words.{Reading}
use Rattle.headwords.proofs.number_of.Given as goal

abbrev pub invariant-loop-byte : goal.invariant-loop-byte
invariant-loop-byte l = Reading l.word l.n l.byte-index
