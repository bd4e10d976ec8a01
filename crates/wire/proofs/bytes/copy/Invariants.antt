-- At each turn what is still to be stored gives the whole.
use Rattle.std.proofs.Common.{◌≡◌, ◌+◌, length, drop}
use Rattle.std.proofs.lemmas.List.Edits.{sets}
use Rattle.wire.proofs.bytes.copy.Given as goal

abbrev pub invariant-loop-i : goal.invariant-loop-i
invariant-loop-i l =
    (length l.dst ≡ length l.fn.dst) × (sets l.dst (l.at + l.i) (drop l.i l.src) ≡ sets l.fn.dst l.at l.src)
