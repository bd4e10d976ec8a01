-- At each turn what is still to be stored gives the whole.
use Rattle.std.proofs.Common.{◌≡◌, ◌+◌, ◌-◌, length}
use Rattle.std.proofs.lemmas.List.Edits.{sets}
use Rattle.wire.specs.Number.{bytes}
use Rattle.wire.proofs.number.put_bytes.Given as goal

abbrev pub invariant-loop-i : goal.invariant-loop-i
invariant-loop-i l =
    (length l.dst ≡ length l.fn.dst) × (sets l.dst (l.at + l.i) (bytes (l.n - l.i) l.rest) ≡ sets l.fn.dst l.at (bytes l.n l.v))
