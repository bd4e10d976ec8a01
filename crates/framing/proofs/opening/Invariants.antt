-- Each byte so far is the one that stands there.
use Rattle.std.proofs.Common.{◌≡◌, ◌++◌, length, take, get_or}
use Rattle.wire.proofs.Held.{Held}
use Rattle.framing.proofs.opening.Given as goal

abbrev pub invariant-loop-i : goal.invariant-loop-i
invariant-loop-i l =
    (length l.ten ≡ 10) × Held (λ j b. b ≡ get_or (take l.had l.held ++ l.host) j 0) l.ten l.i
