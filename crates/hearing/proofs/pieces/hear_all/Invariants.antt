-- What is left of the piece leads where all of it leads.
use Rattle.std.proofs.Common.{◌≡◌, ◌-◌, ◌≤◌, length, drop}
use Rattle.hearing.specs.Hearing.{reaching}
use Rattle.hearing.specs.Inside.{Sane}
use Rattle.hearing.proofs.pieces.hear_all.Given as goal

abbrev pub invariant-loop-at : goal.invariant-loop-at
invariant-loop-at l =
    record {
      inside : l.at ≤ length l.piece;
      sane : Sane (length l.piece - l.at) l.now;
      same : reaching l.at l.f l.now (drop l.at l.piece) ≡ reaching 0 l.f l.fn.t l.piece;
    }

abbrev pub decreases-loop-at : goal.decreases-loop-at
decreases-loop-at l = length l.piece - l.at
