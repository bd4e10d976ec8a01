use Rattle.std.proofs.Common.{sym, ◌∙◌, arith}
use Rattle.hearing.proofs.Heard.{sane_less}
use Rattle.hearing.proofs.Goings.{goes_due, goes_on_lem, used_up}
use Rattle.hearing.proofs.Stops.{stopped, goes}
use Rattle.hearing.proofs.pieces.hear_all.Goals as goal

pub returns-then-is_some : goal.returns-then-is_some
returns-then-is_some c =
    let g = c.hear_some-r.ensures.0 in
    let due = stopped c.hear_some-r.result.stop (sym c.is_some.ensures ∙ c.if-is_some.true) in
    record {
      is = goes_due c.args.f c.loop-at.now c.args.piece.now c.loop-at.at _ g due ∙ c.loop-at.invariant.same;
      sane = sane_less 0 (omega arith) g.sane;
    }

pub loop-at-preserved : goal.loop-at-preserved
loop-at-preserved c =
    let g = c.hear_some-r.ensures.0 in
    let none = goes c.hear_some-r.result.stop (sym c.is_some.ensures ∙ c.if-is_some.false) in
    record {
      inside = g.inside;
      sane = g.sane;
      same = goes_on_lem c.args.f c.loop-at.now c.args.piece.now c.loop-at.at _ g none ∙ c.loop-at.invariant.same;
    }

pub returns : goal.returns
returns c =
    record {
      is = used_up c.args.f c.loop-at.now c.args.piece.now c.loop-at.at c.loop-at-test.false ∙ c.loop-at.invariant.same;
      sane = sane_less 0 (omega arith) c.loop-at.invariant.sane;
    }
