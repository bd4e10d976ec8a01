-- Which part of a call it is.
use Rattle.std.proofs.Common.{refl, sym, ◌∙◌, length}
use Rattle.spans.proofs.Eats.{answers, valid_range, valid_head, eating_broken, eating_stopped, eating_head, eating_packets}
use Rattle.spans.proofs.eating.eat.Goals as goal

pub returns-then-not-is_valid : goal.returns-then-not-is_valid
returns-then-not-is_valid c =
    let a = c.args in
    answers a.out.now _ (eating_broken a.s a.piece.now (length a.out.now) (sym c.is_valid.ensures ∙ c.if-not-is_valid.true)) refl refl

pub returns-then-s : goal.returns-then-s
returns-then-s c =
    let a = c.args in
    let ok = sym c.is_valid.ensures ∙ c.if-not-is_valid.false in
    answers a.out.now _ (eating_stopped a.s a.piece.now (length a.out.now) ok c.if-s.true) refl refl

pub returns-then-lacks : goal.returns-then-lacks
returns-then-lacks c =
    let a = c.args in
    let ok = sym c.is_valid.ensures ∙ c.if-not-is_valid.false in
    let few = sym c.lacks.ensures ∙ c.if-lacks.true in
    answers a.out.now _ (eating_head a.s a.piece.now (length a.out.now) ok c.if-s.false few) c.open.ensures.0 c.open.ensures.1

pub listen-requires : goal.listen-requires
listen-requires c =
    let s = c.args.s in
    let ok = sym c.is_valid.ensures ∙ c.if-not-is_valid.false in
    let whole = sym c.lacks.ensures ∙ c.if-lacks.false in
    (valid_head s ok c.if-s.false whole, valid_range s ok c.if-s.false)

pub returns : goal.returns
returns c =
    let a = c.args in
    let ok = sym c.is_valid.ensures ∙ c.if-not-is_valid.false in
    let whole = sym c.lacks.ensures ∙ c.if-lacks.false in
    answers a.out.now _ (eating_packets a.s a.piece.now (length a.out.now) ok c.if-s.false whole) c.listen.ensures.0 c.listen.ensures.1
