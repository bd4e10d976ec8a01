-- The longest head tells how many bytes this one has.
use Rattle.std.proofs.Common.{◌≡◌, ◌<◌, ℕ, sym, ap, ◌∙◌, arith}
use borrow.Author.Tests.{ltb-true}
use Rattle.spans.specs.Eating.{head_wants_by, head_filled}
use Rattle.spans.proofs.Filling.{wants_of, wants_most, by_is, by_above, by_most}
use Rattle.spans.proofs.head.take_head.Goals as goal

pub filled-ahead-requires : goal.filled-ahead-requires
filled-ahead-requires c =
    let s = c.args.s in
    (omega (arith, ltb-true _ _ c.requires, wants_most s.came s.head), omega arith)

pub filled-requires : goal.filled-requires
filled-requires c =
    let a = c.args in
    let all : c.wanted-all.result ≡ head_wants_by a.s a.piece.now
    = c.wanted-all.ensures ∙ ap wants_of c.filled-ahead.ensures ∙ sym (by_is a.s a.piece.now) in
    let few : a.s.came < wants_of a.s = ltb-true _ _ c.requires in
    (omega (arith, all, by_above a.s a.piece.now few), omega (arith, all, by_most a.s a.piece.now))

pub returns : goal.returns
returns c =
    let a = c.args in
    let all : c.wanted-all.result ≡ head_wants_by a.s a.piece.now
    = c.wanted-all.ensures ∙ ap wants_of c.filled-ahead.ensures ∙ sym (by_is a.s a.piece.now) in
    c.filled.ensures ∙ ap (λ (n : ℕ). head_filled n a.s a.piece.now) all
