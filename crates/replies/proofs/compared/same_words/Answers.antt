-- A word that is the same in both is passed.
use Rattle.std.proofs.Common.{◌≡◌, ◌+◌, ◌*◌, ◌≤◌, ap, sym, ◌∙◌, arith, length}
use Rattle.wire.proofs.Lists.{ne_same}
use Rattle.replies.proofs.Rests.{word_turn}
use Rattle.replies.proofs.compared.same_words.Goals as goal

pub returns-then-n-b : goal.returns-then-n-b
returns-then-n-b c = sym (ne_same c.args.a.now c.args.b.now (λ is. c.if-n-b.true (ap length is)))

pub loop-i-preserved : goal.loop-i-preserved
loop-i-preserved c =
    let a = c.args.a.now in
    let b = c.args.b.now in
    let i = c.loop-i.i in
    let next : 8 * (i + 1) ≡ 8 * i + 8 = omega arith in
    let room : 8 * i + 8 ≤ length a = omega arith in
    let is = sym c.number_at.ensures ∙ c.if-number_at.false ∙ c.number_at-in-loop-i.ensures in
    let turn = word_turn a b c.if-n-b.false (λ k. (c.type_inv.a k).fits) (λ k. (c.type_inv.b k).fits) (8 * i) room is in
    rw next (sym turn ∙ c.loop-i.invariant)
