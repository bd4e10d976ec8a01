use Rattle.std.proofs.Common.{◌≡◌, ◌+◌, ◌/◌, refl, sym, ap, subst, ◌∙◌, arith}
use Rattle.wire.specs.Header.{header_of, type_data}
use Rattle.hearing.specs.declared.Tally.{Tally}
use Rattle.hearing.specs.Inside.{Goes, goes_on, two_at}
use Rattle.hearing.proofs.Heard.{total_is, word_number}
use Rattle.hearing.proofs.WholePackets.{onward_turn, onward_end, tally_there}
use Rattle.hearing.proofs.pieces.whole_packets.Goals as goal

pub returns-then-not-is_between : goal.returns-then-not-is_between
unfolding goes_on
returns-then-not-is_between c = (record { same = refl; inside = c.requires.1; sane = c.requires.2 }, omega arith)

pub loop-next-preserved : goal.loop-next-preserved
loop-next-preserved c =
    let total = total_is c.args.f _ _ (sym c.unwrap-total.ensures ∙ c.total_of.ensures) refl in
    let header = c.header_of-header.ensures ∙ ap (header_of type_data) total in
    let number : c.word_at.result / 65536 ≡ two_at c.args.piece.now (c.loop-next.at + 2)
    = ap (λ n. n / 65536) c.word_at.ensures ∙ word_number c.args.piece.now c.loop-next.at (λ i. omega (arith, c.type_inv.piece i)) in
    onward_turn c.args.f _ _ _ _ _ c.requires.0 total header _ _ _ _ _ _ c.loop-next.invariant c.in-Some.ensures number (omega arith)

pub returns : goal.returns
returns c =
    let total = total_is c.args.f _ _ (sym c.unwrap-total.ensures ∙ c.total_of.ensures) refl in
    let header = c.header_of-header.ensures ∙ ap (header_of type_data) total in
    let between = c.is_between.ensures c.if-not-is_between.false in
    let there = tally_there c.args.t c.args.from c.loop-next.at c.loop-next.heard c.loop-next.position between in
    let goes = onward_end c.args.f _ _ _ _ _ c.requires.0 total header _ _ _ _ c.loop-next.invariant c.requires.2 in (
      subst (λ (u : Tally). Goes c.args.f c.args.t c.args.piece.now c.args.from (record { at = c.loop-next.at; code = 0; tally = u })) there
          goes,
      c.loop-next.invariant.low,
    )
