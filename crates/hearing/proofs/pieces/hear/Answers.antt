-- A broken tally, a form that is not listed, and else the whole piece.
use Rattle.std.proofs.Common.{sym, ap, subst, ◌∙◌, arith}
use Rattle.wire.proofs.Laws.{and_not_left, and_not_right}
use Rattle.packets.specs.Forms.{listed_form}
use Rattle.hearing.specs.declared.Tally.{Tally}
use Rattle.hearing.specs.Hearing.{Reach, tally_in_range, outcome, reach_told}
use Rattle.hearing.proofs.Goings.{Is-due, reach_due}
use Rattle.hearing.proofs.Ranges.{range_sane, hearing_broken, hearing_is}
use Rattle.hearing.proofs.pieces.hear.Goals as goal

pub returns-then-not-in_range-clause-heard : goal.returns-then-not-in_range-clause-heard
returns-then-not-in_range-clause-heard c =
    let a = c.args in
    let outside = sym c.in_range.ensures ∙ c.if-not-in_range.true in
    sym (hearing_broken a.f a.t a.piece.now (and_not_left _ (listed_form a.f) outside))

pub returns-then-not-is_listed-clause-heard : goal.returns-then-not-is_listed-clause-heard
returns-then-not-is_listed-clause-heard c =
    let a = c.args in
    let unlisted = sym c.is_listed.ensures ∙ c.if-not-is_listed.true in
    sym (hearing_broken a.f a.t a.piece.now (and_not_right (tally_in_range a.t) _ unlisted))

pub hear_all-reach-requires : goal.hear_all-reach-requires
hear_all-reach-requires c =
    let ranged = sym c.in_range.ensures ∙ c.if-not-in_range.false in
    (sym c.is_listed.ensures ∙ c.if-not-is_listed.false, range_sane c.args.t _ ranged (omega arith) (omega (arith, c.well_formed)))

pub next_tally-requires : goal.next_tally-requires
next_tally-requires c =
    let a = c.args in
    let h = c.hear_all-reach.ensures in
    let same = ap (λ (r : Reach). r.code) h.is in
    λ one. (
      h.sane,
      (subst (Is-due a.f) (sym h.is) (reach_due a.piece.now 0 a.f a.t (λ z. absurd (omega (arith, one, same, z))))).some,
    )

pub returns-clause-heard : goal.returns-clause-heard
returns-clause-heard c =
    let a = c.args in
    let ranged = sym c.in_range.ensures ∙ c.if-not-in_range.false in
    let listed = sym c.is_listed.ensures ∙ c.if-not-is_listed.false in
    ap (λ (n : Tally). record { reach = reach_told c.hear_all-reach.result; next = n }) c.next_tally.ensures
    ∙ ap outcome c.hear_all-reach.ensures.is
    ∙ sym (hearing_is a.f a.t a.piece.now ranged listed)
