-- At each turn what is left to read gives the whole; each turn reads one packet or ends.
use Rattle.std.proofs.Common.{◌≡◌, ◌+◌, ◌-◌, ◌/◌, ◌<◌, ℕ, refl, sym, arith, length}
use Rattle.wire.proofs.Refusals.{done_no_refusal}
use Rattle.reader.specs.Reading.{heard_says, unheard}
use Rattle.wire.specs.Refusal.{refusal_code}
use Rattle.runs.specs.Reading.{run_read}
use Rattle.runs.proofs.Turns.{run_heard, run_refused, run_over, one_more}
use Rattle.runs.proofs.skvornela_read_run.Goals as goal

pub returns-in_default : goal.returns-in_default
returns-in_default c =
    let l = c.loop-turn in
    let turns : ℕ = length c.args.packets.now / c.args.each in
    let left : ℕ = turns - l.turn in
    let part : l.at + c.args.each - l.at ≡ c.args.each = omega arith in
    run_refused left c.args.each l.at l.r (run_read l.sample l.lost) c.args.packets.now (unheard (refusal_code c.in_default.field-0) l.r) (omega arith)
    (rw part at c.in_default.ensures) (λ e. done_no_refusal c.in_default.field-0 (sym e)) l.invariant.same

pub loop-turn-preserved : goal.loop-turn-preserved
loop-turn-preserved c =
    let l = c.loop-turn in
    let turns : ℕ = length c.args.packets.now / c.args.each in
    let left : ℕ = turns - l.turn in
    let some : 0 < left = omega arith in
    let part : l.at + c.args.each - l.at ≡ c.args.each = omega arith in
    let down : turns - (l.turn + 1) ≡ left - 1 = omega arith in
    record {
      fits = rw down (omega (arith, one_more left c.args.each some, l.invariant.fits));
      same =
          rw down
          (run_heard left c.args.each l.at l.r (run_read l.sample l.lost) c.args.packets.now (heard_says c.in-Ok.h) some
          (rw part at c.in-Ok.ensures) refl l.invariant.same);
    }

pub returns : goal.returns
returns c =
    let l = c.loop-turn in
    run_over (length c.args.packets.now / c.args.each - l.turn) c.args.each l.r (run_read l.sample l.lost) _ (omega arith) l.invariant.same
