-- The line of a capture in which packets were heard, and else nothing.
use Rattle.std.proofs.Common.{◌+◌, arith}
use borrow.Author.Tests.{eq-eqb, ne_eqb}
use Rattle.lines.specs.Due.{capture_in}
use Rattle.lines.proofs.Texts.{stored_within, nothing_stored}
use Rattle.lines.proofs.Dues.{one_line, sizes, samples_fit}
use Rattle.lines.proofs.telling.put_capture.Goals as goal

pub returns-then-d-eq0 : goal.returns-then-d-eq0
returns-then-d-eq0 c = rw (eq-eqb _ 0 c.if-d-eq0.true) (stored_within 170 (omega arith) (nothing_stored _ _))

pub overflow_add-positions : goal.overflow_add-positions
overflow_add-positions c = omega (arith, (sizes c.args.d c.requires.1).position)

pub overflow_mul-samples : goal.overflow_mul-samples
overflow_mul-samples c =
    let p = sizes c.args.d c.requires.1 in
    omega (arith, samples_fit (c.args.d.position + 1) c.args.d.pairs (omega (arith, p.position)) p.pairs)

pub end_time-requires : goal.end_time-requires
end_time-requires c =
    let p = sizes c.args.d c.requires.1 in
    (samples_fit _ _ (omega (arith, p.position)) p.pairs, p.divisor, p.clock)

pub overflow_sub-ns : goal.overflow_sub-ns
overflow_sub-ns c = (sizes c.args.d c.requires.1).heard

pub returns : goal.returns
returns c =
    rw (ne_eqb _ 0 c.if-d-eq0.false) (one_line (capture_in c.args.d) (rw c.end_time.ensures at c.put_line.ensures))
