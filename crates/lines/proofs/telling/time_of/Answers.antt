-- Numbers that a capture can have are those that the end time is counted of.
use Rattle.std.proofs.Common.{sym, ◌∙◌}
use Rattle.lines.proofs.Times.{capture_fits, timing_by}
use Rattle.lines.proofs.telling.time_of.Goals as goal

pub returns-then-not-of_a_capture : goal.returns-then-not-of_a_capture
returns-then-not-of_a_capture c =
    let a = c.args in
    sym (timing_by a.samples a.divisor a.clock (sym c.of_a_capture.ensures ∙ c.if-not-of_a_capture.true))

pub end_time-requires : goal.end_time-requires
end_time-requires c =
    let a = c.args in
    capture_fits a.samples a.divisor a.clock (sym c.of_a_capture.ensures ∙ c.if-not-of_a_capture.false)

pub returns : goal.returns
returns c =
    let a = c.args in
    rw c.end_time.ensures
    (sym (timing_by a.samples a.divisor a.clock (sym c.of_a_capture.ensures ∙ c.if-not-of_a_capture.false)))
