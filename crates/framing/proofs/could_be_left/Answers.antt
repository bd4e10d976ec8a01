-- A store has 64 places, a finished message could not be left, and of another the unused places decide.
use Rattle.std.proofs.Common.{sym, ◌∙◌, arith}
use Rattle.framing.proofs.Leaving.{left_short, left_finished, left_unfinished}
use Rattle.framing.proofs.could_be_left.Goals as goal

pub returns-then-held-ne64 : goal.returns-then-held-ne64
returns-then-held-ne64 c =
    let a = c.args in
    sym (left_short (record { held = a.held.now; taken = a.taken }) (λ e. omega arith))

pub returns-then-is_finished : goal.returns-then-is_finished
returns-then-is_finished c =
    let a = c.args in
    sym (left_finished (record { held = a.held.now; taken = a.taken }) (sym c.is_finished.ensures ∙ c.if-is_finished.true))

pub returns : goal.returns
returns c =
    let a = c.args in
    let unfinished = sym c.is_finished.ensures ∙ c.if-is_finished.false in
    c.unused.ensures ∙ sym (left_unfinished (record { held = a.held.now; taken = a.taken }) (omega arith) unfinished)
