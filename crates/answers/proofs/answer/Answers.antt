-- What is judged gives the outcome and the settings, and what is written the reply.
use Rattle.std.proofs.Common.{◌≡◌, sym, ap, rules, arith, ℕ, List, Some, None}
use Rattle.std.proofs.lemmas.Result.{err_from_is_err_and}
use Rattle.wire.specs.declared.refusal.Refusal.TheVariants.{NoRoom}
use Rattle.items.specs.Answer.{Judged, Message}
use Rattle.items.proofs.Judging.{accepted_row, range_row}
use Rattle.answers.specs.declared.Outcome.TheVariants.{Replied, Nak}
use Rattle.answers.proofs.Answering.{judged_reply, nak_reply, answers_nothing, answers_short, answers_whole}
use Rattle.answers.proofs.answer.Goals as goal

abbrev message : ℕ → ℕ → List ℕ → Message
message kind size bytes = record { type = kind; size = size; bytes = bytes }

-- ---- an accepted message

pub put_reply-written-requires : goal.put_reply-written-requires
put_reply-written-requires c =
    let a = c.args in
    let m = message a.kind a.size a.opening.now in
    let one = sym (ap (λ (j : Judged). j.code) (rw c.in-Ok-Some.field-0-is at c.in-Ok-Some.ensures)) in
    rw c.item_in-item.ensures (accepted_row a.s m one, range_row a.s m one)

pub returns-in_err-ok_or-in-Ok-Some : goal.returns-in_err-ok_or-in-Ok-Some
returns-in_err-ok_or-in-Ok-Some c =
    let a = c.args in
    let m = message a.kind a.size a.opening.now in
    let judged = rw c.in-Ok-Some.field-0-is at c.in-Ok-Some.ensures in
    let none : c.put_reply-written.result ≡ None = grind arith in
    let short : c.in_err-ok_or-in-Ok-Some.field-0.0 ≡ NoRoom = grind arith in
    let p = err_from_is_err_and c.from_residual.result c.from_residual.ensures.1 in
    rw (p.1, p.2, short)
    (answers_short a.s m a.reply.now c.put_reply-written.result c.put_reply-written.new.reply _
    (judged_reply a.s m 1 c.item_in-item.result c.in-Ok-Some.settings (ap (λ (j : Judged). j.code) judged) c.item_in-item.ensures
    (ap (λ (j : Judged). j.settings) judged) (search rules) (λ e. omega arith))
    c.put_reply-written.ensures.0 c.put_reply-written.ensures.1 none)

pub returns-in_ok-ok_or-in-Ok-Some : goal.returns-in_ok-ok_or-in-Ok-Some
returns-in_ok-ok_or-in-Ok-Some c =
    let a = c.args in
    let m = message a.kind a.size a.opening.now in
    let judged = rw c.in-Ok-Some.field-0-is at c.in-Ok-Some.ensures in
    let some : c.put_reply-written.result ≡ Some c.in_ok-ok_or-in-Ok-Some.field-0 = grind arith in
    answers_whole a.s m a.reply.now c.put_reply-written.result c.put_reply-written.new.reply _
    (judged_reply a.s m 1 c.item_in-item.result c.in-Ok-Some.settings (ap (λ (j : Judged). j.code) judged) c.item_in-item.ensures
    (ap (λ (j : Judged). j.settings) judged) (search rules) (λ e. omega arith))
    c.put_reply-written.ensures.0 c.put_reply-written.ensures.1 Replied c.in-Ok-Some.settings _ judged some

-- ---- an unanswered one

pub returns-in-Ok-None : goal.returns-in-Ok-None
returns-in-Ok-None c =
    let a = c.args in
    answers_nothing a.s (message a.kind a.size a.opening.now) a.reply.now (rw c.in-Ok-None.field-0-is at c.in-Ok-None.ensures)

-- ---- a refused one

pub returns-in_err-ok_or-in-Err : goal.returns-in_err-ok_or-in-Err
returns-in_err-ok_or-in-Err c =
    let a = c.args in
    let m = message a.kind a.size a.opening.now in
    let none : c.put_nak-written.result ≡ None = grind arith in
    let short : c.in_err-ok_or-in-Err.field-0.0 ≡ NoRoom = grind arith in
    let p = err_from_is_err_and c.from_residual-in_err-ok_or-in-Err.result c.from_residual-in_err-ok_or-in-Err.ensures.1 in
    rw (p.1, p.2, short)
    (answers_short a.s m a.reply.now c.put_nak-written.result c.put_nak-written.new.reply _
    (nak_reply a.s m c.in-Err.refusal (ap (λ (j : Judged). j.code) c.in-Err.ensures))
    c.put_nak-written.ensures.0 c.put_nak-written.ensures.1 none)

pub returns-in_ok-ok_or-in-Err : goal.returns-in_ok-ok_or-in-Err
returns-in_ok-ok_or-in-Err c =
    let a = c.args in
    let m = message a.kind a.size a.opening.now in
    let some : c.put_nak-written.result ≡ Some c.in_ok-ok_or-in-Err.field-0 = grind arith in
    answers_whole a.s m a.reply.now c.put_nak-written.result c.put_nak-written.new.reply _
    (nak_reply a.s m c.in-Err.refusal (ap (λ (j : Judged). j.code) c.in-Err.ensures))
    c.put_nak-written.ensures.0 c.put_nak-written.ensures.1 (Nak c.in-Err.refusal) a.s _ c.in-Err.ensures some
