-- 15 is checked before 16, and that before 20; where none holds, the message is written as it is laid out.
use Rattle.std.proofs.Common.{◌≡◌, sym, ap, ◌∙◌, length, refl, ℕ}
use Rattle.std.specs.Prelude.{Option, Ok}
use Rattle.std.specs.Option.{ok_or}
use Rattle.wire.specs.declared.refusal.Refusal.TheVariants.{NoRoom}
use lib.Dec.{lit≤}
use native.Mathlib.Nat.{le_trans}
use Rattle.layouts.proofs.Writing.{written_whole}
use Rattle.wishes.specs.Wishes.{layout_of, message_of}
use Rattle.wishes.specs.Writing.{written_says, bytes_written}
use Rattle.wishes.proofs.Rows.{short_message}
use Rattle.wishes.proofs.Answers.{code_closed, code_not_allowed, code_no_room, code_written}
use Rattle.wishes.proofs.write.Goals as goal

pub returns-then-not-is_open : goal.returns-then-not-is_open
unfolding bytes_written
returns-then-not-is_open c =
    let e = code_closed c.args.w (length c.args.buffer.now) (sym c.is_open.ensures ∙ c.if-not-is_open.true) in
    (rw e, rw e)

pub returns-then-not-is_allowed : goal.returns-then-not-is_allowed
unfolding bytes_written
returns-then-not-is_allowed c =
    let e = code_not_allowed c.args.w (length c.args.buffer.now) (sym c.is_open.ensures ∙ c.if-not-is_open.false) (sym c.is_allowed.ensures ∙ c.if-not-is_allowed.true) in
    (rw e, rw e)

pub returns-then-buffer-lt16 : goal.returns-then-buffer-lt16
unfolding bytes_written
returns-then-buffer-lt16 c =
    let e = code_no_room c.args.w (length c.args.buffer.now) (sym c.is_open.ensures ∙ c.if-not-is_open.false) (sym c.is_allowed.ensures ∙ c.if-not-is_allowed.false) c.if-buffer-lt16.true in
    (rw e, rw e)

pub returns : goal.returns
unfolding bytes_written message_of
returns c =
    let a = c.args in
    let e = code_written a.w (length a.buffer.now) (sym c.is_open.ensures ∙ c.if-not-is_open.false) (sym c.is_allowed.ensures ∙ c.if-not-is_allowed.false) c.if-buffer-lt16.false in
    let put = rw c.layout_of.ensures at c.put.ensures in
    let fits = le_trans (short_message a.w) (le_trans (lit≤ tt) c.if-buffer-lt16.false) in
    let whole = written_whole a.buffer.now (layout_of a.w) _ _ fits put in
    let told : c.ok_or.result ≡ Ok (length (message_of a.w)) = c.ok_or.ensures.value ∙ ap (λ (o : Option ℕ). ok_or o NoRoom) whole.0 in
    (ap written_says told ∙ rw e refl, rw e whole.1)
