-- What is due for an accepted message that asks no range is its reply, as it is laid out.
use mathlib.Core.Path.{◌≡◌, ◌∙◌}
use mathlib.Core.List.{[], ◌∷◌}
use Rattle.wire.specs.Header.{type_reply}
use Rattle.items.specs.Items.{row_of}
use Rattle.items.specs.Answer.{framed, reply_body}
use Rattle.answers.specs.Inside.{due}
use Rattle.answers.proofs.Room.{message_put, due_reply}
use borrow.Author.Rules.{rules}
use Rattle.answers.proofs.writing.put_reply.Goals as goal

pub returns : goal.returns
returns c =
    let a = c.args in
    let is : framed type_reply (reply_body (row_of a.item) a.s (a.echo ∷ [])) ≡ due 1 a.kind a.item a.echo a.s =
    search (rules, due_reply) in
    message_put a.reply.now (due 1 a.kind a.item a.echo a.s) c.reply_layout.result c.put.result
    c.put.new.dst (c.reply_layout.ensures ∙ is) c.put.ensures
