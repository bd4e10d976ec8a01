-- The one reply is written and compared.
use Rattle.std.proofs.Common.{refl, sym, ◌∙◌}
use Rattle.wishes.specs.declared.Wish.TheVariants.{AskFrequencyRange}
use Rattle.replies.proofs.Recognised.{range_written, range_read}
use Rattle.replies.proofs.Answers.{read_none, read_reply}
use Rattle.replies.proofs.read_range.Goals as goal

pub returns-then-same_words : goal.returns-then-same_words
returns-then-same_words c =
    let a = c.args in
    let p = c.requires in
    let is = range_read a.channel a.bytes.now c.put_range_reply.new.dst (range_written a.channel c.put_range_reply.new.dst c.put_range_reply.ensures.1) in
    read_reply (AskFrequencyRange a.channel) a.bytes.now p.0 refl p.1 _ (is ∙ sym c.same_words.ensures ∙ c.if-same_words.true) refl

pub returns-else-same_words : goal.returns-else-same_words
returns-else-same_words c =
    let a = c.args in
    let p = c.requires in
    let is = range_read a.channel a.bytes.now c.put_range_reply.new.dst (range_written a.channel c.put_range_reply.new.dst c.put_range_reply.ensures.1) in
    read_none (AskFrequencyRange a.channel) a.bytes.now p.0 refl p.1 (is ∙ sym c.same_words.ensures ∙ c.if-same_words.false)
