-- Each test decides what is left of the reply.
use Rattle.std.proofs.Common.{sym, ap, ◌∙◌}
use Rattle.replies.specs.Reading.{read_says}
use Rattle.std.specs.Prelude.{Ok}
use Rattle.replies.proofs.Around.{other_around, value_goes_on, value_fits, value_not_given, value_given}
use Rattle.replies.proofs.read_value.Goals as goal

pub returns-then-not-is_of : goal.returns-then-not-is_of
returns-then-not-is_of c =
    other_around c.args.w c.args.bytes.now c.requires c.reply_layout-a.result c.reply_layout-a.ensures (sym c.is_of.ensures ∙ c.if-not-is_of.true)

pub returns-then-not-ends_there : goal.returns-then-not-ends_there
returns-then-not-ends_there c =
    value_goes_on c.args.w c.args.bytes.now c.requires c.reply_layout-a.result c.reply_layout-a.ensures (sym c.is_of.ensures ∙ c.if-not-is_of.false)
    (sym c.ends_there.ensures ∙ c.if-not-ends_there.true)

pub could_say-requires : goal.could_say-requires
could_say-requires c =
    let p = c.requires in (
      p.1,
      p.2,
      value_fits c.args.w c.args.bytes.now p c.reply_layout-a.result c.reply_layout-a.ensures (sym c.is_of.ensures ∙ c.if-not-is_of.false)
          (sym c.ends_there.ensures ∙ c.if-not-ends_there.false) c.number_in-n.result c.number_in-n.ensures (λ k. (c.type_inv.bytes k).fits),
    )

pub returns-then-not-could_say : goal.returns-then-not-could_say
returns-then-not-could_say c =
    value_not_given c.args.w c.args.bytes.now c.requires c.reply_layout-a.result c.reply_layout-a.ensures (sym c.is_of.ensures ∙ c.if-not-is_of.false)
    (sym c.ends_there.ensures ∙ c.if-not-ends_there.false) c.number_in-n.result c.number_in-n.ensures (sym c.could_say.ensures ∙ c.if-not-could_say.true)

pub says-requires : goal.says-requires
says-requires c =
    value_fits c.args.w c.args.bytes.now c.requires c.reply_layout-a.result c.reply_layout-a.ensures (sym c.is_of.ensures ∙ c.if-not-is_of.false)
    (sym c.ends_there.ensures ∙ c.if-not-ends_there.false) c.number_in-n.result c.number_in-n.ensures (λ k. (c.type_inv.bytes k).fits)

pub returns : goal.returns
returns c =
    ap (λ r. read_says (Ok r)) c.says.ensures ∙
    value_given c.args.w c.args.bytes.now c.requires c.reply_layout-a.result c.reply_layout-a.ensures (sym c.is_of.ensures ∙ c.if-not-is_of.false)
    (sym c.ends_there.ensures ∙ c.if-not-ends_there.false) c.number_in-n.result c.number_in-n.ensures (sym c.could_say.ensures ∙ c.if-not-could_say.false)
