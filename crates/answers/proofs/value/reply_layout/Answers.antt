-- Each arm lays out its row's value.
use Rattle.std.proofs.Common.{◌≡◌, ℕ, [], ◌∷◌, take, refl, sym, ap, ◌∙◌}
use Rattle.std.specs.Prelude.{Option, Some, None}
use Rattle.wire.specs.Number.{bytes}
use Rattle.wire.specs.Header.{type_reply}
use Rattle.layouts.specs.declared.Layout.{Layout}
use Rattle.layouts.specs.Layouts.{echo_bytes, laid}
use Rattle.items.specs.declared.Settings.{Settings}
use Rattle.items.specs.Items.{echoes, row_of}
use Rattle.items.specs.Answer.{framed, reply_body}
use Rattle.items.proofs.States.{status_bytes}
use Rattle.answers.specs.Inside.{replying}
use Rattle.answers.proofs.Shown.{shows, no_row}
use Rattle.answers.proofs.value.reply_layout.Goals as goal

-- the item's value in so many bytes is the reply, without the byte that is echoed or with it
of_row : (s : Settings) (item echo : ℕ) (echoed : Option ℕ) (width value : ℕ) (a : Layout) → a ≡ replying item echoed width value
    → (row_of item).code ≡ item → (row_of item).rule.value s (echo ∷ []) ≡ bytes width value
    → take (echoes (row_of item).echoed) (echo ∷ []) ≡ echo_bytes echoed
    → laid a ≡ framed type_reply (reply_body (row_of item) s (echo ∷ []))
of_row s item echo echoed width value a is code shown same = ap laid is ∙ shows (row_of item) item width value s echo echoed code shown same

pub returns-in-1 : goal.returns-in-1
unfolding row_of
returns-in-1 c =
    of_row c.args.s c.args.item c.args.echo None 7 0x00_52_44_53_74_65_4E _ c.reply.ensures c.requires (rw c.in-1.is refl) (rw c.in-1.is refl)

pub returns-in-2 : goal.returns-in-2
unfolding row_of
returns-in-2 c =
    of_row c.args.s c.args.item c.args.echo None 9 c.serial_value.result _ c.reply-in-2.ensures c.requires (rw c.in-2.is (sym c.serial_value.ensures)) (rw c.in-2.is refl)

pub returns-in-3 : goal.returns-in-3
unfolding row_of
returns-in-3 c =
    of_row c.args.s c.args.item c.args.echo None 2 105 _ c.reply-in-3.ensures c.requires (rw c.in-3.is refl) (rw c.in-3.is refl)

pub returns-in-4 : goal.returns-in-4
unfolding row_of
returns-in-4 c = rw c.in-4.is c.version.ensures

pub returns-in-5 : goal.returns-in-5
unfolding row_of
returns-in-5 c =
    of_row c.args.s c.args.item c.args.echo None 1 c.status_value.result _ c.reply-in-5.ensures c.requires (rw (c.in-5.is, c.status_value.ensures) (status_bytes c.args.s.running)) (rw c.in-5.is refl)

pub returns-in-24 : goal.returns-in-24
unfolding row_of
returns-in-24 c =
    of_row c.args.s c.args.item c.args.echo None 4 c.state_value.result _ c.reply-in-24.ensures c.requires (rw c.in-24.is (sym c.state_value.ensures)) (rw c.in-24.is refl)

pub returns-in-25 : goal.returns-in-25
unfolding row_of
returns-in-25 c =
    of_row c.args.s c.args.item c.args.echo None 1 c.args.s.setup _ c.reply-in-25.ensures c.requires (rw c.in-25.is refl) (rw c.in-25.is refl)

pub returns-in-32 : goal.returns-in-32
unfolding row_of
returns-in-32 c =
    of_row c.args.s c.args.item c.args.echo (Some c.args.echo) 5 c.channel_at.result.frequency _ c.reply-in-32.ensures c.requires (rw (c.in-32.is, c.channel_at.ensures) refl) (rw c.in-32.is refl)

pub returns-in-56 : goal.returns-in-56
unfolding row_of
returns-in-56 c =
    of_row c.args.s c.args.item c.args.echo (Some c.args.echo) 1 c.channel_at-in-56.result.gain _ c.reply-in-56.ensures c.requires (rw (c.in-56.is, c.channel_at-in-56.ensures) refl) (rw c.in-56.is refl)

pub returns-in-176 : goal.returns-in-176
unfolding row_of
returns-in-176 c =
    of_row c.args.s c.args.item c.args.echo (Some c.args.echo) 4 c.args.s.clock _ c.reply-in-176.ensures c.requires (rw c.in-176.is refl) (rw c.in-176.is refl)

pub returns-in-184 : goal.returns-in-184
unfolding row_of
returns-in-184 c =
    of_row c.args.s c.args.item c.args.echo (Some c.args.echo) 4 c.achieved.result _ c.reply-in-184.ensures c.requires (rw c.in-184.is (ap (bytes 4) (sym c.achieved.ensures))) (rw c.in-184.is refl)

pub returns-in-196 : goal.returns-in-196
unfolding row_of
returns-in-196 c =
    of_row c.args.s c.args.item c.args.echo None 1 c.args.s.size _ c.reply-in-196.ensures c.requires (rw c.in-196.is refl) (rw c.in-196.is refl)

pub returns-in_default : goal.returns-in_default
returns-in_default c =
    let r = c.in_default.in_default-own.rest in
    -- the codes before the last three, the last six, the last nine
    let r9 = r.0.0.0 in
    let r6 = r9.0.0.0 in
    let r3 = r6.0.0.0 in
    let none = no_row c.args.item r3.0.0.1 r3.0.1 r3.1 r6.0.0.1 r6.0.1 r6.1 r9.0.0.1 r9.0.1 r9.1 r.0.0.1 r.0.1 r.1 in
    of_row c.args.s c.args.item c.args.echo None 0 0 _ c.reply-in_default.ensures c.requires (rw none refl) (rw none refl)
