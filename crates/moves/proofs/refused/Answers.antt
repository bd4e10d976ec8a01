-- Each arm knows why moving the head was refused.
use Rattle.std.proofs.Common.{sym, ap}
use mathlib.Core.Path.{◌∙◌}
use Rattle.wire.specs.Refusal.{refusal_code}
use Rattle.lines.specs.Lines.{decimal, digits_in}
use Rattle.heads.proofs.Codes.{refused_for}
use Rattle.moves.proofs.Firsts.{refused, has_room_lem}
use Rattle.moves.proofs.refused.Goals as goal

pub refuse-requires : goal.refuse-requires
unfolding decimal digits_in
refuse-requires g c = (c.requires.0, refused _ _ (ap refusal_code (sym c.in-NotAHead.is) ∙ c.requires.1))

pub refuse-requires-in-OtherVersion : goal.refuse-requires-in-OtherVersion
unfolding decimal digits_in
refuse-requires-in-OtherVersion g c =
    (c.requires.0, refused _ _ (ap refusal_code (sym c.in-OtherVersion.is) ∙ c.requires.1))

pub refuse-requires-in-WouldLose : goal.refuse-requires-in-WouldLose
unfolding decimal digits_in
refuse-requires-in-WouldLose g c =
    (c.requires.0, refused _ _ (ap refusal_code (sym c.in-WouldLose.is) ∙ c.requires.1))

pub unreachable-requires : goal.unreachable-requires
unreachable-requires g c =
    let room = refused_for _ _ _ _ c.requires.1 c.in_default.not-NotAHead c.in_default.not-OtherVersion c.in_default.not-WouldLose in
    has_room_lem _ _ (sym c.requires.1 ∙ ap refusal_code room)
