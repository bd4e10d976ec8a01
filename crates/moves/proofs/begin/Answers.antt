-- Each arm knows what moving the head came to.
use Rattle.std.proofs.Common.{refl, sym, ap}
use mathlib.Core.Path.{◌∙◌}
use Rattle.wire.specs.Refusal.{code_of}
use Rattle.moves.proofs.Firsts.{stands}
use Rattle.moves.proofs.begin.Goals as goal

pub write_moved-requires : goal.write_moved-requires
write_moved-requires g c =
    let is = c.move_head.ensures in
    let moves = sym (ap code_of (sym c.in-Ok.is) ∙ is.code) in
    let there = stands _ _ _ _ g.met.W.Way.allowed refl moves is.bytes in
    (record { enough = c.requires; moves = moves }, there.inside, there.bytes)

pub refused-requires : goal.refused-requires
refused-requires g c = (c.requires, ap code_of (sym c.in-Err.is) ∙ c.move_head.ensures.code)
