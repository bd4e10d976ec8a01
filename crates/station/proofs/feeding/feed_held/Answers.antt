-- The box is broken, or it is a valid one.
use Rattle.std.proofs.Common.{refl, sym, ◌∙◌, length}
use Rattle.station.specs.Station.{box_of}
use Rattle.station.proofs.Valid.{feeding_broken}
use Rattle.station.proofs.feeding.feed_held.Goals as goal

pub returns-then-not-is_sound : goal.returns-then-not-is_sound
returns-then-not-is_sound c =
    let a = c.args in
    rw (feeding_broken (box_of a.parts.settings a.held.now a.parts.taken) a.host.now (length a.reply.now)
    (sym c.is_sound.ensures ∙ c.if-not-is_sound.true))
    (refl, refl, refl, refl)
