-- What a valid box keeps of a channel is its word.
use Rattle.std.proofs.Common.{refl}
use Rattle.station.specs.Station.{box_of, word_code, tuning_told}
use Rattle.station.proofs.Words.{told_as_kept}
use Rattle.station.proofs.word_held.Goals as goal

pub returns-then-not-is_sound : goal.returns-then-not-is_sound
unfolding tuning_told word_code
returns-then-not-is_sound c = rw (← c.is_sound.ensures, c.if-not-is_sound.true) refl

pub returns-then-not-is_open : goal.returns-then-not-is_open
unfolding tuning_told word_code
returns-then-not-is_open c =
    rw (← c.is_sound.ensures, c.if-not-is_sound.false, ← c.is_open.ensures, c.if-not-is_open.true) refl

pub returns : goal.returns
unfolding word_code
returns c =
    let a = c.args in
    rw (
      told_as_kept (box_of a.parts.settings a.held.now a.parts.taken) a.channel,
      ← c.is_sound.ensures,
      c.if-not-is_sound.false,
      ← c.is_open.ensures,
      c.if-not-is_open.false,
      c.channel_at.ensures,
    ) refl
