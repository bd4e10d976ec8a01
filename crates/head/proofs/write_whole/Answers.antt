-- Writing is not refused, so the head's bytes are there, 14 of them or 26.
use Rattle.std.proofs.Common.{refl}
use mathlib.Core.Path.{◌∙◌}
use Rattle.head.proofs.Written.{not_refused, all_of_it, half_of_it, done}
use Rattle.head.proofs.write_whole.Goals as goal

pub unwrap-requires : goal.unwrap-requires
unwrap-requires c = done _ (c.write_head.ensures.code ∙ not_refused _ c.requires)

pub write_bytes-requires : goal.write_bytes-requires
write_bytes-requires c =
    (c.requires, all_of_it _ c.requires _ _ refl c.write_head.ensures.bytes c.if-h-eq2.true)

pub write_bytes-requires-else-h-eq2 : goal.write_bytes-requires-else-h-eq2
write_bytes-requires-else-h-eq2 c =
    (c.requires, half_of_it _ c.requires _ _ refl c.write_head.ensures.bytes c.if-h-eq2.false)
