-- The held bytes in their places, and then all but them.
use Rattle.std.proofs.Common.{◌≡◌, ap, ◌∙◌, arith, rules, length, ℕ, List}
use lib.Seq.{sets, length-sets}
use Rattle.wire.specs.Number.{bytes}
use Rattle.wire.proofs.Stores.{sets_taken}
use Rattle.boxdoor.specs.States.{held_from, taken_from, settings_bytes}
use Rattle.boxdoor.proofs.Fields.{parts_stored}
use Rattle.boxdoor.proofs.states.put_station.Goals as goal

pub returns : goal.returns
returns c =
    let s = c.args.s in
    let l = c.args.b.now in
    let long : length s.settings.serial ≡ 8 = search rules in
    let many : length s.store.held ≡ 64 = search rules in
    let placed = rw many at (sets_taken l held_from s.store.held (omega (arith, many, c.requires))) in
    rw c.parts.ensures at c.put_parts.ensures
    ∙ ap (λ (r : List ℕ). sets (sets r 0 (settings_bytes s.settings)) taken_from (bytes 8 s.store.taken)) c.copy.ensures
    ∙ parts_stored s.settings s.store.held (sets l held_from s.store.held) s.store.taken
    (length-sets l held_from s.store.held ∙ c.requires) long placed
