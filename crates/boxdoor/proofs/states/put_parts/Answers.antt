-- The settings, and the count in its place.
use Rattle.std.proofs.Common.{◌≡◌, sym, ap, ◌∙◌, arith, rules, length, ℕ, List}
use borrow.Rule.Slice.PartMut.{put_mid}
use lib.Seq.{sets, length-take-le}
use Rattle.wire.specs.Number.{bytes}
use Rattle.boxdoor.specs.States.{held_from, taken_from, settings_bytes}
use Rattle.boxdoor.proofs.Fields.{front_stored, settings_long}
use Rattle.boxdoor.proofs.states.put_parts.Goals as goal

pub slice_bounds-put_settings-end-2 : goal.slice_bounds-put_settings-end-2
slice_bounds-put_settings-end-2 c = sym (length-take-le held_from c.args.b.now (omega (arith, c.requires)))

pub returns : goal.returns
returns c =
    let a = c.args in
    let long : length a.parts.settings.serial ≡ 8 = search rules in
    let stored =
    ap (λ (p : List ℕ). put_mid 0 held_from a.b.now p) c.put_settings.ensures
    ∙ front_stored a.b.now (settings_bytes a.parts.settings) (settings_long a.parts.settings long) (omega (arith, c.requires)) in
    c.put.ensures ∙ ap (λ (l : List ℕ). sets l taken_from (bytes 8 a.parts.taken)) stored
