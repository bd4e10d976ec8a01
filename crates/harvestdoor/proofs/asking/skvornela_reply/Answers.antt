-- What the bytes say to the number's wish, as numbers.
use Rattle.std.proofs.Common.{◌≡◌, ap, ◌∙◌, rules}
use mir.Syntax.{w8}
use mir.Val.{to_z, of_z}
use Rattle.harvestdoor.specs.Asking.{shown}
use Rattle.harvestdoor.proofs.asking.skvornela_reply.Goals as goal

pub returns : goal.returns
returns c =
    let gain : to_z w8 (of_z w8 c.args.gain) ≡ c.args.gain = search rules in
    let wish = rw gain at c.wish_of.ensures in
    let level : to_z w8 (of_z w8 c.shown_by-s.result.gain) ≡ c.shown_by-s.result.gain = search rules in
    rw (level, c.code_of.ensures, ← wish) (c.shown_by-s.ensures ∙ ap shown c.read-answer.ensures)
