-- A packet has at least four bytes.
use Rattle.std.proofs.Common.{◌≡◌, ◌≤◌, false, length, sym, ◌∙◌, rules}
use Rattle.packets.specs.Forms.{is_packet}
use Rattle.packets.proofs.Forms.{found_some, found_none}
use Rattle.reader.proofs.Reading.{four_there, samples_there}
use Rattle.reader.proofs.sample_bytes.Goals as goal

pub slice_bounds-result-count : goal.slice_bounds-result-count
slice_bounds-result-count c = four_there _ (found_some _ _ (sym c.in-Some.is ∙ c.whole.ensures)).0

pub slice_bounds-result-start : goal.slice_bounds-result-start
slice_bounds-result-start c =
    let four : 4 ≤ length c.args.packet.now = four_there _ (found_some _ _ (sym c.in-Some.is ∙ c.whole.ensures)).0 in
    search rules

pub returns-in-Some : goal.returns-in-Some
returns-in-Some c = samples_there _ (found_some _ _ (sym c.in-Some.is ∙ c.whole.ensures)).0

pub returns-in-None : goal.returns-in-None
returns-in-None c =
    let none : is_packet c.args.packet.now ≡ false = found_none _ (sym c.in-None.is ∙ c.whole.ensures) in
    rw none
