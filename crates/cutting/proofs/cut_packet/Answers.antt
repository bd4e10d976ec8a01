-- The box is lent in parts, and put together again.
use Rattle.std.proofs.Common.{◌≡◌, refl, length}
use Rattle.std.proofs.lemmas.Result.{err_from_is_err_and}
use Rattle.framing.specs.declared.Store.{Store}
use Rattle.cutting.specs.Cutting.{Cut, CutHeld, cutting_of, parts_of}
use Rattle.cutting.proofs.Ways.{cutting_holds}
use Rattle.cutting.proofs.cut_packet.Goals as goal

-- what a call returns, from its parts
together : (made : Cut) (r : CutHeld) (store : Store) → r ≡ parts_of made → made.station.store ≡ store
    → record { code = r.code; wrote = r.wrote; station = record { settings = r.settings; store = store } } ≡ made
together made r store told kept = rw (told, ← kept) refl

pub returns-in_err-cut : goal.returns-in_err-cut
returns-in_err-cut c =
    let a = c.args in
    let n = length a.packet.now in
    let p = err_from_is_err_and c.from_residual.result c.from_residual.ensures.1 in
    let told = rw c.parts.ensures at c.in_err-cut.ensures.0 in
    let wrote = rw c.parts.ensures at c.in_err-cut.ensures.1 in
    rw (p.1, p.2) (together (cutting_of a.s a.samples.now n).cut _ a.s.store told (cutting_holds a.s a.samples.now n), wrote)

pub returns : goal.returns
returns c =
    let a = c.args in
    let n = length a.packet.now in
    let told = rw c.parts.ensures at c.in_ok-cut.ensures.0 in
    let wrote = rw c.parts.ensures at c.in_ok-cut.ensures.1 in
    (together (cutting_of a.s a.samples.now n).cut _ a.s.store told (cutting_holds a.s a.samples.now n), wrote)
