-- The fresh box is written where there are a box's bytes for it.
use Rattle.boxdoor.proofs.Fed.{fresh_whole, fresh_broken}
use Rattle.station.specs.Station.{box_says}
use Rattle.boxdoor.proofs.feeding.skvornela_fresh.Goals as goal

pub returns-then-state-eq-LENGTH : goal.returns-then-state-eq-LENGTH
returns-then-state-eq-LENGTH c =
    let a = c.args in
    rw c.code.ensures
    (fresh_whole a.serial.now a.state.now _ (box_says c.fresh-began.result) c.if-state-eq-LENGTH.true c.fresh-began.ensures
    c.put_station.ensures)

pub returns : goal.returns
returns c = fresh_broken _ _ c.if-state-eq-LENGTH.false
