-- The box's held bytes are lent where they lie, the packet is cut, and the rest written back where the call was not refused.
use Rattle.std.proofs.Common.{◌≡◌, ap, sym, ◌∙◌, length, arith, Ok, Err}
use Rattle.cutting.specs.Cutting.{held_says}
use Rattle.boxdoor.proofs.Lent.{read_of}
use Rattle.boxdoor.proofs.CutOver.{Lent, cut_done, cut_refused, packet_whole, cut_broken, packet_broken, high_code}
use Rattle.boxdoor.proofs.cuts.skvornela_cut.Goals as goal

pub returns-in-Ok : goal.returns-in-Ok
returns-in-Ok c =
    let a = c.args in
    let r = length a.packet.now in
    let p = c.parts_of-parts.result in
    let l : Lent a.state.now a.samples.now r =
    record {
      box = read_of a.state.now p c.if-state-eq-LENGTH.true c.parts_of-parts.ensures;
      back = held_says p.settings (Ok c.in-Ok.cut);
      told = c.in-Ok.ensures.0;
    } in (
      cut_done a.state.now a.samples.now r l _ (omega arith) c.put_parts.ensures,
      packet_whole a.state.now a.samples.now r l a.packet.now _ c.in-Ok.ensures.1,
    )

pub returns-in-Err : goal.returns-in-Err
returns-in-Err c =
    let a = c.args in
    let r = length a.packet.now in
    let p = c.parts_of-parts.result in
    let l : Lent a.state.now a.samples.now r =
    record {
      box = read_of a.state.now p c.if-state-eq-LENGTH.true c.parts_of-parts.ensures;
      back = held_says p.settings (Err c.in-Err.refusal);
      told = c.in-Err.ensures.0;
    } in
    rw c.from.ensures (
      cut_refused a.state.now a.samples.now r l (high_code a.state.now a.samples.now r l c.in-Err.refusal c.in-Err.ensures.0),
      packet_whole a.state.now a.samples.now r l a.packet.now _ c.in-Err.ensures.1,
    )

pub returns : goal.returns
returns c = (cut_broken _ _ _ c.if-state-eq-LENGTH.false, packet_broken _ _ _ _ c.if-state-eq-LENGTH.false)
