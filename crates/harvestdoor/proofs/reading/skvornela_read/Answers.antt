-- What the packet reader says is left in the lent numbers, and the reader after a packet that was heard in its bytes.
use Rattle.std.proofs.Common.{◌<◌, ℕ, get_or, refl, ap, ◌∙◌, rules}
use Rattle.harvestdoor.proofs.Heard.{heard_whole, heard_reading, heard_says_so, refused_says_so}
use Rattle.harvestdoor.proofs.Going.{heard_stored}
use Rattle.harvestdoor.proofs.reading.skvornela_read.Goals as goal

pub put_heard-requires : goal.put_heard-requires
put_heard-requires c = heard_whole c.args.state.now c.args.packet.now _ c.in-Ok.ensures refl

pub returns-in-Ok : goal.returns-in-Ok
returns-in-Ok c =
    let long = heard_whole c.args.state.now c.args.packet.now _ c.in-Ok.ensures refl in
    let same = heard_reading c.args.state.now c.args.packet.now _ c.in-Ok.ensures refl in
    let small : (k : ℕ) → get_or c.args.state.now k 0 < 256 = λ k. search rules in
    heard_says_so c.args.state.now c.args.packet.now _ c.in-Ok.ensures refl c.put_heard.new.state
    (c.put_heard.ensures ∙ heard_stored c.args.state.now long small c.args.packet.now _ same)

pub returns-in-Err : goal.returns-in-Err
returns-in-Err c =
    ap (λ (n : ℕ). record { code = n; position = 0; sample = 0; missed = 0; total = 0; state = c.args.state.now }) c.from.ensures
    ∙ refused_says_so c.args.state.now c.args.packet.now c.in-Err.refusal c.in-Err.ensures
