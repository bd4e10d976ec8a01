-- By the pairs that each channel of the head's form has.
use Rattle.std.proofs.Common.{◌≡◌, ℕ, sym, ap, ◌∙◌}
use Rattle.packets.specs.Channels.{pairs_each}
use Rattle.packets.proofs.Forms.{found_listed, found_some, picked_some}
use Rattle.heads.specs.Head.{form_in, channels_in}
use Rattle.heads.proofs.Values.{form_listed}
use Rattle.spans.proofs.due.ended_due.Goals as goal

pub unwrap-f-requires : goal.unwrap-f-requires
unwrap-f-requires c = rw (c.form_in.ensures, found_listed (form_in c.args.h) (form_listed c.args.h c.requires))

pub returns : goal.returns
returns c =
    let h = c.args.h in
    let got = (found_some (form_in h) c.unwrap-f.result (sym c.unwrap-f.ensures ∙ c.form_in.ensures)).1 in
    let each : c.unwrap-pairs.result ≡ pairs_each (channels_in h) (form_in h) =
    (picked_some _ _ _ (sym c.unwrap-pairs.ensures ∙ c.pairs_each.ensures)).1
    ∙ ap (pairs_each c.channels_in.result) got
    ∙ ap (λ (n : ℕ). pairs_each n (form_in h)) c.channels_in.ensures in
    rw (each, got)
