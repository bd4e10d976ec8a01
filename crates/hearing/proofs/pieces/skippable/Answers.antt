-- What is left of the packet but for its last byte, or all there is.
use Rattle.std.proofs.Common.{sym, ap, ◌∙◌, arith}
use Rattle.packets.specs.Forms.{listed_form}
use Rattle.packets.proofs.Forms.{found_some}
use Rattle.hearing.specs.Hearing.{form_coming}
use Rattle.hearing.proofs.Heard.{total_is}
use Rattle.hearing.proofs.pieces.skippable.Goals as goal

pub unwrap-total-requires : goal.unwrap-total-requires
unwrap-total-requires c =
    let form = found_some (form_coming c.args.t) _ (sym c.in-Some.is ∙ c.form_of_header.ensures) in
    rw (c.total_of.ensures, ap listed_form form.1, form.0)

pub returns : goal.returns
returns c =
    let form = found_some (form_coming c.args.t) _ (sym c.in-Some.is ∙ c.form_of_header.ensures) in
    let total = total_is _ _ _ (sym c.unwrap-total.ensures ∙ c.total_of.ensures) form.1 in (
      omega (arith, c.min.ensures),
      λ some. record { past = c.if-t-lt4.false; form = form.0; short = omega (arith, c.min.ensures, total, c.if-total-t.false) },
    )
