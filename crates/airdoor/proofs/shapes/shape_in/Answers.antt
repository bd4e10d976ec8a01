-- A head's form is listed or none; a listed form has few pairs.
use Rattle.std.proofs.Common.{sym, ap, ◌∙◌, arith}
use Rattle.std.proofs.lemmas.Result.{err_from_is_err_and}
use Rattle.packets.specs.declared.Form.{Form}
use Rattle.packets.specs.Forms.{listed_form}
use Rattle.packets.proofs.Forms.{found_ok, found_err, is_listed_form}
use Rattle.heads.specs.Head.{form_in}
use Rattle.airdoor.proofs.Behind.{shape_by, shaped}
use Rattle.airdoor.proofs.shapes.shape_in.Goals as goal

pub returns-in_err-form : goal.returns-in_err-form
returns-in_err-form c =
    let up = err_from_is_err_and c.from_residual.result c.from_residual.ensures.1 in
    let none = found_err (form_in c.args.h) _ _ _ c.form_in.ensures (sym c.ok_or.ensures.value ∙ c.in_err-form.was) in
    rw (up.1, up.2, none.1) (sym (shape_by c.args.h none.0))

pub overflow_mul-result : goal.overflow_mul-result
overflow_mul-result c =
    let form = found_ok (form_in c.args.h) _ _ _ c.form_in.ensures (sym c.ok_or.ensures.value ∙ c.in_ok-form.was) in
    omega (arith, (is_listed_form (form_in c.args.h) form.0).few, ap (λ (f : Form). f.pairs) form.1)

pub unwrap-requires-2 : goal.unwrap-requires-2
unwrap-requires-2 c =
    let form = found_ok (form_in c.args.h) _ _ _ c.form_in.ensures (sym c.ok_or.ensures.value ∙ c.in_ok-form.was) in
    rw (c.total_of.ensures, ap listed_form form.1, form.0)

pub returns : goal.returns
returns c =
    let form = found_ok (form_in c.args.h) _ _ _ c.form_in.ensures (sym c.ok_or.ensures.value ∙ c.in_ok-form.was) in
    shaped c.args.h c.in_ok-form.form c.channels_in-channels.result c.unwrap.result c.unwrap-2.result form.1 (ap listed_form form.1 ∙ form.0)
    c.channels_in-channels.ensures (sym c.unwrap.ensures ∙ c.pairs_each.ensures) (sym c.unwrap-2.ensures ∙ c.total_of.ensures)
