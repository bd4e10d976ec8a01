-- What is no packet has no form, and a whole packet is refused by `samples` only for want of room.
use Rattle.std.proofs.Common.{◌≡◌, ◌*◌, false, true, length, sym, ap, ◌∙◌}
use Rattle.std.proofs.lemmas.Result.{err_from_is_err_and}
use Rattle.std.proofs.lemmas.List.Edits.{sets}
use Rattle.packets.specs.declared.Form.{Form}
use Rattle.packets.specs.Forms.{whole_of}
use Rattle.packets.proofs.Forms.{found_ok, found_err}
use Rattle.samples.specs.Packing.{may_unpack, unpacked_of}
use Rattle.reader.proofs.Unpacking.{unpack_none, writes_none, unpack_short, writes_short, unpack_all, writes_all}
use Rattle.reader.proofs.unpack.Goals as goal

pub returns-in_err-form : goal.returns-in_err-form
returns-in_err-form c =
    let up = err_from_is_err_and c.from_residual.result c.from_residual.ensures.1 in
    let none = found_err (whole_of c.args.packet.now) _ _ _ c.whole.ensures (sym c.ok_or.ensures.value ∙ c.in_err-form.was) in
    (rw (up.1, up.2, none.1) (unpack_none c.args.packet.now (length c.args.out.now) none.0), ap (sets c.args.out.now 0) (writes_none c.args.packet.now (length c.args.out.now) none.0))

pub returns-then-not-unpack : goal.returns-then-not-unpack
returns-then-not-unpack c =
    let form = found_ok (whole_of c.args.packet.now) _ _ _ c.whole.ensures (sym c.ok_or.ensures.value ∙ c.in_ok-form.was) in
    let p = c.args.packet.now in
    let room = length c.args.out.now in
    let asked : may_unpack (whole_of p) (length p) room ≡ c.unpack.result
    = sym (c.unpack.ensures.0 ∙ ap (λ (f : Form). may_unpack f (length p) room) form.1) in
    let short : may_unpack (whole_of p) (length p) room ≡ false = asked ∙ c.if-not-unpack.true in (
      unpack_short p room form.0 short,
      c.unpack.ensures.1 ∙ ap (λ (f : Form). sets c.args.out.now 0 (unpacked_of f p room)) form.1
          ∙ ap (sets c.args.out.now 0) (writes_short p room form.0 short),
    )

pub returns : goal.returns
returns c =
    let form = found_ok (whole_of c.args.packet.now) _ _ _ c.whole.ensures (sym c.ok_or.ensures.value ∙ c.in_ok-form.was) in
    let p = c.args.packet.now in
    let room = length c.args.out.now in
    let asked : may_unpack (whole_of p) (length p) room ≡ c.unpack.result
    = sym (c.unpack.ensures.0 ∙ ap (λ (f : Form). may_unpack f (length p) room) form.1) in
    let fits : may_unpack (whole_of p) (length p) room ≡ true = asked ∙ c.if-not-unpack.false in (
      ap (λ (f : Form). record { code = 1; count = 2 * f.pairs }) form.1 ∙ unpack_all p room form.0 fits,
      c.unpack.ensures.1 ∙ ap (λ (f : Form). sets c.args.out.now 0 (unpacked_of f p room)) form.1
          ∙ ap (sets c.args.out.now 0) (writes_all p room form.0 fits),
    )
