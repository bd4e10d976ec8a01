-- Each return has the code of the tests that led there.
use Rattle.std.proofs.Common.{refl, sym, ap, ◌∙◌}
use borrow.Author.Tests.{lt-ltb, le-ltb, not-true, not-false}
use Rattle.packets.specs.declared.Form.{Form}
use Rattle.packets.specs.Forms.{listed_form, same_form}
use Rattle.packets.proofs.Forms.{found_some, found_none}
use Rattle.hearing.specs.Hearing.{form_coming}
use Rattle.hearing.proofs.Heard.{heard_by, total_is}
use Rattle.hearing.proofs.coming.is_whole.Goals as goal

pub returns-then-t-lt2 : goal.returns-then-t-lt2
returns-then-t-lt2 c = sym (heard_by _ _ (lt-ltb _ _ c.if-t-lt2.true) refl refl refl refl refl)

pub returns-in_default : goal.returns-in_default
returns-in_default c =
    let none = found_none (form_coming c.args.t) (sym c.in_default.is ∙ c.form_of_header.ensures) in
    sym (heard_by _ _ (le-ltb _ _ c.if-t-lt2.false) none refl refl refl refl)

pub unwrap-requires : goal.unwrap-requires
unwrap-requires c =
    let form = found_some (form_coming c.args.t) _ (sym c.in-Some.is ∙ c.form_of_header.ensures) in
    rw (c.total_of.ensures, ap listed_form form.1, form.0)

pub returns-then-t-unwrap : goal.returns-then-t-unwrap
returns-then-t-unwrap c =
    let form = found_some (form_coming c.args.t) _ (sym c.in-Some.is ∙ c.form_of_header.ensures) in
    let total = total_is _ _ _ (sym c.unwrap.ensures ∙ c.total_of.ensures) form.1 in
    sym (heard_by _ _ (le-ltb _ _ c.if-t-lt2.false) form.0 (lt-ltb _ _ (rw total at c.if-t-unwrap.true)) refl refl refl)

pub returns-then-ne : goal.returns-then-ne
returns-then-ne c =
    let form = found_some (form_coming c.args.t) _ (sym c.in-Some.is ∙ c.form_of_header.ensures) in
    let total = total_is _ _ _ (sym c.unwrap.ensures ∙ c.total_of.ensures) form.1 in
    let alike = ap (λ (x : Form). same_form x c.args.f) (sym form.1) in
    let other = alike ∙ not-true _ (sym c.ne.ensures ∙ c.if-ne.true) in
    sym (heard_by _ _ (le-ltb _ _ c.if-t-lt2.false) form.0 (le-ltb _ _ (rw total at c.if-t-unwrap.false)) other refl refl)

pub returns-then-lacks_first : goal.returns-then-lacks_first
returns-then-lacks_first c =
    let form = found_some (form_coming c.args.t) _ (sym c.in-Some.is ∙ c.form_of_header.ensures) in
    let total = total_is _ _ _ (sym c.unwrap.ensures ∙ c.total_of.ensures) form.1 in
    let alike = ap (λ (x : Form). same_form x c.args.f) (sym form.1) in
    let same = alike ∙ not-false _ (sym c.ne.ensures ∙ c.if-ne.false) in
    sym
    (heard_by _ _ (le-ltb _ _ c.if-t-lt2.false) form.0 (le-ltb _ _ (rw total at c.if-t-unwrap.false)) same
    (sym c.lacks_first.ensures ∙ c.if-lacks_first.true) refl)

pub returns-then-position_now-gt-LAST : goal.returns-then-position_now-gt-LAST
returns-then-position_now-gt-LAST c =
    let form = found_some (form_coming c.args.t) _ (sym c.in-Some.is ∙ c.form_of_header.ensures) in
    let total = total_is _ _ _ (sym c.unwrap.ensures ∙ c.total_of.ensures) form.1 in
    let alike = ap (λ (x : Form). same_form x c.args.f) (sym form.1) in
    let same = alike ∙ not-false _ (sym c.ne.ensures ∙ c.if-ne.false) in
    sym
    (heard_by _ _ (le-ltb _ _ c.if-t-lt2.false) form.0 (le-ltb _ _ (rw total at c.if-t-unwrap.false)) same
    (sym c.lacks_first.ensures ∙ c.if-lacks_first.false) (lt-ltb _ _ (rw c.position_now.ensures at c.if-position_now-gt-LAST.true)))

pub returns : goal.returns
returns c =
    let form = found_some (form_coming c.args.t) _ (sym c.in-Some.is ∙ c.form_of_header.ensures) in
    let total = total_is _ _ _ (sym c.unwrap.ensures ∙ c.total_of.ensures) form.1 in
    let alike = ap (λ (x : Form). same_form x c.args.f) (sym form.1) in
    let same = alike ∙ not-false _ (sym c.ne.ensures ∙ c.if-ne.false) in
    sym
    (heard_by _ _ (le-ltb _ _ c.if-t-lt2.false) form.0 (le-ltb _ _ (rw total at c.if-t-unwrap.false)) same
    (sym c.lacks_first.ensures ∙ c.if-lacks_first.false) (le-ltb _ _ (rw c.position_now.ensures at c.if-position_now-gt-LAST.false)))
