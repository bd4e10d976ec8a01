-- What both versions have decides first.
use Rattle.std.proofs.Common.{refl, sym, ◌∙◌}
use Rattle.heads.proofs.Codes.{allowed_in_two, naming_new, naming_old}
use Rattle.heads.proofs.allowed.is_allowed.Goals as goal

pub returns-then-not-first_allowed : goal.returns-then-not-first_allowed
returns-then-not-first_allowed c = sym (allowed_in_two c.args.h (sym c.first_allowed.ensures ∙ c.if-not-first_allowed.true) refl)

pub returns-then-h-eq2 : goal.returns-then-h-eq2
returns-then-h-eq2 c =
    let first = sym c.first_allowed.ensures ∙ c.if-not-first_allowed.false in
    c.names_well.ensures ∙ sym (allowed_in_two c.args.h first (naming_new c.args.h c.if-h-eq2.true))

pub returns : goal.returns
returns c =
    let first = sym c.first_allowed.ensures ∙ c.if-not-first_allowed.false in
    c.is_bare.ensures ∙ sym (allowed_in_two c.args.h first (naming_old c.args.h c.if-h-eq2.false))
