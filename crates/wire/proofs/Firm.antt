-- How firm the promises are: "show that two results allowed by it coincide". Every promise of the project is an equation
-- between what the result tells and a definition of what was given, so one law serves them all.
use mathlib.Core.Path.{◌≡◌, sym, ap, ◌∙◌}

-- No two answers tell the same.
abbrev pub OneEach : {A B : Type 0} → (A → B) → Type 0
OneEach {A} told = (a b : A) → told a ≡ told b → a ≡ b

-- Of what is told the answer can be had back: then no two tell the same.
pub one_by : {A B : Type 0} (told : A → B) (back : B → A) → ((a : A) → back (told a) ≡ a) → OneEach told
one_by told back is a b e = sym (is a) ∙ ap back e ∙ is b

-- Two results that an equation allows are the same, where no two of them tell the same.
pub two_results_coincide : {A B : Type 0} (told : A → B) → OneEach told → (says : B) {r s : A} → told r ≡ says → told s ≡ says → r ≡ s
two_results_coincide told one says p q = one _ _ (p ∙ sym q)

-- A result that is told as it is, as numbers, structs and the bytes of a lent slice are: `λ r. r ≡ says`.
pub as_it_is : {A : Type 0} → OneEach (λ (a : A). a)
as_it_is a b e = e

pub two_equal_coincide : {A : Type 0} (says : A) {r s : A} → r ≡ says → s ≡ says → r ≡ s
two_equal_coincide says p q = two_results_coincide (λ a. a) as_it_is says p q
