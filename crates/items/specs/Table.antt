-- What the table of items says of an item and a kind. "Lengths are totals; a dash means not offered (14)."
use Rattle.std.specs.Prelude.{ℕ, Bool, true, false, not, Result, List, [], ◌∷◌, eqb}
use Rattle.wire.specs.Choice.{pick, Check, check}
use Rattle.wire.specs.Codes as Code
use Rattle.wire.specs.Told.{Told, tells}
use Rattle.wire.specs.Refusal.{told}
use Rattle.wire.specs.declared.refusal.Refusal.{Refusal}
use Rattle.wire.specs.Header.{type_set, type_request, type_range}
use Rattle.items.specs.Items.{Offer, total, dash, Item, listed_item, row_of}

-- of a line's set, request and range the one for a kind; no other kind is offered
abbrev pub offer_for : Offer → Offer → Offer → ℕ → Offer
offer_for on_set on_request on_range kind =
    pick (eqb kind type_set) on_set (pick (eqb kind type_request) on_request (pick (eqb kind type_range) on_range dash))

abbrev pub offered : Item → ℕ → Offer
offered i kind = offer_for i.on_set i.on_request i.on_range kind

-- What an entry of the table tells, in the numbers of "What comes back": 1 and the total length, or 14, "item known, this kind not
-- offered".
abbrev pub offer_told : Offer → Told
offer_told (total n) = tells Code.done (n ∷ [])
offer_told dash = tells Code.not_offered []

-- "item not in the list": 12
abbrev pub table_told : ℕ → ℕ → Told
table_told item kind = pick (listed_item item) (offer_told (offered (row_of item) kind)) (tells Code.not_listed [])

-- The same of what the code answers with: its number, and the length where it has one.
abbrev pub expected_says : Result ℕ Refusal → Told
expected_says = told (λ n. n ∷ [])

abbrev pub is_dash : Offer → Bool
is_dash (total n) = false
is_dash dash = true

abbrev pub is_total : Offer → ℕ → Bool
is_total (total n) size = eqb size n
is_total dash size = false

-- "item not in the list", "item known, this kind not offered", "wrong length for item and kind", in the order of checking
abbrev pub table_checks : ℕ → ℕ → ℕ → List Check
table_checks item kind size =
    check Code.not_listed (not (listed_item item))
    ∷ check Code.not_offered (is_dash (offered (row_of item) kind))
    ∷ check Code.wrong_length (not (is_total (offered (row_of item) kind) size))
    ∷ []
