-- The lines of the table of items: what is no line's code or kind is refused, and the enum's cases stay apart.
use Prim.Native.Nat.{ℕ}
use mathlib.Core.Path.{◌≡◌, refl, ap}
use mathlib.Core.Bool.{Bool, true, false, not}
use mathlib.Core.List.{List, [], ◌∷◌}
use lib.Dec.{eqb}
use lib.ListN.{get_or}
use borrow.Author.Tests.{ne_eqb}
use Rattle.wire.specs.Choice.{pick, first_of}
use Rattle.wire.specs.Told.{Told, tells}
use Rattle.wire.proofs.Laws.{pick_same}
use Rattle.std.proofs.Common.{Result}
use Rattle.wire.specs.declared.refusal.Refusal.{Refusal}
use Rattle.wire.proofs.Firm.{OneEach}
use Rattle.wire.proofs.Refusals.{told_one as wire_told_one}
use Rattle.items.specs.Items.{Offer, total, dash, listed_item, row_of}
use Rattle.items.specs.Table.{expected_says, offer_told, table_told, table_checks, offered, offer_for, is_dash, is_total}

-- a line that has no set and no range
pub asked_else : (kind request : ℕ) → (kind ≡ 1 → ⊥) → offer_told dash ≡ offer_told (offer_for dash (total request) dash kind)
asked_else kind request h = simp (ne_eqb kind 1 h, pick_same)

-- a line that has no range
pub set_or_asked_else : (kind set request : ℕ) → (kind ≡ 0 → ⊥) → (kind ≡ 1 → ⊥)
    → offer_told dash ≡ offer_told (offer_for (total set) (total request) dash kind)
set_or_asked_else kind set request h0 h1 = simp (ne_eqb kind 0 h0, ne_eqb kind 1 h1, pick_same)

-- the one line that has a range
pub else : (kind : ℕ) (set request range : Offer) → (kind ≡ 0 → ⊥) → (kind ≡ 1 → ⊥) → (kind ≡ 2 → ⊥)
    → offer_told dash ≡ offer_told (offer_for set request range kind)
else kind set request range h0 h1 h2 = simp (ne_eqb kind 0 h0, ne_eqb kind 1 h1, ne_eqb kind 2 h2)

-- "12, 14, 13" in their order, from what the table says
abbrev pub code_by : Told → ℕ → ℕ
code_by t size = pick (eqb t.code 1) (pick (eqb size (get_or t.values 0 0)) 1 13) t.code

pub code_by_lem : (item kind size : ℕ) → code_by (table_told item kind) size ≡ first_of (table_checks item kind size) 1
code_by_lem item kind size = go (listed_item item) (offered (row_of item) kind)
  where
    by : (b : Bool) → pick {X = ℕ} b 1 13 ≡ pick (not b) 13 1
    by true = refl
    by false = refl

    go : (l : Bool) (o : Offer)
        → code_by (pick l (offer_told o) (tells 12 [])) size
        ≡ pick (not l) 12 (pick (is_dash o) 14 (pick (not (is_total o size)) 13 1))
    go false o = refl
    go true (total n) = by (eqb size n)
    go true dash = refl

-- two answers that tell the same are the same
pub told_one : (e f : Result ℕ Refusal) → expected_says e ≡ expected_says f → e ≡ f
told_one = wire_told_one (λ n. n ∷ []) length_one
  where
    length_one : OneEach (λ (n : ℕ). n ∷ [])
    length_one m n e = ap (λ (l : List ℕ). get_or l 0 0) e
