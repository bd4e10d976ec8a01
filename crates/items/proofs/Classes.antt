-- The header's classes of length, for the three kinds of control messages.
use Prim.Native.Nat.{ℕ, zero, suc, ◌≤◌, ◌<◌}
use mathlib.Core.Path.{◌≡◌, refl, sym, ◌∙◌}
use native.Mathlib.Omega.{arith}
use native.Mathlib.Decide.{ℕ_discrete}
use mathlib.Core.Bool.{false, or-true, and-false}
use lib.Dec.{eqb, ltb}
use borrow.Author.Tests.{ne_eqb, le-ltb, lt-ltb, le-leb, lt-leb}
use Rattle.wire.specs.Choice.{pick, first_of}
use Rattle.items.specs.Header.{header_checks}

-- what holds of set, request and range request holds of the three
pub by_kind : (P : ℕ → Type 0) → P 0 → P 1 → P 2 → (kind : ℕ) → kind ≤ 2 → P kind
by_kind P a b c zero h = a
by_kind P a b c (suc zero) h = b
by_kind P a b c (suc (suc zero)) h = c
by_kind P a b c (suc (suc (suc k))) h = absurd (omega arith)

-- lengths 0 and 1
pub short : (kind size : ℕ) → kind ≤ 2 → size < 2 → 11 ≡ first_of (header_checks kind size 0) 1
short kind zero k h = by_kind (λ kind. 11 ≡ first_of (header_checks kind 0 0) 1) refl refl refl kind k
short kind (suc zero) k h = by_kind (λ kind. 11 ≡ first_of (header_checks kind 1 0) 1) refl refl refl kind k
short kind (suc (suc n)) k h = absurd (omega arith)

-- length 2 but in a set
pub two : (kind : ℕ) → kind ≤ 2 → (kind ≡ 0 → ⊥) → 11 ≡ first_of (header_checks kind 2 0) 1
two kind k h =
    by_kind (λ kind. (kind ≡ 0 → ⊥) → 11 ≡ first_of (header_checks kind 2 0) 1)
    (λ w. absurd (w refl)) (λ w. refl) (λ w. refl) kind k h

-- length 3
pub three : (kind : ℕ) → kind ≤ 2 → 11 ≡ first_of (header_checks kind 3 0) 1
three kind k = by_kind (λ kind. 11 ≡ first_of (header_checks kind 3 0) 1) refl refl refl kind k

-- from length 4 on no header is bad, and only one over 64 too long
module _ (size : ℕ) (least : 4 ≤ size) where
  not_zero : eqb size 0 ≡ false
  not_zero = ne_eqb size 0 (λ e. omega arith)

  not_one : eqb size 1 ≡ false
  not_one = ne_eqb size 1 (λ e. omega arith)

  not_two : eqb size 2 ≡ false
  not_two = ne_eqb size 2 (λ e. omega arith)

  not_three : eqb size 3 ≡ false
  not_three = ne_eqb size 3 (λ e. omega arith)

  pub whole : (kind : ℕ) → kind ≤ 2 → pick (ltb 64 size) 10 1 ≡ first_of (header_checks kind size 0) 1
  whole kind k =
      by_kind (λ kind. pick (ltb 64 size) 10 1 ≡ first_of (header_checks kind size 0) 1) (simp (not_zero, not_one, not_two, not_three))
      (simp (not_zero, not_one, not_two, not_three)) (simp (not_zero, not_one, not_two, not_three)) kind k

-- lengths 4 to 64
pub fitting : (kind size : ℕ) → kind ≤ 2 → 4 ≤ size → size ≤ 64 → 1 ≡ first_of (header_checks kind size 0) 1
fitting kind size k least most = rw (← whole size least kind k, le-ltb 64 size most) refl

-- lengths over 64
pub long : (kind size : ℕ) → kind ≤ 2 → 64 < size → 10 ≡ first_of (header_checks kind size 0) 1
long kind size k over = rw (← whole size (omega arith) kind k, lt-ltb 64 size over) refl

-- only an acknowledgement names an item
pub unnamed : (kind size named : ℕ) → kind ≤ 2 → first_of (header_checks kind size 0) 1 ≡ first_of (header_checks kind size named) 1
unnamed kind size named k =
    by_kind (λ kind. first_of (header_checks kind size 0) 1 ≡ first_of (header_checks kind size named) 1) refl refl refl kind k

-- an acknowledgement of another length than 3
pub other : (size named : ℕ) → (size ≡ 3 → ⊥) → 11 ≡ first_of (header_checks 3 size named) 1
other size named h = simp (ne_eqb size 3 h, or-true)

-- a data item of another length than 1
pub data_other : (kind size named : ℕ) → 4 ≤ kind → (size ≡ 1 → ⊥) → 2 ≡ first_of (header_checks kind size named) 1
data_other kind size named h w =
    simp (
      ne_eqb kind 0 (λ e. omega arith),
      ne_eqb kind 3 (λ e. omega arith),
      lt-leb kind 3 (omega arith),
      lt-leb kind 2 (omega arith),
      le-leb 4 kind h,
      ne_eqb size 1 w,
      and-false,
    )

-- the four types of data items have the same code, and their third byte names nothing
pub data_alike : (kind size named : ℕ) → 4 ≤ kind → first_of (header_checks 4 size 0) 1 ≡ first_of (header_checks kind size named) 1
data_alike kind size named h =
    elim (ℕ_discrete size 1) [
      | yes e ↦ rw e refl
      | no w ↦ sym (data_other 4 size 0 (omega arith) w) ∙ data_other kind size named h w
    ]
