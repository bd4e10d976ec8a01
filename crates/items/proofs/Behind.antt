-- What lies behind a message's end does not decide what becomes of it: so its first ten bytes may be read as they lie,
-- with what the host sends after it.
-- Assumes nothing.
use Prim.Native.Nat.{ℕ, zero, suc, ◌-◌, ◌≤◌, ◌<◌}
use mathlib.Core.Path.{◌≡◌, refl, sym, ap, ◌∙◌}
use mathlib.Core.Bool.{Bool, true, false, ◌&&◌, ◌||◌, not, and-false}
use mathlib.Core.List.{List, [], ◌∷◌}
use native.Mathlib.Decide.{ℕ_discrete, dec_lt}
use native.Mathlib.Omega.{arith}
use lib.Dec.{eqb, leb}
use lib.ListN.{get_or}
use borrow.Author.Tests.{eqb-true, ne_eqb, not-false}
use Rattle.wire.specs.Choice.{pick, Check, first_of}
use Rattle.wire.specs.Codes.{box_writes}
use Rattle.wire.specs.Header.{nak, type_set}
use Rattle.wire.specs.Number.{number}
use Rattle.wire.proofs.Checks.{absent}
use Rattle.wire.proofs.Laws.{never}
use Rattle.items.specs.declared.Settings.{Settings}
use Rattle.items.specs.Items.{Offer, total, dash, Item, items, no_item, row_of}
use Rattle.items.specs.Header.{header_checks}
use Rattle.items.specs.Table.{offered, is_total, table_checks}
use Rattle.items.specs.Answer.{Message, item_checks, reply_to, reply_due, code_of, settings_after, reply_of}
use Rattle.items.proofs.Classes.{short, two, three, unnamed, other, data_other}
use Rattle.items.proofs.Rows.{all_have, ◌then◌, found}
use Rattle.items.proofs.Judging.{by_header_lem, by_table, by_item, reply_by_code}
use Rattle.items.proofs.TenBytes.{held_message, Same}

-- zero from the n-th byte on
abbrev pub cut_at : ℕ → List ℕ → List ℕ
cut_at n [] = []
cut_at zero (b ∷ l) = 0 ∷ cut_at zero l
cut_at (suc n) (b ∷ l) = b ∷ cut_at n l

-- ---- a row looks at no more parameters than the table's length leaves room for

-- what a row makes of the parameters of a message of some kind: its checks, the settings after it where it is obeyed, the reply
record Made : Type 0 where
  checks : Settings → List Check
  after : Settings → Settings
  reply : Settings → List ℕ

abbrev made : ℕ → Item → List ℕ → Made
made kind i p =
    record {
      checks = λ s. item_checks i kind s p;
      after = λ s. pick (eqb kind type_set) (i.rule.stored s p) s;
      reply = λ s. reply_to i kind s p;
    }

-- six parameters, of which those behind the n-th make no difference
abbrev UpTo : ℕ → ℕ → Item → Type 0
UpTo n kind i = (a b c d e f : ℕ) → let p = a ∷ b ∷ c ∷ d ∷ e ∷ f ∷ [] in made kind i p ≡ made kind i (cut_at n p)

abbrev Decide : ℕ → Offer → Item → Type 0
Decide kind (total n) i = UpTo (n - 4) kind i
Decide kind dash i = Unit {0}

abbrev Looks : Item → Type 0
Looks i = Decide 0 i.on_set i × Decide 1 i.on_request i × Decide 2 i.on_range i

all_look : all_have Looks items
all_look =
    (tt, (λ a b c d e f. refl), tt)
    then (tt, (λ a b c d e f. refl), tt)
    then (tt, (λ a b c d e f. refl), tt)
    then (tt, (λ a b c d e f. refl), tt)
    then (tt, (λ a b c d e f. refl), tt)
    then ((λ a b c d e f. refl), (λ a b c d e f. refl), tt)
    then ((λ a b c d e f. refl), (λ a b c d e f. refl), tt)
    then ((λ a b c d e f. refl), (λ a b c d e f. refl), (λ a b c d e f. refl))
    then ((λ a b c d e f. refl), (λ a b c d e f. refl), tt)
    then ((λ a b c d e f. refl), (λ a b c d e f. refl), tt)
    then ((λ a b c d e f. refl), (λ a b c d e f. refl), tt)
    then ((λ a b c d e f. refl), (λ a b c d e f. refl), tt)
    then tt

by_offer : (kind size : ℕ) (o : Offer) (i : Item) → Decide kind o i → is_total o size ≡ true → UpTo (size - 4) kind i
by_offer kind size (total n) i decide is = rw (eqb-true size n is) decide
by_offer kind size dash i decide is = never is

-- so of a message that has the table's length
length_decides : (kind size : ℕ) (i : Item) → Looks i → is_total (offered i kind) size ≡ true → UpTo (size - 4) kind i
length_decides zero size i looks is = by_offer 0 size i.on_set i looks.0 is
length_decides (suc zero) size i looks is = by_offer 1 size i.on_request i looks.1 is
length_decides (suc (suc zero)) size i looks is = by_offer 2 size i.on_range i looks.2 is
length_decides (suc (suc (suc k))) size i looks is =
    let kind = suc (suc (suc k)) in
    never (rw (ne_eqb kind 0 (λ e. omega arith), ne_eqb kind 1 (λ e. omega arith), ne_eqb kind 2 (λ e. omega arith)) at is)

-- ---- a header that is in order is that of a message of four bytes or more

-- another code than 1
not_done : (k : ℕ) {n : ℕ} → (k ≡ 1 → ⊥) → k ≡ n → n ≡ 1 → ⊥
not_done k not e one = not (e ∙ one)

short_control : (kind size named : ℕ) → kind ≤ 2 → size < 4 → first_of (header_checks kind size named) 1 ≡ 1 → ⊥
short_control kind zero named k less = not_done 11 (λ z. omega arith) (short kind 0 k (omega arith) ∙ unnamed kind 0 named k)
short_control kind (suc zero) named k less = not_done 11 (λ z. omega arith) (short kind 1 k (omega arith) ∙ unnamed kind 1 named k)
short_control kind (suc (suc zero)) named k less =
    elim (ℕ_discrete kind 0) [
      | yes set ↦ rw set (λ (z : ◌≡◌ {A = ℕ} 2 1). omega arith)
      | no w ↦ not_done 11 (λ z. omega arith) (two kind k w ∙ unnamed kind 2 named k)
    ]
short_control kind (suc (suc (suc zero))) named k less = not_done 11 (λ z. omega arith) (three kind k ∙ unnamed kind 3 named k)
short_control kind (suc (suc (suc (suc n)))) named k less = absurd (omega arith)

acknowledged : (size named : ℕ) → first_of (header_checks 3 size named) 1 ≡ 1 → ⊥
acknowledged size named =
    elim (ℕ_discrete size 3) [ yes e ↦ rw e (go (leb named 3)) | no w ↦ not_done 11 (λ z. omega arith) (other size named w) ]
  where
    go : (b : Bool) → ◌≡◌ {A = ℕ} (pick (not b) 11 (pick (b || false) 2 1)) 1 → ⊥
    go true z = omega arith
    go false z = omega arith

data_item : (kind size named : ℕ) → 4 ≤ kind → first_of (header_checks kind size named) 1 ≡ 1 → ⊥
data_item kind size named k =
    elim (ℕ_discrete size 1) [
      | yes e ↦ rw e (λ (z : ◌≡◌ {A = ℕ} 11 1). omega arith)
      | no w ↦ not_done 2 (λ z. omega arith) (data_other kind size named k w)
    ]

control_long : (kind size named : ℕ) → first_of (header_checks kind size named) 1 ≡ 1 → 4 ≤ size
control_long kind size named h =
    elim (dec_lt kind 3) [
      | yes k ↦ elim (dec_lt size 4) [ yes less ↦ absurd (short_control kind size named (omega arith) less h) | no long ↦ omega arith ]
      | no k ↦
          elim (ℕ_discrete kind 3) [
            | yes e ↦ absurd (acknowledged size named (rw e at h))
            | no w ↦ absurd (data_item kind size named (omega arith) h)
          ]
    ]

-- its third byte names an item only where it has three
header_same : (kind size c c' : ℕ) → (size ≡ 3 → c ≡ c') → header_checks kind size c ≡ header_checks kind size c'
header_same kind size c c' same = go (eqb size 3) refl
  where
    go : (b : Bool) → eqb size 3 ≡ b → header_checks kind size c ≡ header_checks kind size c'
    go true e = rw (same (eqb-true size 3 e))
    go false e = rw (e, and-false (eqb kind 3))

-- ---- the message

-- two messages of one type and length that are refused alike
refused_same : (s : Settings) (type size : ℕ) (l k : List ℕ) → (let m = held_message type size l in
    let n = held_message type size k in
    code_of s m ≡ code_of s n → (code_of s m ≡ 1 → ⊥) → Same s m n)
unfolding settings_after
refused_same s type size l k e w =
    let m = held_message type size l in
    let n = held_message type size k in
    let one = ne_eqb (code_of s m) 1 w in
    let other = ne_eqb (code_of s n) 1 (λ z. w (e ∙ z)) in
    let left : reply_of s m ≡ pick (eqb (code_of s m) 2) [] nak = rw one at (reply_by_code s m) in
    let right : reply_of s n ≡ pick (eqb (code_of s n) 2) [] nak = rw other at (reply_by_code s n) in
    record {
      code = e;
      after = rw (one, other) refl;
      reply = left ∙ ap (λ (code : ℕ). pick (eqb code 2) [] nak) e ∙ sym right;
    }

module _ (s : Settings) (type size a b c d e f g h i j : ℕ) where
  abbrev p : List ℕ
  p = e ∷ f ∷ g ∷ h ∷ i ∷ j ∷ []

  abbrev q : List ℕ
  q = cut_at (size - 4) p

  abbrev lies : Message
  lies = held_message type size (a ∷ b ∷ c ∷ d ∷ p)

  abbrev cut : Message
  cut = held_message type size (a ∷ b ∷ c ∷ d ∷ q)

  abbrev item : ℕ
  item = number (c ∷ d ∷ [])

  -- where the table has its length the row makes the same of both
  same_made : is_total (offered (row_of item) type) size ≡ true → made type (row_of item) p ≡ made type (row_of item) q
  same_made is = length_decides type size (row_of item) (found Looks none all_look item) is e f g h i j
    where
      none : Looks no_item
      none = (tt, tt, tt)

  past_table : first_of (header_checks type size c) 1 ≡ 1 → Same s lies cut
  unfolding settings_after reply_of
  past_table passed =
      elim (ℕ_discrete (first_of (table_checks item type size) 1) 1) [
        | yes t ↦
            let made_alike = same_made (not-false _ (absent (table_checks item type size) 1 refl t).1.1.0) in
            let code : code_of s lies ≡ code_of s cut =
            by_item s lies passed t ∙ ap (λ (m : Made). first_of (m.checks s) 1) made_alike ∙ sym (by_item s cut passed t) in
            let after : settings_after s lies ≡ settings_after s cut =
            ap (λ (k : ℕ). pick (eqb k 1 && eqb type type_set) ((row_of item).rule.stored s p) s) code
            ∙ obeyed (ap (λ (m : Made). m.after s) made_alike) (eqb (code_of s cut) 1) in
            record {
              code = code;
              after = after;
              reply =
                  ap (λ (k : ℕ). box_writes k (reply_due s lies)) code
                  ∙ ap (λ (t : Settings). box_writes (code_of s cut) (reply_to (row_of item) type t p)) after
                  ∙ ap (λ (m : Made). box_writes (code_of s cut) (m.reply (settings_after s cut))) made_alike;
            }
        | no w ↦
            refused_same s type size lies.bytes cut.bytes (by_table s lies passed w ∙ sym (by_table s cut passed w))
            (λ z. w (sym (by_table s lies passed w) ∙ z))
      ]
    where
      obeyed : (let x = (row_of item).rule.stored s p in
          let y = (row_of item).rule.stored s q in
          pick (eqb type type_set) x s ≡ pick (eqb type type_set) y s
          → (done : Bool) → pick (done && eqb type type_set) x s ≡ pick (done && eqb type type_set) y s)
      obeyed same true = same
      obeyed same false = refl

-- ten bytes as they lie from a message's first on, and with zeros behind its n
module _ (s : Settings) (type size n a b c d e f g h i j : ℕ) (is : 2 ≤ size → n ≡ size) where
  abbrev l : List ℕ
  l = a ∷ b ∷ c ∷ d ∷ e ∷ f ∷ g ∷ h ∷ i ∷ j ∷ []

  third : size ≡ 3 → c ≡ get_or (cut_at n l) 2 0
  third three =
      let has : n ≡ 3 = is (omega arith) ∙ three in
      rw has refl

  pub behind_nothing : Same s (held_message type size l) (held_message type size (cut_at n l))
  behind_nothing =
      elim (ℕ_discrete (first_of (header_checks type size c) 1) 1) [
        | yes passed ↦
            let long : 4 ≤ size = control_long type size c passed in
            let four : n ≡ suc (suc (suc (suc (size - 4)))) = omega (arith, is (omega arith)) in
            rw four (past_table s type size a b c d e f g h i j passed)
        | no w ↦
            let heads = ap (λ (cs : List Check). first_of cs 1) (header_same type size c (get_or (cut_at n l) 2 0) third) in
            let m = held_message type size l in
            let k = held_message type size (cut_at n l) in
            let code = by_header_lem s m w ∙ heads ∙ sym (by_header_lem s k (λ z. w (heads ∙ z))) in
            refused_same s type size l (cut_at n l) code (λ z. w (sym (by_header_lem s m w) ∙ z))
      ]
