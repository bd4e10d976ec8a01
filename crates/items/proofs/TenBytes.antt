-- A message's first ten bytes decide what becomes of it: none that the table offers is longer.
-- Assumes nothing.
use Prim.Native.Nat.{ℕ, ◌≤◌}
use mathlib.Core.Path.{◌≡◌, refl, ap, ◌∙◌}
use mathlib.Core.Bool.{◌&&◌}
use mathlib.Core.List.{List, [], ◌∷◌, ◌++◌}
use native.Mathlib.Omega.{arith}
use lib.Dec.{eqb}
use lib.ListN.{length, take}
use Rattle.wire.specs.Choice.{pick, Check, first_of}
use Rattle.wire.specs.Codes.{box_writes}
use Rattle.wire.specs.Header.{type_set}
use Rattle.wire.specs.Number.{number}
use Rattle.items.specs.declared.Settings.{Settings}
use Rattle.items.specs.Items.{Item, no_item, row_of}
use Rattle.items.specs.Header.{header_checks}
use Rattle.items.specs.Table.{table_checks}
use Rattle.items.specs.Answer.{Message, item_checks, reply_to, code_of, settings_after, reply_due, reply_of}
use Rattle.items.proofs.Rows.{◌then◌, found}

-- an item makes the same of two lists of parameters
record Alike (p q : List ℕ) (i : Item) : Type 0 where
  checked : (kind : ℕ) (s : Settings) → item_checks i kind s p ≡ item_checks i kind s q
  stored : (s : Settings) → i.rule.stored s p ≡ i.rule.stored s q
  replied : (kind : ℕ) (s : Settings) → reply_to i kind s p ≡ reply_to i kind s q

-- none looks past the sixth byte of its parameters
six_decide : (p : List ℕ) → 6 ≤ length p → (code : ℕ) → Alike (take 6 p) p (row_of code)
six_decide [] long code = absurd (omega arith)
six_decide (a ∷ []) long code = absurd (omega arith)
six_decide (a ∷ b ∷ []) long code = absurd (omega arith)
six_decide (a ∷ b ∷ c ∷ []) long code = absurd (omega arith)
six_decide (a ∷ b ∷ c ∷ d ∷ []) long code = absurd (omega arith)
six_decide (a ∷ b ∷ c ∷ d ∷ e ∷ []) long code = absurd (omega arith)
six_decide (a ∷ b ∷ c ∷ d ∷ e ∷ f ∷ p) long code =
    found (Alike (a ∷ b ∷ c ∷ d ∷ e ∷ f ∷ []) (a ∷ b ∷ c ∷ d ∷ e ∷ f ∷ p)) none
    (record { checked = λ k s. refl; stored = λ s. refl; replied = λ k s. refl }
    then record { checked = λ k s. refl; stored = λ s. refl; replied = λ k s. refl }
    then record { checked = λ k s. refl; stored = λ s. refl; replied = λ k s. refl }
    then record { checked = λ k s. refl; stored = λ s. refl; replied = λ k s. refl }
    then record { checked = λ k s. refl; stored = λ s. refl; replied = λ k s. refl }
    then record { checked = λ k s. refl; stored = λ s. refl; replied = λ k s. refl }
    then record { checked = λ k s. refl; stored = λ s. refl; replied = λ k s. refl }
    then record { checked = λ k s. refl; stored = λ s. refl; replied = λ k s. refl }
    then record { checked = λ k s. refl; stored = λ s. refl; replied = λ k s. refl }
    then record { checked = λ k s. refl; stored = λ s. refl; replied = λ k s. refl }
    then record { checked = λ k s. refl; stored = λ s. refl; replied = λ k s. refl }
    then record { checked = λ k s. refl; stored = λ s. refl; replied = λ k s. refl }
    then tt)
    code
  where
    none : Alike (a ∷ b ∷ c ∷ d ∷ e ∷ f ∷ []) (a ∷ b ∷ c ∷ d ∷ e ∷ f ∷ p) no_item
    none = record { checked = λ k s. refl; stored = λ s. refl; replied = λ k s. refl }

-- the message of a type and a length of which these bytes are held
abbrev pub held_message : ℕ → ℕ → List ℕ → Message
held_message type size held = record { type = type; size = size; bytes = held }

-- two messages of which a box makes the same
pub record Same (s : Settings) (m n : Message) : Type 0 where
  pub code : code_of s m ≡ code_of s n
  pub after : settings_after s m ≡ settings_after s n
  pub reply : reply_of s m ≡ reply_of s n

-- a message whose parameters are the first six of another's
module _ (s : Settings) (type size a b c d : ℕ) (p : List ℕ) (long : 6 ≤ length p) where
  abbrev item : ℕ
  item = number (c ∷ d ∷ [])

  abbrev short : Message
  short = held_message type size (a ∷ b ∷ c ∷ d ∷ take 6 p)

  abbrev full : Message
  full = held_message type size (a ∷ b ∷ c ∷ d ∷ p)

  same : Alike (take 6 p) p (row_of item)
  same = six_decide p long item

  same_code : code_of s short ≡ code_of s full
  unfolding code_of
  same_code = ap (λ (cs : List Check). first_of (header_checks type size c ++ table_checks item type size ++ cs) 1) (same.checked type s)

  same_after : settings_after s short ≡ settings_after s full
  unfolding settings_after
  same_after =
      ap (λ (k : ℕ). pick (eqb k 1 && eqb type type_set) ((row_of item).rule.stored s (take 6 p)) s) same_code
      ∙ ap (λ (t : Settings). pick (eqb (code_of s full) 1 && eqb type type_set) t s) (same.stored s)

  same_reply : reply_of s short ≡ reply_of s full
  unfolding reply_of
  same_reply =
      ap (λ (k : ℕ). box_writes k (reply_due s short)) same_code
      ∙ ap (λ (t : Settings). box_writes (code_of s full) (reply_to (row_of item) type t (take 6 p))) same_after
      ∙ ap (box_writes (code_of s full)) (same.replied type (settings_after s full))

pub ten_decide : (s : Settings) (type size : ℕ) (held : List ℕ) → 10 ≤ length held
    → Same s (held_message type size (take 10 held)) (held_message type size held)
ten_decide s type size [] long = absurd (omega arith)
ten_decide s type size (a ∷ []) long = absurd (omega arith)
ten_decide s type size (a ∷ b ∷ []) long = absurd (omega arith)
ten_decide s type size (a ∷ b ∷ c ∷ []) long = absurd (omega arith)
ten_decide s type size (a ∷ b ∷ c ∷ d ∷ p) long =
    let six : 6 ≤ length p = omega arith in
    record {
      code = same_code s type size a b c d p six;
      after = same_after s type size a b c d p six;
      reply = same_reply s type size a b c d p six;
    }
