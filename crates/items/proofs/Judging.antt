-- How the codes of a message's header, of the table and of the item make the message's code.
use Prim.Native.Nat.{ℕ}
use mathlib.Core.Path.{◌≡◌, refl, sym, ◌∙◌}
use mathlib.Core.Bool.{true, false, ◌&&◌}
use mathlib.Core.List.{List, [], ◌++◌}
use lib.ListN.{get_or}
use borrow.Author.Tests.{ne_eqb, eqb-true, not-false}
use lib.Dec.{eqb}
use Rattle.wire.specs.Codes.{box_writes}
use Rattle.wire.specs.Header.{nak, type_set, type_range}
use Rattle.wire.proofs.Laws.{true_not_false, and_left, and_right, pick_keeps}
use Rattle.wire.specs.Choice.{pick, Check, first_of, Absent}
use Rattle.wire.proofs.Checks.{absent, first_stops, first_goes_on, given_has}
use Rattle.items.specs.declared.Settings.{Settings}
use Rattle.items.specs.Items.{Item, row_of, frequency, listed_item}
use Rattle.items.specs.Header.{header_checks}
use Rattle.items.specs.Table.{offered, is_total, table_checks}
use Rattle.items.specs.Answer.{Message, item_in, row, parameters, channel_allowed, value_allowed, refused_running}
use Rattle.items.specs.Answer.{item_checks, item_code, checks}
use Rattle.items.specs.Answer.{code_of, settings_after, judged_of, reply_due, reply_of}
use Rattle.items.proofs.Rows.{◌then◌, found, row_code}

-- "the only range request" is that of the frequency
only_range : (size code : ℕ) → is_total (row_of code).on_range size ≡ true → row_of code ≡ frequency
only_range size =
    found (λ i. is_total i.on_range size ≡ true → i ≡ frequency) no
    (no then no then no then no then no then no then no then (λ e. refl) then no then no then no then no then tt)
  where
    no : {i : Item} → false ≡ true → i ≡ frequency
    no e = absurd (true_not_false (sym e))

-- an accepted message passed every check
pub passed : (s : Settings) (m : Message) → code_of s m ≡ 1 → Absent (checks s m)
unfolding code_of
passed s m h = absent (checks s m) 1 refl h

-- one by one
module _ (s : Settings) (m : Message) (h : code_of s m ≡ 1) where
  pub is_listed : listed_item (item_in m) ≡ true
  is_listed = not-false _ (passed s m h).1.1.1.0

  pub has_length : is_total (offered (row m) m.type) m.size ≡ true
  has_length = not-false _ (passed s m h).1.1.1.1.1.0

  pub has_channel : channel_allowed s.setup (row m).echoed m.type (get_or (parameters m) 0 0) ≡ true
  has_channel = not-false _ (passed s m h).1.1.1.1.1.1.0

  pub has_value : value_allowed (row m) m.type (parameters m) ≡ true
  has_value = not-false _ (passed s m h).1.1.1.1.1.1.1.0

  pub is_free : refused_running (row m) m.type s (parameters m) ≡ false
  is_free = (passed s m h).1.1.1.1.1.1.1.1.0

  -- its row has its code
  pub accepted_row : (row m).code ≡ item_in m
  accepted_row = row_code (item_in m) is_listed

  -- and a range request is the frequency's
  pub range_row : m.type ≡ type_range → row m ≡ frequency
  range_row is = only_range m.size (item_in m) (rw is at has_length)

module _ (s : Settings) (m : Message) where
  abbrev Header : List Check
  Header = header_checks m.type m.size (get_or m.bytes 2 0)

  abbrev Table : List Check
  Table = table_checks (item_in m) m.type m.size

  -- the header decides
  pub by_header_lem : (first_of Header 1 ≡ 1 → ⊥) → code_of s m ≡ first_of Header 1
  unfolding code_of
  by_header_lem h = first_stops Header (Table ++ item_checks (row m) m.type s (parameters m)) 1 h

  past_header : first_of Header 1 ≡ 1 → code_of s m ≡ first_of (Table ++ item_checks (row m) m.type s (parameters m)) 1
  unfolding code_of
  past_header h =
      first_goes_on Header (Table ++ item_checks (row m) m.type s (parameters m)) 1
      refl h

  -- the table decides
  pub by_table : first_of Header 1 ≡ 1 → (first_of Table 1 ≡ 1 → ⊥) → code_of s m ≡ first_of Table 1
  by_table h t = past_header h ∙ first_stops Table (item_checks (row m) m.type s (parameters m)) 1 t

  -- the item decides
  pub by_item : first_of Header 1 ≡ 1 → first_of Table 1 ≡ 1 → code_of s m ≡ item_code (row m) m.type s (parameters m)
  by_item h t =
      past_header h
      ∙ first_goes_on Table (item_checks (row m) m.type s (parameters m)) 1
      refl t

  -- a refused message leaves every setting
  pub refused : (code : ℕ) → (code ≡ 1 → ⊥) → code_of s m ≡ code → record { code = code; settings = s } ≡ judged_of s m
  unfolding settings_after
  refused code h e = rw (e, ne_eqb code 1 h) refl

-- What the table of codes has beside the codes that a message can have: the reply beside 1, nothing beside 2, and beside a
-- refusal NAK.
pub reply_by_code : (s : Settings) (m : Message) → reply_of s m ≡ pick (eqb (code_of s m) 1) (reply_due s m) (pick (eqb (code_of s m) 2) [] nak)
unfolding code_of reply_of
reply_by_code s m =
    given_has (λ (code : ℕ). box_writes code (reply_due s m) ≡ pick (eqb code 1) (reply_due s m) (pick (eqb code 2) [] nak)) (checks s m) 1
    (refl, (refl, (refl, (refl, (refl, (refl, (refl, (refl, (refl, tt))))))))) refl

-- the two ways that a message goes: an accepted set stores, and everything else leaves every setting
pub after_ways : (P : Settings → Type 0) (s : Settings) (m : Message)
    → (code_of s m ≡ 1 → m.type ≡ type_set → P ((row m).rule.stored s (parameters m))) → P s → P (settings_after s m)
unfolding settings_after
after_ways P s m stored same =
    let done = eqb (code_of s m) 1 in
    let set = eqb m.type type_set in
    pick_keeps P (done && set) _ _
    (λ b. stored (eqb-true (code_of s m) 1 (and_left done set b)) (eqb-true m.type type_set (and_right done set b)))
    (λ b. same)
