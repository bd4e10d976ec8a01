-- A set and a request, each judged apart, are judged as the message's code and settings say.
use Prim.Native.Nat.{ℕ}
use mathlib.Core.Path.{◌≡◌, refl, sym, ap, ◌∙◌}
use mathlib.Core.Bool.{and-true, and-false}
use mathlib.Core.List.{List, [], ◌∷◌}
use lib.Dec.{eqb}
use lib.ListN.{get_or}
use borrow.Author.Tests.{ne_eqb}
use Rattle.wire.specs.Header.{type_set, type_request}
use Rattle.items.specs.declared.Settings.{Settings}
use Rattle.items.specs.Items.{Echoed, no_byte, an_id, any_channel, a_channel, Item, versions, name, serial, interface, status, state}
use Rattle.items.specs.Items.{channel_setup, clock, rate, packet_size, row_of}
use Rattle.items.specs.Answer.{Message, channel_allowed, row, parameters, item_code, code_of, settings_after, judged_of}
use Rattle.items.specs.Header.{header_checks}
use Rattle.items.specs.Table.{table_checks}
use Rattle.items.specs.Answer.{Judged, item_in}
use Rattle.items.proofs.Rows.{row_has}
use Rattle.items.proofs.Judging.{by_header_lem, by_table, by_item, refused}
use Rattle.wire.specs.Choice.{first_of}
use Rattle.judging.specs.Inside.{asked_by, set_by}

-- a request and a range request have the same channels
channel_asked : (setup : ℕ) (e : Echoed) (kind byte : ℕ) → (kind ≡ type_set → ⊥)
    → channel_allowed setup e kind byte ≡ channel_allowed setup e type_request byte
channel_asked setup no_byte kind byte h = refl
channel_asked setup an_id kind byte h = refl
channel_asked setup any_channel kind byte h = refl
channel_asked setup a_channel kind byte h = rw (ne_eqb kind type_set h)

-- the checks of a request or a range request
asked_code : (i : Item) (kind : ℕ) (s : Settings) (p : List ℕ) → (kind ≡ type_set → ⊥) → item_code i kind s p ≡ asked_by s.setup i p
asked_code i kind s p h = rw (ne_eqb kind type_set h, channel_asked s.setup i.echoed kind (get_or p 0 0) h)

module _ (s : Settings) (m : Message) where
  -- a set is its item's
  pub set_judged : m.type ≡ type_set → code_of s m ≡ item_code (row m) m.type s (parameters m)
      → set_by (row m) s (parameters m) ≡ judged_of s m
  unfolding settings_after
  set_judged t e = rw (e, t, and-true (eqb (item_code (row m) type_set s (parameters m)) 1)) refl

  -- a request leaves every setting
  pub asked_judged : (m.type ≡ type_set → ⊥) → code_of s m ≡ item_code (row m) m.type s (parameters m)
      → record { code = asked_by s.setup (row m) (parameters m); settings = s } ≡ judged_of s m
  unfolding settings_after
  asked_judged t e =
      let p = parameters m in
      rw (e, asked_code (row m) m.type s p t, ne_eqb m.type type_set t, and-false (eqb (asked_by s.setup (row m) p) 1)) refl

-- an item that is no channel's and no id's: nothing is asked of its requests
abbrev unasked : (i : Item) → Type 0
unasked i = (setup : ℕ) (p : List ℕ) → 1 ≡ asked_by setup i p

pub asked_else : (item : ℕ) → (item ≡ 0x0004 → ⊥) → (item ≡ 0x0020 → ⊥) → (item ≡ 0x0038 → ⊥) → unasked (row_of item)
unfolding row_of
asked_else item v f g =
    rw (ne_eqb item 0x0004 v, ne_eqb item 0x0020 f, ne_eqb item 0x0038 g)
    (row_has unasked no (name ∷ serial ∷ interface ∷ status ∷ state ∷ channel_setup ∷ clock ∷ rate ∷ packet_size ∷ []) item
    (no, (no, (no, (no, (no, (no, (no, (no, (no, tt))))))))))
  where
    no : (setup : ℕ) (p : List ℕ) → ◌≡◌ {A = ℕ} 1 1
    no setup p = refl

-- an item that has no set: a set would store nothing
abbrev unset : (i : Item) → Type 0
unset i = (s : Settings) (p : List ℕ) → record { code = 1; settings = s } ≡ set_by i s p

no_set : (s : Settings) (p : List ℕ) → record { code = 1; settings = s } ≡ set_by name s p
no_set s p = rw (and-false s.running) refl

pub set_else : (item : ℕ) → (item ≡ 0x0018 → ⊥) → (item ≡ 0x0019 → ⊥) → (item ≡ 0x0020 → ⊥) → (item ≡ 0x0038 → ⊥) → (item ≡ 0x00B0 → ⊥)
    → (item ≡ 0x00B8 → ⊥) → (item ≡ 0x00C4 → ⊥) → (s : Settings) (p : List ℕ) → record { code = 1; settings = s } ≡ set_by (row_of item) s p
unfolding row_of
set_else item a b c d e f g =
    rw (
      ne_eqb item 0x0018 a,
      ne_eqb item 0x0019 b,
      ne_eqb item 0x0020 c,
      ne_eqb item 0x0038 d,
      ne_eqb item 0x00B0 e,
      ne_eqb item 0x00B8 f,
      ne_eqb item 0x00C4 g,
    )
    (row_has unset no_set (name ∷ serial ∷ interface ∷ versions ∷ status ∷ []) item
    (no_set, (no_set, (no_set, (no_set, (no_set, tt))))))

-- what the header, the table and the item say in turn, of a message
module _ (s : Settings) (m : Message) where
  -- the header refuses it, or no reply is due
  pub by_header : (code : ℕ) → (code ≡ 1 → ⊥) → code ≡ first_of (header_checks m.type m.size (get_or m.bytes 2 0)) 1
      → record { code = code; settings = s } ≡ judged_of s m
  by_header code h e = refused s m code h (by_header_lem s m (λ d. h (e ∙ d)) ∙ sym e)

  -- the table refuses it
  pub by_table_lem : 1 ≡ first_of (header_checks m.type m.size (get_or m.bytes 2 0)) 1
      → (code : ℕ) → (code ≡ 1 → ⊥) → code ≡ first_of (table_checks (item_in m) m.type m.size) 1
      → record { code = code; settings = s } ≡ judged_of s m
  by_table_lem h code n e = refused s m code n (by_table s m (sym h) (λ d. n (e ∙ d)) ∙ sym e)

  -- the item decides, of its parameters
  module _ (header : 1 ≡ first_of (header_checks m.type m.size (get_or m.bytes 2 0)) 1)
      (table : 1 ≡ first_of (table_checks (item_in m) m.type m.size) 1) where
    pub by_set : {r : Judged} → m.type ≡ type_set → r ≡ set_by (row m) s (parameters m) → r ≡ judged_of s m
    by_set t e = e ∙ set_judged s m t (by_item s m (sym header) (sym table))

    pub by_asked : {code : ℕ} → (m.type ≡ type_set → ⊥) → code ≡ asked_by s.setup (row m) (parameters m)
        → record { code = code; settings = s } ≡ judged_of s m
    by_asked t e = ap (λ (n : ℕ). record { code = n; settings = s }) e ∙ asked_judged s m t (by_item s m (sym header) (sym table))
