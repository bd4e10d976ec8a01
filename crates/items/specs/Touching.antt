-- What a set can change of what a request shows: of its own item, of the channels that it covers; and the status, where the state is set.
use Rattle.std.specs.Prelude.{ℕ, ◌≡◌, Bool, false, ◌&&◌, ◌||◌, List, eqb, get_or}
use Rattle.items.specs.declared.Settings.{Settings}
use Rattle.items.specs.Items.{status, state, row_of}
use Rattle.items.specs.Answer.{Message, item_in, parameters, covers_asked}

-- What a message names: its item, and the byte behind the item's code, which is the channel byte where the item has one.
pub record Named : Type 0 where
  pub item : ℕ
  pub byte : ℕ

abbrev pub naming : ℕ → List ℕ → Named
naming item p = record { item = item; byte = get_or p 0 0 }

abbrev pub named : Message → Named
named m = naming (item_in m) (parameters m)

-- A set covers what a request asks for, by 0019's value when the set comes: it is of the same item, and where that is a channel's, it
-- covers the channel.
abbrev pub covering : ℕ → Named → Named → Bool
covering setup set asked =
    eqb set.item asked.item && covers_asked setup (row_of set.item).echoed set.byte asked.byte

-- It can change what the request shows: if it covers what is asked for, and if it is the state, which the status shows too ("0B idle, 0C
-- running").
abbrev pub touches : ℕ → Named → Named → Bool
touches setup set asked = covering setup set asked || (eqb set.item state.code && eqb asked.item status.code)

-- What it does not touch is unchanged: a set of one item, whatever its parameters, leaves the value of every other, but for the status
-- where the state is set, and that of every channel that it does not cover.
abbrev pub OthersUnchanged : Type 0
OthersUnchanged =
    (a b : ℕ) (s : Settings) (p q : List ℕ) → touches s.setup (naming a p) (naming b q) ≡ false
    → (row_of b).rule.value ((row_of a).rule.stored s p) q ≡ (row_of b).rule.value s q
