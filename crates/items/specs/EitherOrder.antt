-- Two settings, either order (02, No. 11), of messages and any settings: when two sets commute, and which do.
use Rattle.std.specs.Prelude.{ℕ, ◌≡◌, Bool, true, false, ◌&&◌, ◌||◌, List, [], ◌∷◌, ◌⊎◌, eqb}
use Rattle.wire.specs.Choice.{one_of}
use Rattle.wire.specs.Header.{type_set}
use Rattle.items.specs.declared.Settings.{Settings}
use Rattle.items.specs.Items.{Item}
use Rattle.items.specs.Answer.{Message, row, parameters, item_checks, code_of, settings_after, reply_of}
use Rattle.items.specs.Touching.{Named, named}

-- ---- what is the same

-- Two messages "leave the same settings in either order and get the same replies": the settings after both, and of each message its code
-- and its reply, whether it comes first or second.
pub record EitherOrder (s : Settings) (m n : Message) : Type 0 where
  pub settings : settings_after (settings_after s m) n ≡ settings_after (settings_after s n) m
  pub codes : (code_of (settings_after s n) m ≡ code_of s m) × (code_of (settings_after s m) n ≡ code_of s n)
  pub replies : (reply_of (settings_after s n) m ≡ reply_of s m) × (reply_of (settings_after s m) n ≡ reply_of s n)

-- ---- a law of rows

-- A set of the row `a` with the parameters `p` leaves alone what a set of the row `b` with the parameters `q` looks at, and what it shows.
pub record LeavesAlone (a : Item) (p : List ℕ) (b : Item) (q : List ℕ) : Type 0 where
  pub looked : (s : Settings) → item_checks b type_set (a.rule.stored s p) q ≡ item_checks b type_set s q
  pub shown : (s : Settings) → b.rule.value (a.rule.stored s p) q ≡ b.rule.value s q

-- Two sets commute: what they store is the same in either order, and each leaves the other alone.
pub record Commute (a : Item) (p : List ℕ) (b : Item) (q : List ℕ) : Type 0 where
  pub stored : (s : Settings) → b.rule.stored (a.rule.stored s p) q ≡ a.rule.stored (b.rule.stored s q) p
  pub leaves_a : LeavesAlone b q a p
  pub leaves_b : LeavesAlone a p b q

-- Then two set messages of these rows may come in either order, whatever else they are: accepted or refused, for whatever reason.
abbrev pub RowsInEitherOrder : Type 0
RowsInEitherOrder =
    (m n : Message) → m.type ≡ type_set → n.type ≡ type_set → Commute (row m) (parameters m) (row n) (parameters n)
    → (s : Settings) → EitherOrder s m n

-- ---- which sets commute

-- "0019, 0020, 0038, 00B0, 00B8 and 00C4"
abbrev pub six_items : List ℕ
six_items = 0x0019 ∷ 0x0020 ∷ 0x0038 ∷ 0x00B0 ∷ 0x00B8 ∷ 0x00C4 ∷ []

-- "0020 or 0038"
abbrev pub channel_items : List ℕ
channel_items = 0x0020 ∷ 0x0038 ∷ []

-- "Where one is 0019 and the other 0020 or 0038, this is claimed for channel 00 only; FF and 02 are named exceptions." Here it is claimed
-- for every other channel byte.
abbrev pub excepted : Named → Named → Bool
excepted one other = eqb one.item 0x0019 && one_of other.item channel_items && one_of other.byte (0xFF ∷ 0x02 ∷ [])

-- "different items among" the six, and no exception
pub record Apart (a b : Named) : Type 0 where
  pub among : (one_of a.item six_items ≡ true) × (one_of b.item six_items ≡ true)
  pub different : eqb a.item b.item ≡ false
  pub unexcepted : excepted a b || excepted b a ≡ false

-- "Sets of 0020 on channels 00 and 02", and as well sets of 0038
pub record OnBothChannels (a b : Named) : Type 0 where
  pub among : one_of a.item channel_items ≡ true
  pub alike : a.item ≡ b.item
  pub channels : ((a.byte ≡ 0x00) × (b.byte ≡ 0x02)) ⊎ ((a.byte ≡ 0x02) × (b.byte ≡ 0x00))

-- the two kinds of pairs that may change places
abbrev pub Exchangeable : Named → Named → Type 0
Exchangeable a b = Apart a b ⊎ OnBothChannels a b

-- Every two sets of such a pair may come in either order, whatever the settings are. (Sets of 0020 on 00 and on 02 "commute while 0019 is
-- 4"; while it is 0, the one on 02 is refused in either order.)
abbrev pub SetsInEitherOrder : Type 0
SetsInEitherOrder =
    (s : Settings) (m n : Message) → m.type ≡ type_set → n.type ≡ type_set → Exchangeable (named m) (named n) → EitherOrder s m n
