-- Which channel bytes some box allows: those that a box with two channels does, since it allows all that one with a single channel does.
use Prim.Native.Nat.{ℕ}
use mathlib.Core.Path.{◌≡◌, refl, sym, ◌∙◌}
use mathlib.Core.Bool.{Bool, true, false, ◌||◌, not}
use mathlib.Core.List.{List, [], ◌∷◌, ◌++◌}
use lib.Dec.{eqb}
use Rattle.wire.specs.Choice.{pick, one_of}
use Rattle.wire.specs.Header.{type_set}
use Rattle.wire.proofs.Laws.{never, or_left, pick_same}
use Rattle.items.specs.declared.Settings.{Settings}
use Rattle.items.specs.Settings.{single, dual, open_channels}
use Rattle.items.specs.Items.{Echoed, no_byte, an_id, any_channel, a_channel}
use Rattle.items.specs.Answer.{channel_allowed}
use Rattle.wishes.specs.declared.Wish.{Wish}
use Rattle.wishes.specs.Wishes.{asking, open_at, open_wish, closed_now}

-- on a request 00, or 00 and 02; on a set FF besides
pub asked_open : (c : ℕ) → one_of c (0x00 ∷ []) || (one_of c (0x00 ∷ 0x02 ∷ []) || false) ≡ one_of c (0x00 ∷ 0x02 ∷ [])
asked_open c = go (eqb c 0x00) (eqb c 0x02)
  where
    go : (a b : Bool) → (a || false) || ((a || (b || false)) || false) ≡ a || (b || false)
    go true b = refl
    go false true = refl
    go false false = refl

pub set_open : (c : ℕ)
    → one_of c (0xFF ∷ 0x00 ∷ []) || (one_of c (0xFF ∷ 0x00 ∷ 0x02 ∷ []) || false) ≡ one_of c (0xFF ∷ 0x00 ∷ 0x02 ∷ [])
set_open c = go (eqb c 0xFF) (asked_open c)
  where
    go : (a : Bool)
        → one_of c (0x00 ∷ []) || (one_of c (0x00 ∷ 0x02 ∷ []) || false) ≡ one_of c (0x00 ∷ 0x02 ∷ [])
        → (a || one_of c (0x00 ∷ [])) || ((a || one_of c (0x00 ∷ 0x02 ∷ [])) || false) ≡ a || one_of c (0x00 ∷ 0x02 ∷ [])
    go true same = refl
    go false same = same

-- of any item, and any kind
either : (e : Echoed) (kind c : ℕ)
    → channel_allowed single e kind c || (channel_allowed dual e kind c || false) ≡ channel_allowed dual e kind c
either no_byte kind c = refl
either an_id kind c = refl
either any_channel kind c = refl
either a_channel kind c = go (eqb kind type_set)
  where
    go : (set : Bool)
        → one_of c (pick set (0xFF ∷ []) [] ++ open_channels single) || (one_of c (pick set (0xFF ∷ []) [] ++ open_channels dual) || false)
        ≡ one_of c (pick set (0xFF ∷ []) [] ++ open_channels dual)
    go true = set_open c
    go false = asked_open c

pub open_dual : (w : Wish) → open_wish w ≡ open_at w dual
open_dual w = either (asking w).item.echoed (asking w).kind (asking w).echo

-- a box whose value of 0019 is not 4 allows what one with 0 does
by_setup : (e : Echoed) (kind c setup : ℕ)
    → channel_allowed setup e kind c ≡ pick (eqb setup dual) (channel_allowed dual e kind c) (channel_allowed single e kind c)
by_setup no_byte kind c setup = sym (pick_same (eqb setup dual) true)
by_setup an_id kind c setup = sym (pick_same (eqb setup dual) true)
by_setup any_channel kind c setup = sym (pick_same (eqb setup dual) true)
by_setup a_channel kind c setup = go (eqb setup dual)
  where
    all : List ℕ
    all = pick (eqb kind type_set) (0xFF ∷ []) []

    go : (b : Bool)
        → one_of c (all ++ pick b (0x00 ∷ 0x02 ∷ []) (0x00 ∷ []))
        ≡ pick b (one_of c (all ++ 0x00 ∷ 0x02 ∷ [])) (one_of c (all ++ 0x00 ∷ []))
    go true = refl
    go false = refl

-- what one box allows is open
pub open_here : (w : Wish) (setup : ℕ) → open_at w setup ≡ true → open_wish w ≡ true
open_here w setup h = go (eqb setup dual) (sym (by_setup (asking w).item.echoed (asking w).kind (asking w).echo setup) ∙ h)
  where
    go : (b : Bool) → pick b (open_at w dual) (open_at w single) ≡ true → open_wish w ≡ true
    go true e = open_dual w ∙ e
    go false e = or_left (open_at w single) _ e

-- and what no box allows is closed in each, whatever its settings
pub closed_everywhere : (w : Wish) (s : Settings) → open_wish w ≡ false → closed_now w s ≡ true
closed_everywhere w s h = go (open_at w s.setup) (open_here w s.setup)
  where
    go : (b : Bool) → (b ≡ true → open_wish w ≡ true) → not b ≡ true
    go true is = never (sym h ∙ is refl)
    go false is = refl
