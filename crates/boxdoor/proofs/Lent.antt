-- A box over the door: its held bytes are lent where they lie; the rest is read out before a call, and written back after it,
-- unless the call was refused.
use Prim.Native.Nat.{ℕ}
use mathlib.Core.Path.{◌≡◌, refl, ap}
use mathlib.Core.List.{List}
use borrow.Rule.Slice.PartMut.{mid_of}
use lib.ListN.{length}
use Rattle.wire.specs.Number.{field}
use Rattle.items.specs.declared.Settings.{Settings}
use Rattle.station.specs.declared.Station.{Station}
use Rattle.station.specs.declared.Parts.{Parts}
use Rattle.station.specs.Station.{box_of}
use Rattle.boxdoor.specs.States.{held_from, taken_from, station_size, settings_in, store_in, station_in}

-- bytes of a box, and what was read out of them
pub record Read (state : List ℕ) : Type 0 where
  pub settings : Settings
  pub taken : ℕ
  pub long : length state ≡ station_size
  pub read : settings ≡ settings_in state
  pub had : taken ≡ field taken_from 8 state

-- as the parts of a box
abbrev pub read_of : (state : List ℕ) (p : Parts) → length state ≡ station_size
    → p ≡ record { settings = settings_in state; taken = field taken_from 8 state } → Read state
read_of state p long is =
    record {
      settings = p.settings;
      taken = p.taken;
      long = long;
      read = ap (λ (q : Parts). q.settings) is;
      had = ap (λ (q : Parts). q.taken) is;
    }

-- the box that the call is about
abbrev pub lent_box : (state : List ℕ) → Read state → Station
lent_box state b = box_of b.settings (mid_of held_from 64 state) b.taken

pub lent_is : (state : List ℕ) (b : Read state) → lent_box state b ≡ station_in state
unfolding store_in
lent_is state b = rw (b.read, b.had) refl

-- a box, from its parts
pub box_after_lem : (s : Station) (settings : Settings) (held : List ℕ) (taken : ℕ)
    → settings ≡ s.settings → held ≡ s.store.held → taken ≡ s.store.taken → box_of settings held taken ≡ s
box_after_lem s settings held taken set kept count = rw (set, kept, count) refl
