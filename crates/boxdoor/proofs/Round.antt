-- The two descriptions of the layout are one: a box that is stored in its bytes is read back from them.
-- Assumes nothing.
use Prim.Native.Nat.{ℕ, ◌%◌, ◌^◌, ◌<◌}
use mathlib.Core.Path.{◌≡◌, refl, sym, ap, ◌∙◌}
use mathlib.Core.Bool.{Bool, true, false, not}
use mathlib.Core.List.{List, ◌++◌}
use native.Mathlib.Omega.{arith}
use lib.Dec.{eqb}
use lib.ListN.{length, take, drop}
use lib.Seq.{take_at, drop_at, drop-drop}
use Rattle.wire.specs.Choice.{pick}
use Rattle.wire.specs.Number.{number, bytes}
use Rattle.wire.proofs.Numbers.{number_bytes}
use Rattle.framing.specs.declared.Store.{Store}
use Rattle.items.specs.declared.Channel.{Channel}
use Rattle.items.specs.declared.Settings.{Settings}
use Rattle.station.specs.declared.Station.{Station}
use Rattle.boxdoor.specs.States.{channel_bytes, common_bytes, station_bytes}
use Rattle.boxdoor.specs.States.{held_from, taken_from, channel_in, settings_in, store_in, station_in}

-- every field of a channel has room in its bytes
pub record ChannelFits (c : Channel) : Type 0 where
  pub frequency : c.frequency < 256 ^ 8
  pub word : c.word < 256 ^ 4
  pub gain : c.gain < 256

-- every field of a box
pub record Fits (s : Station) : Type 0 where
  pub first : ChannelFits s.settings.first
  pub second : ChannelFits s.settings.second
  pub count : s.settings.count < 256 ^ 8
  pub clock : s.settings.clock < 256 ^ 4
  pub divisor : s.settings.divisor < 256 ^ 4
  pub mode : s.settings.mode < 256
  pub size : s.settings.size < 256
  pub setup : s.settings.setup < 256
  pub serial : length s.settings.serial ≡ 8
  pub held : length s.store.held ≡ 64
  pub taken : s.store.taken < 256 ^ 8

byte_back : (n : ℕ) → n < 256 → n % 256 ≡ n
byte_back n h = omega arith

flag_back : (b : Bool) → not (eqb (pick b 1 0 % 256) 0) ≡ b
flag_back true = refl
flag_back false = refl

-- a channel that stands first in bytes
channel_back : (c : Channel) (behind : List ℕ) → ChannelFits c → channel_in 0 (channel_bytes c ++ behind) ≡ c
unfolding channel_bytes
channel_back c behind fits =
    rw (number_bytes 8 c.frequency fits.frequency, number_bytes 4 c.word fits.word, byte_back c.gain fits.gain) refl

-- settings, from their parts
settings_from : (s : Settings) (f g : Channel) (n c d z u m : ℕ) (r : Bool) (l : List ℕ) → f ≡ s.first → g ≡ s.second
    → n ≡ s.count → c ≡ s.clock → d ≡ s.divisor → r ≡ s.running → m ≡ s.mode → z ≡ s.size → u ≡ s.setup → l ≡ s.serial
    → record {
      first = f;
      second = g;
      count = n;
      clock = c;
      divisor = d;
      size = z;
      setup = u;
      running = r;
      mode = m;
      serial = l;
    } ≡ s
settings_from s f g n c d z u m r l is_f is_g is_n is_c is_d_lem is_r is_m is_z is_u is_l =
    rw (is_f, is_g, is_n, is_c, is_d_lem, is_r, is_m, is_z, is_u, is_l) refl

module _ (s : Station) (fits : Fits s) where
  abbrev a : Settings
  a = s.settings

  abbrev t : Store
  t = s.store

  -- what stands behind the channels
  abbrev common : List ℕ
  common = common_bytes a ++ a.serial ++ (t.held ++ bytes 8 t.taken)

  -- behind the serial stand the held bytes, and behind those how many were taken
  behind_serial : drop 8 (a.serial ++ (t.held ++ bytes 8 t.taken)) ≡ t.held ++ bytes 8 t.taken
  behind_serial = drop_at a.serial (t.held ++ bytes 8 t.taken) 8 fits.serial

  behind_held : drop 72 (a.serial ++ (t.held ++ bytes 8 t.taken)) ≡ bytes 8 t.taken
  behind_held =
      sym (drop-drop 64 8 (a.serial ++ (t.held ++ bytes 8 t.taken)))
      ∙ ap (drop 64) behind_serial
      ∙ drop_at t.held (bytes 8 t.taken) 64 fits.held

  settings_back : settings_in (station_bytes s) ≡ a
  unfolding settings_in channel_bytes common_bytes
  settings_back =
      settings_from a _ _ _ _ _ _ _ _ _ _
      (channel_back a.first (channel_bytes a.second ++ common) fits.first)
      (channel_back a.second common fits.second)
      (number_bytes 8 a.count fits.count)
      (number_bytes 4 a.clock fits.clock)
      (number_bytes 4 a.divisor fits.divisor)
      (flag_back a.running)
      (byte_back a.mode fits.mode)
      (byte_back a.size fits.size)
      (byte_back a.setup fits.setup)
      (take_at a.serial (t.held ++ bytes 8 t.taken) 8 fits.serial)

  held_back : take 64 (drop held_from (station_bytes s)) ≡ t.held
  unfolding channel_bytes common_bytes
  held_back = ap (take 64) behind_serial ∙ take_at t.held (bytes 8 t.taken) 64 fits.held

  taken_back : number (take 8 (drop taken_from (station_bytes s))) ≡ t.taken
  unfolding channel_bytes common_bytes
  taken_back = ap (λ (l : List ℕ). number (take 8 l)) behind_held ∙ number_bytes 8 t.taken fits.taken

  pub read_back : station_in (station_bytes s) ≡ s
  unfolding store_in
  read_back = rw (settings_back, held_back, taken_back) refl
