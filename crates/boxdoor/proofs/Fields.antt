-- Fields stored one behind the other are the store of the whole state.
use Prim.Native.Nat.{ℕ, ◌+◌, ◌≤◌}
use mathlib.Core.Path.{◌≡◌, refl, sym, ap, ◌∙◌}
use mathlib.Core.Bool.{not}
use mathlib.Core.List.{List, [], ◌++◌, append_assoc, append-nil}
use native.Mathlib.Omega.{arith}
use mir.Val.{bool_byte}
use lib.Dec.{eqb}
use lib.ListN.{length, get_or, take, drop, drop_of_length-le}
use lib.Seq.{sets, sets-eq, length-sets, length-take-le, take-append-add, take_at, drop_at}
use borrow.Rule.Slice.PartMut.{mid_of, put_mid}
use Rattle.wire.specs.Number.{bytes, field}
use Rattle.wire.proofs.Laws.{flag_byte}
use Rattle.wire.proofs.Numbers.{length_bytes}
use Rattle.wire.proofs.Stores.{sets_then, sets_whole}
use Rattle.items.specs.declared.Channel.{Channel}
use Rattle.items.specs.declared.Settings.{Settings}
use Rattle.station.specs.Station.{box_of}
use Rattle.boxdoor.specs.States.{channel_bytes, common_bytes, settings_bytes, station_bytes}
use Rattle.boxdoor.specs.States.{common_from, held_from, taken_from, station_size, channel_in, settings_in}

-- ---- the settings, one behind the other

pub channel_stored : (h : Channel) (at : ℕ) (l a b c : List ℕ) → a ≡ sets l at (bytes 8 h.frequency)
    → b ≡ sets a (at + 8) (bytes 4 h.word) → c ≡ sets b (at + 12) (bytes 1 h.gain) → c ≡ sets l at (channel_bytes h)
unfolding channel_bytes
channel_stored h at l a b c p q r =
    let behind : at + 8 + 4 ≡ at + 12 = omega arith in
    sets_then l at (bytes 8 h.frequency) (bytes 4 h.word ++ bytes 1 h.gain) p
    (sets_then a (at + 8) (bytes 4 h.word) (bytes 1 h.gain) q (rw behind r))

pub common_stored : (s : Settings) (l a b c d e f g : List ℕ) → a ≡ sets l common_from (bytes 8 s.count)
    → b ≡ sets a 34 (bytes 4 s.clock) → c ≡ sets b 38 (bytes 4 s.divisor) → d ≡ sets c 42 (bytes 1 (bool_byte s.running))
    → e ≡ sets d 43 (bytes 1 s.mode) → f ≡ sets e 44 (bytes 1 s.size) → g ≡ sets f 45 (bytes 1 s.setup)
    → g ≡ sets l common_from (common_bytes s)
unfolding common_bytes
common_stored s l a b c d e f g p q r t u v w = rw (w, v, u, t, r, q, p, flag_byte s.running)

pub settings_stored : (s : Settings) (l a b c d : List ℕ) → a ≡ sets l 0 (channel_bytes s.first)
    → b ≡ sets a 13 (channel_bytes s.second) → c ≡ sets b common_from (common_bytes s) → d ≡ sets c 46 s.serial
    → d ≡ sets l 0 (settings_bytes s)
unfolding channel_bytes common_bytes
settings_stored s l a b c d p q r t =
    sets_then l 0 (channel_bytes s.first) (channel_bytes s.second ++ common_bytes s ++ s.serial) p
    (sets_then a 13 (channel_bytes s.second) (common_bytes s ++ s.serial) q
    (sets_then b common_from (common_bytes s) s.serial r t))

-- stored in the part in front of the held bytes
pub front_stored : (l vs : List ℕ) → length vs ≡ held_from → held_from ≤ length l
    → put_mid 0 held_from l (sets (mid_of 0 held_from l) 0 vs) ≡ sets l 0 vs
front_stored l vs long room =
    let part : length (take held_from l) ≡ held_from = length-take-le held_from l room in
    ap (λ (r : List ℕ). r ++ drop held_from l) (sets_whole (take held_from l) vs (long ∙ sym part))
    ∙ sym (sets-eq vs l 0 (omega arith) ∙ rw long refl)

-- the settings from what was read
pub settings_read : (b : List ℕ) {first second : Channel} {count clock divisor : ℕ} {serial : List ℕ} → first ≡ channel_in 0 b
    → second ≡ channel_in 13 b → count ≡ field common_from 8 b → clock ≡ field 34 4 b → divisor ≡ field 38 4 b
    → serial ≡ take 8 (drop 46 b)
    → record {
      first = first;
      second = second;
      count = count;
      clock = clock;
      divisor = divisor;
      size = get_or b 44 0;
      setup = get_or b 45 0;
      running = not (eqb (get_or b 42 0) 0);
      mode = get_or b 43 0;
      serial = serial;
    }
    ≡ settings_in b
unfolding settings_in
settings_read b f g n c d l = rw (f, g, n, c, d, l) refl

-- ---- all but the held bytes: those in front of them, and eight behind

module _ (front back l : List ℕ) (first : length front ≡ held_from) (last : length back ≡ 8) (long : length l ≡ station_size) where
  -- with the held bytes in their places they are the whole
  placed : (held : List ℕ) → take 64 (drop held_from l) ≡ held → sets (sets l 0 front) taken_from back ≡ front ++ (held ++ back)
  placed held there =
      let begun : sets l 0 front ≡ front ++ drop held_from l = sets-eq front l 0 (omega arith) ∙ rw first refl in
      let kept : take taken_from (front ++ drop held_from l) ≡ front ++ held =
      rw first at (take-append-add front (drop held_from l) 64) ∙ ap (λ (r : List ℕ). front ++ r) there in
      let size : length (sets l 0 front) ≡ station_size = length-sets l 0 front ∙ long in
      let rest : drop (taken_from + length back) (sets l 0 front) ≡ [] =
      drop_of_length-le (sets l 0 front) {i = taken_from + length back} (omega arith) in
      sets-eq back (sets l 0 front) taken_from (omega arith)
      ∙ rw rest (append-nil (take taken_from (sets l 0 front) ++ back))
      ∙ ap (λ (r : List ℕ). take taken_from r ++ back) begun
      ∙ rw kept (append_assoc front held back)

pub settings_long : (s : Settings) → length s.serial ≡ 8 → length (settings_bytes s) ≡ held_from
unfolding channel_bytes common_bytes
settings_long s serial = rw serial

pub parts_stored : (s : Settings) (held l : List ℕ) (taken : ℕ) → length l ≡ station_size → length s.serial ≡ 8
    → take 64 (drop held_from l) ≡ held
    → sets (sets l 0 (settings_bytes s)) taken_from (bytes 8 taken) ≡ station_bytes (box_of s held taken)
parts_stored s held l taken long serial there =
    placed (settings_bytes s) (bytes 8 taken) l (settings_long s serial) (length_bytes 8 taken) long held there

-- ---- a box whose held bytes are lent where they lie

-- held bytes put in their places, read again
pub held_put : (l held : List ℕ) → length l ≡ station_size → length held ≡ 64 → take 64 (drop held_from (put_mid held_from 64 l held)) ≡ held
held_put l held long many =
    rw (drop_at (take held_from l) (held ++ drop 64 (drop held_from l)) held_from (length-take-le held_from l (omega arith)))
    (take_at held (drop 64 (drop held_from l)) 64 many)
