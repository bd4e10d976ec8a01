-- A host's whole talk: what each call consumes and writes stays within what there is, the box stays valid, and what is left
-- to serve gives the whole.
-- Assumes nothing.
use Prim.Native.Nat.{ℕ, zero, suc, ◌+◌, ◌-◌, ◌≤◌, ◌<◌}
use mathlib.Core.Path.{◌≡◌, refl, ap, ◌∙◌}
use mathlib.Core.Bool.{true}
use mathlib.Core.List.{List, [], ◌++◌}
use native.Mathlib.Nat.{lt_irrefl}
use native.Mathlib.Omega.{arith}
use borrow.Author.Tests.{eq-eqb, ne_eqb, lt-ltb, le-ltb}
use lib.Dec.{eqb}
use lib.ListN.{length, drop, length-append, length-drop}
use lib.Seq.{sets, length-sets, drop-drop}
use Rattle.wire.proofs.Laws.{pick_same}
use Rattle.wire.proofs.Stores.{sets_append}
use Rattle.station.specs.Feeding.{FedHeld}
use Rattle.station.specs.declared.Station.{Station}
use Rattle.station.specs.Station.{box_of, valid, fresh_station, session_serial}
use Rattle.station.specs.Feeding.{Feeding, feeding_of, parts_of}
use Rattle.station.proofs.Calls.{Within, feeding_within, feeding_keeps}
use Rattle.station.proofs.FreshBoxes.{fresh_valid}
use Rattle.station.specs.Talking.{served, serve_run}

-- nothing more is served: no call is left, no byte, or no room
pub none_left : (left room : ℕ) (s : Station) (host : List ℕ) → left ≤ 0 → served left room s host ≡ []
unfolding served
none_left zero room s host none = refl
none_left (suc left) room s host none = absurd (omega arith)

pub none_more : (left room : ℕ) (s : Station) (host : List ℕ) → length host ≡ 0 → served left room s host ≡ []
unfolding served
none_more zero room s host none = refl
none_more (suc left) room s host none = rw (eq-eqb (length host) 0 none)

pub no_room_lem : (left room : ℕ) (s : Station) (host : List ℕ) → room < 64 → served left room s host ≡ []
unfolding served
no_room_lem zero room s host short = refl
no_room_lem (suc left) room s host short = rw (lt-ltb room 64 short) (pick_same (eqb (length host) 0) [])

-- one call, and what is served after it
pub one_call : (left room : ℕ) (s : Station) (host : List ℕ) (f : Feeding) → f ≡ feeding_of s host room → 0 < left → 0 < length host
    → 64 ≤ room
    → served left room s host ≡ f.bytes ++ served (left - 1) (room - length f.bytes) f.fed.station (drop f.fed.consumed host)
unfolding served
one_call zero room s host f is none more roomy = absurd (lt_irrefl 0 none)
one_call (suc left) room s host f is some more roomy =
    let down : suc left - 1 ≡ left = omega arith in
    rw (down, is, ne_eqb (length host) 0 (omega arith), le-ltb room 64 roomy)

-- Serving in its midst: the box is valid, and what is left to serve, written from the present place on, gives the whole.
pub record Going (host whole replies : List ℕ) (s : Station) (i at left : ℕ) : Type 0 where
  pub sound : valid s ≡ true
  pub inside : i ≤ length host
  pub room : at ≤ length replies
  pub long : length replies ≡ length whole
  pub written : sets replies at (served left (length replies - at) s (drop i host)) ≡ sets whole 0 (serve_run host (length whole))
  pub counted : at + length (served left (length replies - at) s (drop i host)) ≡ length (serve_run host (length whole))

-- it begins with a fresh box
pub begins : (host replies : List ℕ) (s : Station) → s ≡ fresh_station session_serial → Going host replies replies s 0 0 (length host)
unfolding serve_run
begins host replies s is =
    let all : length replies - 0 ≡ length replies = omega arith in
    record {
      sound = rw is (fresh_valid session_serial refl);
      inside = omega arith;
      room = omega arith;
      long = refl;
      written = rw (is, all);
      counted = rw (is, all) (omega arith);
    }

-- it ends where nothing more is served
pub ends : (host whole replies : List ℕ) (s : Station) (i at left : ℕ) → Going host whole replies s i at left
    → served left (length replies - at) s (drop i host) ≡ []
    → (at ≡ length (serve_run host (length whole))) × (replies ≡ sets whole 0 (serve_run host (length whole)))
ends host whole replies s i at left g none = (omega (arith, rw none at g.counted), rw none at g.written)

-- and goes on from one call to the next
module _ (host whole replies after : List ℕ) (s : Station) (i at left : ℕ) (f : Feeding)
    (is : f ≡ feeding_of s (drop i host) (length replies - at)) (g : Going host whole replies s i at left)
    (some : 0 < left) (more : i < length host) (roomy : 64 ≤ length replies - at)
    (stored : after ≡ sets replies at f.bytes) where
  rest : List ℕ
  rest = served (left - 1) (length replies - at - length f.bytes) f.fed.station (drop f.fed.consumed (drop i host))

  within : Within (drop i host) (length replies - at) f
  within = rw is (feeding_within s (drop i host) (length replies - at))

  same : length after ≡ length replies
  same = rw (stored, length-sets replies at f.bytes)

  split : served left (length replies - at) s (drop i host) ≡ f.bytes ++ rest
  unfolding rest
  split = one_call left (length replies - at) s (drop i host) f is some (simp length-drop (omega arith)) roomy

  on : served (left - 1) (length after - (at + f.fed.wrote)) f.fed.station (drop (i + f.fed.consumed) host) ≡ rest
  unfolding rest
  on =
      let lefts : length after - (at + f.fed.wrote) ≡ length replies - at - length f.bytes = omega (arith, same, within.wrote) in
      rw (lefts, ← drop-drop f.fed.consumed i host)

  -- the bytes of this call, and the rest behind them
  behind :
      sets after (at + f.fed.wrote)
      (served (left - 1) (length after - (at + f.fed.wrote)) f.fed.station (drop (i + f.fed.consumed) host))
      ≡ sets replies at (f.bytes ++ rest)
  behind =
      let to : at + f.fed.wrote ≡ at + length f.bytes = omega (arith, within.wrote) in
      ap (λ (l : List ℕ). sets after (at + f.fed.wrote) l) on
      ∙ ap (λ (n : ℕ). sets after n rest) to
      ∙ ap (λ (l : List ℕ). sets l (at + length f.bytes) rest) stored
      ∙ sets_append replies at f.bytes rest

  pub goes_on_lem : Going host whole after f.fed.station (i + f.fed.consumed) (at + f.fed.wrote) (left - 1)
  goes_on_lem =
      record {
        sound = rw is (feeding_keeps s (drop i host) (length replies - at) g.sound);
        inside = omega (arith, within.consumed, length-drop i host);
        room = omega (arith, same, within.wrote, within.fits);
        long = same ∙ g.long;
        written = behind ∙ rw split at g.written;
        counted = rw on (omega (arith, within.wrote, length-append f.bytes rest, rw split at g.counted));
      }

  -- as the call's own answer and the held bytes after it say
  pub turns : (r : FedHeld) (held : List ℕ) → r ≡ parts_of f.fed → held ≡ f.fed.station.store.held
      → Going host whole after (box_of r.settings held r.taken) (i + r.consumed) (at + r.wrote) (left - 1)
  turns r held told kept = rw (told, kept) goes_on_lem
