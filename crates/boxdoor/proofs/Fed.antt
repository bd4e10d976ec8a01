-- What the calls on a box come to over the door, from the tests that led there.
use Prim.Native.Nat.{ℕ, ◌≤◌, ◌<◌}
use mathlib.Core.Path.{◌≡◌, refl, sym, ap, ◌∙◌}
use mathlib.Core.Bool.{Bool, true, false}
use mathlib.Core.List.{List}
use native.Mathlib.Omega.{arith}
use borrow.Author.Tests.{leb-true, leb-false, eq-eqb, ne_eqb, lt-ltb, le-ltb}
use borrow.Rule.Slice.PartMut.{mid_of, put_mid, same_len_mid, put_same}
use lib.Dec.{leb, ltb}
use lib.ListN.{length}
use lib.Seq.{sets}
use Rattle.wire.specs.Choice.{pick}
use Rattle.wire.specs.Number.{bytes}
use Rattle.wire.specs.Told.{Told}
use Rattle.station.specs.Station.{FreshBox}
use Rattle.station.specs.Feeding.{Fed}
use Rattle.station.specs.Feeding.{FedHeld}
use Rattle.station.specs.declared.Station.{Station}
use Rattle.station.specs.Station.{box_of, valid, fresh_box, tuning_told}
use Rattle.station.specs.Feeding.{Feeding, feeding_of, parts_of}
use Rattle.framing.proofs.Leaving.{left_long}
use Rattle.station.proofs.Kept.{serial_long}
use Rattle.station.proofs.Valid.{valid_settings, valid_store, feeding_broken}
use Rattle.station.proofs.Calls.{refused_returns, feeding_keeps}
use Rattle.boxdoor.specs.States.{held_from, taken_from, station_size, station_in, settings_bytes, station_bytes}
use Rattle.boxdoor.specs.Feeding.{FeedAnswer, fed_over, feed_over, replied_over, fresh_over, Tuned, tuned, tuned_over}
use Rattle.boxdoor.proofs.Parts.{length_part}
use Rattle.boxdoor.proofs.Fields.{parts_stored, held_put}
use Rattle.boxdoor.proofs.Lent.{Read, lent_box, lent_is, box_after_lem}

-- A box whose held bytes were lent (proofs/Lent), and which was fed: those bytes after the call, and what came back.
pub record Lent (state host : List ℕ) (room : ℕ) : Type 0 where
  pub box : Read state
  pub held : List ℕ
  pub back : FedHeld
  pub told : back ≡ parts_of (feeding_of (lent_box state box) host room).fed
  pub kept : held ≡ (feeding_of (lent_box state box) host room).fed.station.store.held

-- All but the held bytes is written back where the call was not refused.
module _ (state host : List ℕ) (room : ℕ) (l : Lent state host room) where
  abbrev f : FedHeld
  f = l.back

  -- the box that was fed
  abbrev lent : Station
  lent = lent_box state l.box

  abbrev fed : Fed
  fed = (feeding_of lent host room).fed

  -- what comes over, from what came back
  abbrev written : FedHeld → FeedAnswer
  written k =
      record {
        code = k.code;
        consumed = k.consumed;
        wrote = k.wrote;
        state = pick (ltb k.code 20) (station_bytes fed.station) state;
      }

  answer : (after : List ℕ) → after ≡ pick (ltb f.code 20) (station_bytes fed.station) state
      → record { code = f.code; consumed = f.consumed; wrote = f.wrote; state = after } ≡ feed_over state host room
  unfolding fed_over feed_over
  answer after e =
      rw e
      (ap written l.told
      ∙ rw (eq-eqb (length state) station_size l.box.long, ← lent_is state l.box) refl)

  -- a box that was not refused was a valid one, and still is
  still_valid : f.code < 20 → valid fed.station ≡ true
  still_valid low = go (valid lent) refl
    where
      go : (b : Bool) → valid lent ≡ b → valid fed.station ≡ true
      go true v = feeding_keeps lent host room v
      go false v =
          let broken : fed.code ≡ 21 = ap (λ (k : Feeding). k.fed.code) (feeding_broken lent host room v) in
          absurd (omega (arith, ap (λ (k : FedHeld). k.code) l.told))

  pub feed_done : (after : List ℕ) → f.code < 20
      → after ≡ sets (sets (put_mid held_from 64 state l.held) 0 (settings_bytes f.settings)) taken_from (bytes 8 f.taken)
      → record { code = f.code; consumed = f.consumed; wrote = f.wrote; state = after } ≡ feed_over state host room
  feed_done after low e =
      let s = fed.station in
      let v = still_valid low in
      let serial : length f.settings.serial ≡ 8 =
      rw l.told (serial_long s.settings (valid_settings s.settings s.store v)) in
      let many : length l.held ≡ 64 = rw l.kept (left_long s.store (valid_store s.settings s.store v)) in
      let part : length (mid_of held_from 64 state) ≡ 64 = length_part held_from 64 state (omega arith) in
      let size : length (put_mid held_from 64 state l.held) ≡ station_size =
      same_len_mid held_from 64 state l.held (many ∙ sym part) ∙ l.box.long in
      let same : box_of f.settings l.held f.taken ≡ s =
      box_after_lem s f.settings l.held f.taken
      (ap (λ (k : FedHeld). k.settings) l.told) l.kept (ap (λ (k : FedHeld). k.taken) l.told) in
      answer after
      (e
      ∙ parts_stored f.settings l.held (put_mid held_from 64 state l.held) f.taken size serial
      (held_put state l.held l.box.long many)
      ∙ ap station_bytes same
      ∙ rw (lt-ltb f.code 20 low) refl)

  pub feed_refused : 20 ≤ f.code
      → record { code = f.code; consumed = f.consumed; wrote = f.wrote; state = put_mid held_from 64 state l.held }
      ≡ feed_over state host room
  feed_refused high =
      let code : f.code ≡ fed.code = ap (λ (k : FedHeld). k.code) l.told in
      let same : l.held ≡ mid_of held_from 64 state =
      l.kept ∙ ap (λ (k : Station). k.store.held) (refused_returns lent host room (omega arith)) in
      answer (put_mid held_from 64 state l.held)
      (ap (put_mid held_from 64 state) same ∙ put_same held_from 64 state ∙ rw (le-ltb f.code 20 high) refl)

  -- the code of a call that has an answer, and of one that is refused
  pub low_code : false ≡ leb 20 fed.code → f.code < 20
  low_code fails = rw (ap (λ (k : FedHeld). k.code) l.told) (leb-false 20 fed.code (sym fails))

  pub high_code : true ≡ leb 20 fed.code → 20 ≤ f.code
  high_code fails = rw (ap (λ (k : FedHeld). k.code) l.told) (leb-true 20 fed.code (sym fails))

  pub replied_whole : (reply after : List ℕ) → after ≡ sets reply 0 (feeding_of lent host room).bytes
      → after ≡ sets reply 0 (replied_over state host room)
  unfolding replied_over
  replied_whole reply after q = rw (q, eq-eqb (length state) station_size l.box.long, ← lent_is state l.box) refl

-- other bytes: 21
pub feed_broken : (state host : List ℕ) (room : ℕ) → (length state ≡ station_size → ⊥)
    → record { code = 21; consumed = 0; wrote = 0; state = state } ≡ feed_over state host room
unfolding fed_over feed_over
feed_broken state host room other = rw (ne_eqb (length state) station_size other)

pub replied_broken : (state host reply : List ℕ) (room : ℕ) → (length state ≡ station_size → ⊥)
    → reply ≡ sets reply 0 (replied_over state host room)
unfolding replied_over
replied_broken state host reply room other = rw (ne_eqb (length state) station_size other)

pub fresh_whole : (serial state after : List ℕ) (b : FreshBox) → length state ≡ station_size → b ≡ fresh_box serial
    → after ≡ station_bytes b.station
    → record { code = b.code; state = after } ≡ fresh_over serial state
unfolding fresh_over
fresh_whole serial state after b long p q = rw (q, p, eq-eqb (length state) station_size long)

pub fresh_broken : (serial state : List ℕ) → (length state ≡ station_size → ⊥) → record { code = 21; state = state } ≡ fresh_over serial state
unfolding fresh_over
fresh_broken serial state other = rw (ne_eqb (length state) station_size other)

pub word_whole : (state : List ℕ) (channel : ℕ) (s : Station) (t : Told) {w : Tuned} → length state ≡ station_size → s ≡ station_in state
    → t ≡ tuning_told s channel → w ≡ tuned t
    → w ≡ tuned_over state channel
unfolding tuned_over
word_whole state channel s t long p q r = r ∙ rw (q, p, eq-eqb (length state) station_size long)

pub word_broken : (state : List ℕ) (channel : ℕ) → (length state ≡ station_size → ⊥)
    → record { code = 21; word = 0 } ≡ tuned_over state channel
unfolding tuned_over
word_broken state channel other = rw (ne_eqb (length state) station_size other)
