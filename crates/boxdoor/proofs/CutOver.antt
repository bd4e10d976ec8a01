-- What cutting over the door comes to, from the tests that led there.
use Prim.Native.Nat.{ℕ, ◌≤◌, ◌<◌}
use mathlib.Core.Path.{◌≡◌, refl, sym, ap, ◌∙◌}
use mathlib.Core.List.{List}
use native.Mathlib.Omega.{arith}
use borrow.Author.Tests.{eqb-true, eqb-false, ltb-false, eq-eqb, ne_eqb, lt-ltb, le-ltb}
use borrow.Rule.Slice.PartMut.{mid_of}
use lib.Dec.{eqb, ltb}
use lib.IntN.{ℤ}
use lib.ListN.{length}
use lib.Seq.{sets}
use Rattle.wire.specs.Choice.{pick}
use Rattle.wire.specs.Number.{bytes}
use Rattle.framing.specs.declared.Store.{Store}
use Rattle.station.specs.declared.Station.{Station}
use Rattle.cutting.specs.Cutting.{Cut}
use Rattle.cutting.specs.Cutting.{CutHeld}
use Rattle.station.specs.Station.{box_of}
use Rattle.cutting.specs.Cutting.{Cutting, cutting_of, cut_code, parts_of}
use Rattle.cutting.proofs.Codes.{refuses, cuts}
use Rattle.cutting.proofs.Ways.{each_cut, cutting_holds, cut_low}
use mathlib.Core.Bool.{Bool, true, false}
use Rattle.wire.specs.Refusal.{refusal_code}
use Rattle.wire.specs.declared.refusal.Refusal.{Refusal}
use Rattle.wire.proofs.Refusals.{done_no_refusal}
use Rattle.boxdoor.specs.States.{held_from, taken_from, station_size, settings_in, settings_bytes, station_bytes}
use Rattle.boxdoor.specs.Cutting.{CutAnswer, cut_by, cut_over, packet_over}
use Rattle.boxdoor.proofs.Parts.{length_part}
use Rattle.boxdoor.proofs.Fields.{parts_stored}
use Rattle.boxdoor.proofs.Lent.{Read, lent_box, lent_is, box_after_lem}

-- A box whose held bytes were lent (proofs/Lent), and which cut: what came back.
pub record Lent (state : List ℕ) (samples : List ℤ) (room : ℕ) : Type 0 where
  pub box : Read state
  pub back : CutHeld
  pub told : back ≡ parts_of (cutting_of (lent_box state box) samples room).cut

-- The settings are written back where the call was not refused.
module _ (state : List ℕ) (samples : List ℤ) (room : ℕ) (l : Lent state samples room) where
  abbrev r : CutHeld
  r = l.back

  -- the box that cut
  abbrev lent : Station
  lent = lent_box state l.box

  abbrev cut : Cut
  cut = (cutting_of lent samples room).cut

  -- what comes over, from what came back
  abbrev written : CutHeld → CutAnswer
  written k = record { code = k.code; wrote = k.wrote; state = pick (ltb k.code 20) (station_bytes cut.station) state }

  answer : (after : List ℕ) → after ≡ pick (ltb r.code 20) (station_bytes cut.station) state
      → record { code = r.code; wrote = r.wrote; state = after } ≡ cut_over state samples room
  unfolding cut_by cut_over
  answer after e =
      rw e
      (ap written l.told
      ∙ rw (eq-eqb (length state) station_size l.box.long, ← lent_is state l.box) refl)

  -- the serial stays
  same_serial : cut.station.settings.serial ≡ l.box.settings.serial
  same_serial =
      each_cut (λ (c : Cutting). c.cut.station.settings.serial ≡ l.box.settings.serial) lent samples room
      (λ e. refl) (λ n. refl)

  serial_long : length r.settings.serial ≡ 8
  unfolding settings_in
  serial_long = rw (l.told, same_serial, l.box.read) (length_part 46 8 state (omega (arith, l.box.long)))

  pub cut_done : (after : List ℕ) → r.code < 20
      → after ≡ sets (sets state 0 (settings_bytes r.settings)) taken_from (bytes 8 l.box.taken)
      → record { code = r.code; wrote = r.wrote; state = after } ≡ cut_over state samples room
  cut_done after low e =
      let holds = sym (cutting_holds lent samples room) in
      let same : box_of r.settings (mid_of held_from 64 state) l.box.taken ≡ cut.station =
      box_after_lem cut.station r.settings (mid_of held_from 64 state) l.box.taken
      (ap (λ (k : CutHeld). k.settings) l.told) (ap (λ (k : Store). k.held) holds) (ap (λ (k : Store). k.taken) holds) in
      answer after
      (e
      ∙ parts_stored r.settings (mid_of held_from 64 state) state l.box.taken l.box.long serial_long refl
      ∙ ap station_bytes same
      ∙ rw (lt-ltb r.code 20 low) refl)

  pub cut_refused : 20 ≤ r.code → record { code = r.code; wrote = r.wrote; state = state } ≡ cut_over state samples room
  cut_refused high = answer state (rw (le-ltb r.code 20 high) refl)

  -- the code of a call that is refused
  pub high_code : (q : Refusal) → record { code = refusal_code q; wrote = 0; settings = l.box.settings } ≡ parts_of cut → 20 ≤ refusal_code q
  high_code q told = go (eqb (cut_code lent samples room) 1) refl
    where
      go : (b : Bool) → eqb (cut_code lent samples room) 1 ≡ b → 20 ≤ refusal_code q
      go true e =
          let one : cut_code lent samples room ≡ 1 = eqb-true (cut_code lent samples room) 1 e in
          let done : refusal_code q ≡ 1 =
          ap (λ (k : CutHeld). k.code) told ∙ sym (ap (λ (c : Cutting). c.cut.code) (cuts lent samples room one)) in
          done_no_refusal q (sym done)
      go false e =
          let code : refusal_code q ≡ cut_code lent samples room =
          ap (λ (k : CutHeld). k.code) told
          ∙ sym (ap (λ (c : Cutting). c.cut.code)
          (refuses lent samples room (cut_code lent samples room) refl (eqb-false (cut_code lent samples room) 1 e))) in
          rw code (ltb-false (cut_code lent samples room) 20 (cut_low lent samples room ∙ e))

  pub packet_whole : (packet after : List ℕ) → after ≡ sets packet 0 (cutting_of lent samples room).bytes
      → after ≡ sets packet 0 (packet_over state samples room)
  unfolding packet_over
  packet_whole packet after q = rw (q, eq-eqb (length state) station_size l.box.long, ← lent_is state l.box) refl

-- other bytes: 21
pub cut_broken : (state : List ℕ) (samples : List ℤ) (room : ℕ) → (length state ≡ station_size → ⊥)
    → record { code = 21; wrote = 0; state = state } ≡ cut_over state samples room
unfolding cut_by cut_over
cut_broken state samples room other = rw (ne_eqb (length state) station_size other)

pub packet_broken : (state packet : List ℕ) (samples : List ℤ) (room : ℕ) → (length state ≡ station_size → ⊥)
    → packet ≡ sets packet 0 (packet_over state samples room)
unfolding packet_over
packet_broken state packet samples room other = rw (ne_eqb (length state) station_size other)
