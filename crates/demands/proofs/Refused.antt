-- Demand 1: what a refused call leaves.
-- Assumes nothing.
use Prim.Native.Nat.{ℕ, ◌≤◌}
use mathlib.Core.Path.{◌≡◌, refl, sym, ◌∙◌}
use mathlib.Core.List.{List, ◌∷◌}
use native.Mathlib.Omega.{arith}
use native.Mathlib.Nat.{zero-add}
use borrow.Author.Tests.{ne_eqb, lt-leb}
use mathlib.Core.Bool.{false, and-false}
use lib.ListN.{length, replicate}
use lib.Dec.{eqb, lit≤}
use lib.IntN.{ℤ}
use Rattle.wire.specs.Header.{nak}
use Rattle.wire.proofs.Laws.{pick_keeps}
use Rattle.tuning.specs.Word.{word_of}
use Rattle.framing.specs.Framing.{taking, call_takes, finished, announced, could_be_left}
use Rattle.items.specs.Settings.{in_range}
use Rattle.station.specs.Station.{valid, fresh_station}
use Rattle.framing.proofs.Cutting.{finished_taking, count_all}
use Rattle.items.specs.declared.Settings.{Settings}
use Rattle.items.specs.Answer.{Message, code_of, settings_after, reply_of}
use Rattle.items.proofs.Judging.{reply_by_code}
use Rattle.reader.specs.declared.Reader.{Reader}
use Rattle.packets.specs.Numbers.{number_in}
use Rattle.reader.specs.Reading.{reading_code, reading_of, heard_with, unheard}
use Rattle.station.specs.declared.Station.{Station}
use Rattle.station.specs.Feeding.{message_in, feeding_of}
use Rattle.station.proofs.Kept.{code_below, refused_leaves}
use Rattle.station.proofs.Valid.{each_way, feeding_waiting}
use Rattle.cutting.specs.Cutting.{cutting_of}
use Rattle.cutting.proofs.Ways.{each_cut}
use Rattle.packets.specs.Forms.{whole_of}
use Rattle.demands.specs.Refused.{NakOnly, FeedsNothing, CutsNothing, HearsNothing, WaitsForTheEnd, naks_at64}

-- a message that is refused is answered with NAK and leaves every setting
refused_reply : (s : Settings) (m : Message) → 10 ≤ code_of s m → reply_of s m ≡ nak
refused_reply s m r = rw (reply_by_code s m, ne_eqb (code_of s m) 1 (λ e. omega arith), ne_eqb (code_of s m) 2 (λ e. omega arith)) refl

refused_kept : (s : Settings) (m : Message) → 10 ≤ code_of s m → settings_after s m ≡ s
refused_kept s m r = refused_leaves s m (λ e. omega arith)

-- ---- feeding

pub nak_and_nothing_else : (s : Station) (host : List ℕ) (room : ℕ) → NakOnly s host (feeding_of s host room)
nak_and_nothing_else s host room =
    each_way (NakOnly s host) s host room (λ v low high. absurd (omega arith)) (λ v low high. absurd (omega arith))
    (λ v f low high. absurd (omega arith))
    (λ v f enough low high.
    let m = message_in (call_takes s.store host).store in
    rw (refused_reply s.settings m low, refused_kept s.settings m low) (refl, refl, refl, refl))

pub fed_refused : (s : Station) (host : List ℕ) (room : ℕ) → FeedsNothing s (feeding_of s host room)
fed_refused s host room =
    each_way (FeedsNothing s) s host room (λ v r. (refl, refl, refl, refl)) (λ v r. (refl, refl, refl, refl))
    (λ v f r. absurd (omega arith))
    (λ v f enough r. absurd (omega (arith, code_below s.settings (message_in (call_takes s.store host).store))))

-- ---- cutting and reading

pub cut_refused : (s : Station) (samples : List ℤ) (room : ℕ) → CutsNothing s (cutting_of s samples room)
cut_refused s samples room = each_cut (CutsNothing s) s samples room (λ e r. absurd (omega arith)) (λ n r. (refl, refl, refl))

pub read_refused : (r : Reader) (packet : List ℕ) → HearsNothing r (reading_of r packet)
unfolding reading_of
read_refused r packet =
    pick_keeps (HearsNothing r) (eqb (reading_code r packet) 1)
    (heard_with r (number_in packet) (whole_of packet)) (unheard (reading_code r packet) r)
    (λ e h. absurd (omega arith)) (λ e h. refl)

-- ---- a message that is not fully taken

pub waits_for_the_end : WaitsForTheEnd feeding_of
waits_for_the_end s host room v less =
    let t = call_takes s.store host in
    let open_still : finished t.store ≡ false = rw (lt-leb (announced t.store.held) t.store.taken less, and-false) refl in
    let is = feeding_waiting s.settings s.store host room v open_still in
    rw is (refl, count_all 0 s.store host (sym (finished_taking 0 s.store host) ∙ open_still) ∙ zero-add (length host), refl)

-- 64 bytes of a set of 65 are not answered yet
pub naks_early_fails : WaitsForTheEnd naks_at64 → ⊥
unfolding valid in_range could_be_left taking word_of
naks_early_fails waits =
    let wrong : ◌≡◌ {A = ℕ} 10 0 = (waits (fresh_station (replicate 8 0x30)) (0x41 ∷ 0x00 ∷ replicate 62 0x00) 64 refl (lit≤ tt)).0 in
    omega arith
