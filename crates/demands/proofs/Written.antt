-- The third column of "What comes back": what the box writes with each code.
-- Assumes nothing.
use Prim.Native.Nat.{ℕ}
use mathlib.Core.Path.{◌≡◌, refl, sym}
use mathlib.Core.List.{List, []}
use lib.IntN.{ℤ}
use lib.ListN.{length}
use Rattle.wire.specs.Codes.{box_writes}
use Rattle.wire.specs.Codes as Code
use Rattle.wire.proofs.Checks.{given_has}
use Rattle.items.specs.Answer.{Message, reply_due, reply_of}
use Rattle.framing.specs.Framing.{call_takes}
use Rattle.station.specs.declared.Station.{Station}
use Rattle.station.specs.Feeding.{Feeding, message_in}
use Rattle.station.proofs.Valid.{each_way}
use Rattle.station.proofs.Calls.{feeding_within}
use Rattle.cutting.specs.Cutting.{Cutting, packet_of, cut_checks, cut_code, form_now}
use Rattle.cutting.proofs.Packets.{packet_length}
use Rattle.cutting.proofs.Ways.{each_cut, made}
use Rattle.demands.specs.Written.{FeedsByTheTable, CutsByTheTable}

pub feeds_by_the_table : (s : Station) (host : List ℕ) (room : ℕ) → FeedsByTheTable s host room
unfolding reply_of
feeds_by_the_table s host room =
    record {
      bytes =
          each_way (λ (f : Feeding). f.bytes ≡ box_writes f.fed.code (reply_due s.settings m)) s host room (λ v. refl) (λ v. refl)
          (λ v f. refl) (λ v f enough. refl);
      wrote = (feeding_within s host room).wrote;
    }
  where
    m : Message
    m = message_in (call_takes s.store host).store

-- a refused cut writes nothing, as the table has it beside each of its codes
refused_cut : (s : Station) (samples : List ℤ) (room : ℕ) (packet : List ℕ) → (cut_code s samples room ≡ 1 → ⊥)
    → [] ≡ box_writes (cut_code s samples room) packet
unfolding cut_code
refused_cut s samples room packet =
    given_has (λ (code : ℕ). (code ≡ 1 → ⊥) → [] ≡ box_writes code packet) (cut_checks s samples room) Code.done
    (λ n. refl, (λ n. refl, (λ n. refl, (λ n. refl, (λ n. refl, (λ n. refl, tt)))))) (λ n. absurd (n refl))

pub cuts_by_the_table : (s : Station) (samples : List ℤ) (room : ℕ) → CutsByTheTable s samples room
cuts_by_the_table s samples room =
    record {
      bytes =
          each_cut (λ (c : Cutting). c.bytes ≡ box_writes c.cut.code packet) s samples room (λ e. refl)
          (refused_cut s samples room packet);
      wrote =
          each_cut (λ (c : Cutting). c.cut.wrote ≡ length c.bytes) s samples room
          (λ e. sym (packet_length (form_now s.settings) s.settings.count samples (made s samples room e).enough)) (λ n. refl);
    }
  where
    packet : List ℕ
    packet = packet_of (form_now s.settings) s.settings.count samples
