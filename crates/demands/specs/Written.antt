-- Demand 1, and the third column of "What comes back": what a call of the box writes is what the table has beside its code, and
-- the call says how many bytes these are. The writers outside the box are defined by the table itself: `bytes_written` of a
-- wish, `written_bytes` of a head, `numbers_written` a packet.
use Rattle.std.specs.Prelude.{ℕ, ◌≡◌, List, ℤ, length}
use Rattle.wire.specs.Codes.{box_writes}
use Rattle.items.specs.Answer.{reply_due}
use Rattle.framing.specs.Framing.{call_takes}
use Rattle.station.specs.declared.Station.{Station}
use Rattle.station.specs.Feeding.{message_in, feeding_of}
use Rattle.cutting.specs.Cutting.{packet_of, form_now, cutting_of}

-- feeding: a reply to the message that the call finishes
pub record FeedsByTheTable (s : Station) (host : List ℕ) (room : ℕ) : Type 0 where
  pub bytes :
      (feeding_of s host room).bytes
      ≡ box_writes (feeding_of s host room).fed.code (reply_due s.settings (message_in (call_takes s.store host).store))
  pub wrote : (feeding_of s host room).fed.wrote ≡ length (feeding_of s host room).bytes

-- cutting: the packet at the position that the count gives
pub record CutsByTheTable (s : Station) (samples : List ℤ) (room : ℕ) : Type 0 where
  pub bytes :
      (cutting_of s samples room).bytes
      ≡ box_writes (cutting_of s samples room).cut.code (packet_of (form_now s.settings) s.settings.count samples)
  pub wrote : (cutting_of s samples room).cut.wrote ≡ length (cutting_of s samples room).bytes
