-- Unpacking by its checks: what is no packet is 30, a packet without room is 20, and otherwise `samples` writes it.
use Prim.Native.Nat.{ℕ, ◌≤◌, ◌<◌}
use mathlib.Core.Path.{◌≡◌, sym, ap, ◌∙◌}
use mathlib.Core.Bool.{Bool, true, false, ◌&&◌}
use mathlib.Core.List.{List, []}
use native.Mathlib.Nat.{le_of_eq}
use borrow.Author.Tests.{leb-true, leb-false, le-leb, lt-ltb, le-ltb}
use lib.Dec.{leb}
use lib.ListN.{length}
use Rattle.wire.proofs.Laws.{and_both}
use Rattle.packets.specs.Forms.{listed_form, whole_of, is_packet, total_of}
use Rattle.packets.proofs.Forms.{packet_is}
use Rattle.samples.specs.Packing.{may_unpack, unpacked_of as written_of}
use Rattle.reader.specs.Reading.{unpack_code, unpacking_of, numbers_written, sample_count_in}

module _ (p : List ℕ) (room : ℕ) where
  module _ (none : is_packet p ≡ false) where
    pub unpack_none : record { code = 30; count = 0 } ≡ unpacking_of p room
    unfolding unpacking_of unpack_code
    unpack_none = rw none

    pub writes_none : [] ≡ numbers_written p room
    unfolding numbers_written unpack_code
    writes_none = rw none

  module _ (packet : is_packet p ≡ true) where
    -- a whole packet is long enough, so only the room counts
    by_room : may_unpack (whole_of p) (length p) room ≡ leb (sample_count_in p) room
    by_room =
        let w = packet_is p packet in
        let long : total_of (whole_of p) ≤ length p = le_of_eq (sym w.long) in
        ap (λ (t : Bool). t && leb (sample_count_in p) room)
        (and_both (listed_form (whole_of p)) (leb (total_of (whole_of p)) (length p)) w.form (le-leb (total_of (whole_of p)) (length p) long))

    module _ (short : may_unpack (whole_of p) (length p) room ≡ false) where
      too_short : room < sample_count_in p
      too_short = leb-false (sample_count_in p) room (sym by_room ∙ short)

      pub unpack_short : record { code = 20; count = 0 } ≡ unpacking_of p room
      unfolding unpacking_of unpack_code
      unpack_short = rw (packet, lt-ltb room (sample_count_in p) too_short)

      pub writes_short : written_of (whole_of p) p room ≡ numbers_written p room
      unfolding numbers_written unpack_code
      writes_short = rw (short, packet, lt-ltb room (sample_count_in p) too_short)

    module _ (fits : may_unpack (whole_of p) (length p) room ≡ true) where
      enough : sample_count_in p ≤ room
      enough = leb-true (sample_count_in p) room (sym by_room ∙ fits)

      pub unpack_all : record { code = 1; count = sample_count_in p } ≡ unpacking_of p room
      unfolding unpacking_of unpack_code
      unpack_all = rw (packet, le-ltb room (sample_count_in p) enough)

      pub writes_all : written_of (whole_of p) p room ≡ numbers_written p room
      unfolding numbers_written unpack_code
      writes_all = rw (fits, packet, le-ltb room (sample_count_in p) enough)
