-- Readers that are to be rejected: "a reader that always says 0, or never moves (demand 3); a reader right for one turn only
-- (demand 3, position 65,536)"; readers that miscount what was lost (request No. 1 of document 02); and one that knows of one channel
-- only (No. 7). Each is told by the positions that it gives, or by what it says was lost, whatever else it answers or keeps.
use Rattle.std.specs.Prelude.{ℕ, ◌*◌, List, ◌≡◌, eqb}
use Rattle.wire.specs.Choice.{pick}
use Rattle.wire.specs.Codes as Code
use Rattle.packets.specs.Forms.{whole_of}
use Rattle.packets.specs.Numbers.{number_at, number_in, step_of}
use Rattle.reader.specs.declared.Reader.{Reader}
use Rattle.reader.specs.Reading.{heard_at, reading_of}
use Rattle.positions.specs.Losses.{WayToRead}
use Rattle.positions.specs.Lost.{Loss}

-- the position that it gives a packet is a rule's, by the position that it holds and the number that stands in the packet
abbrev pub PositionsBy : (ℕ → ℕ → ℕ) → WayToRead → Type 0
PositionsBy rule read = (r : Reader) (packet : List ℕ) → (read r packet).position ≡ rule r.position (number_in packet)

abbrev pub always_zero : ℕ → ℕ → ℕ
always_zero held number = 0

abbrev pub never_moving : ℕ → ℕ → ℕ
never_moving held number = held

-- it takes the number for the position, which is right up to position 65,535
abbrev pub one_turn_only : ℕ → ℕ → ℕ
one_turn_only held number = number

-- the reader of a rule, which takes every packet and says that none was missed
abbrev pub read_by : (ℕ → ℕ → ℕ) → WayToRead
read_by rule r packet = heard_at r.channels (rule r.position (number_in packet)) 0 0 (whole_of packet)

-- "how many were missed just before this packet" is a rule's, by the same two, wherever a packet is taken
abbrev pub MissedBy : (ℕ → ℕ → ℕ) → WayToRead → Type 0
MissedBy rule read =
    (r : Reader) (packet : List ℕ) → (read r packet).code ≡ Code.done
    → (read r packet).missed ≡ rule r.position (number_in packet)

-- not "step less one", but the step: one too many for every packet but the start
abbrev pub step_for_missed : ℕ → ℕ → ℕ
step_for_missed held number = pick (eqb number 0) 0 (step_of (number_at held) number)

-- not "the capture's total", but what was missed just before this packet
abbrev pub TotalOfOne : WayToRead → Type 0
TotalOfOne read =
    (r : Reader) (packet : List ℕ) → (read r packet).code ≡ Code.done → (read r packet).total ≡ (read r packet).missed

-- the harvester, but for what it says was lost
abbrev pub saying_lost : (Reader → List ℕ → Loss) → WayToRead
saying_lost says r packet =
    record {
      code = (reading_of r packet).code;
      position = (reading_of r packet).position;
      sample = (reading_of r packet).sample;
      missed = (says r packet).before;
      total = (says r packet).in_all;
      reader = (reading_of r packet).reader;
    }

-- but for what it says was missed, by a rule
abbrev pub missing_by : (ℕ → ℕ → ℕ) → WayToRead
missing_by rule =
    saying_lost (λ r packet. record { before = rule r.position (number_in packet); in_all = (reading_of r packet).total })

-- but for its total, which is of one packet
abbrev pub totalling_one : WayToRead
totalling_one = saying_lost (λ r packet. record { before = (reading_of r packet).missed; in_all = (reading_of r packet).missed })

-- not the pairs of each channel, but all of the packet
abbrev pub SamplesByAllPairs : WayToRead → Type 0
SamplesByAllPairs read =
    (r : Reader) (packet : List ℕ) → (read r packet).code ≡ Code.done
    → (read r packet).sample ≡ (read r packet).position * (whole_of packet).pairs

-- the harvester, but for the sample position, which goes by all pairs
abbrev pub by_all_pairs : WayToRead
by_all_pairs r packet =
    record {
      code = (reading_of r packet).code;
      position = (reading_of r packet).position;
      sample = (reading_of r packet).position * (whole_of packet).pairs;
      missed = (reading_of r packet).missed;
      total = (reading_of r packet).total;
      reader = (reading_of r packet).reader;
    }
