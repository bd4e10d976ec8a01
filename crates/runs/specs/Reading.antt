-- A run of packets, read one after another.
use Rattle.std.specs.Prelude.{ℕ, zero, suc, ◌/◌, List, eqb, length, take, drop}
use Rattle.wire.specs.Choice.{pick}
use Rattle.wire.specs.Codes as Code
use Rattle.reader.specs.declared.Reader.{Reader}
use Rattle.reader.specs.Reading.{silent, reading_of}

-- of the last packet heard: the position of its first sample, and the total of packets missed in its capture up to it; 0 and 0
-- where none was heard
pub record RunRead : Type 0 where
  pub sample : ℕ
  pub total : ℕ

abbrev pub run_read : ℕ → ℕ → RunRead
run_read sample total = record { sample = sample; total = total }

-- Packets of so many bytes, read one after another: what an accepted packet answers takes the place of what the one before
-- did, and the first refusal ends it.
unfoldable pub heard_run : ℕ → ℕ → Reader → RunRead → List ℕ → RunRead
heard_run zero each r said rest = said
heard_run (suc left) each r said rest =
    pick (eqb (reading_of r (take each rest)).code Code.done)
    (heard_run left each (reading_of r (take each rest)).reader
    (run_read (reading_of r (take each rest)).sample (reading_of r (take each rest)).total) (drop each rest))
    said

-- by a new reader of so many channels; of packets of no bytes none is heard
abbrev pub read_run : ℕ → ℕ → List ℕ → RunRead
read_run channels each packets =
    pick (eqb each 0) (run_read 0 0) (heard_run (length packets / each) each (silent channels) (run_read 0 0) packets)
