-- A run of packets, cut one after another from a run of samples.
use Rattle.std.specs.Prelude.{ℕ, zero, suc, ◌+◌, ◌-◌, ◌/◌, min, true, List, eqb, ℤ, length, take, drop}
use Rattle.std.proofs.lemmas.List.Edits.{sets}
use Rattle.wire.specs.Choice.{pick}
use Rattle.wire.specs.Codes as Code
use Rattle.framing.specs.Framing.{between}
use Rattle.items.specs.Settings.{fresh_of, with_running, with_mode, with_size, with_setup}
use Rattle.station.specs.declared.Station.{Station}
use Rattle.station.specs.Station.{session_serial}
use Rattle.cutting.specs.Cutting.{cutting_of}

-- a fresh box that was started with a mode, a size and a channel setup; with others than the table's it is broken
abbrev pub started : ℕ → ℕ → ℕ → Station
started mode size setup =
    record { settings = with_setup setup (with_size size (with_mode mode (with_running true (fresh_of session_serial)))); store = between }

-- how many packets were cut, and the lent bytes with them in
pub record Ran : Type 0 where
  pub count : ℕ
  pub out : List ℕ

abbrev pub ran : ℕ → List ℕ → Ran
ran count out = record { count = count; out = out }

-- So many samples to a packet of so many bytes, each behind the one before; the first refusal ends it.
unfoldable pub cut_on : ℕ → ℕ → ℕ → Station → List ℤ → ℕ → ℕ → List ℕ → Ran
cut_on zero n total s samples count at out = ran count out
cut_on (suc left) n total s samples count at out =
    pick (eqb (cutting_of s (take n samples) (length out - at)).cut.code Code.done)
    (cut_on left n total (cutting_of s (take n samples) (length out - at)).cut.station (drop n samples) (count + 1) (at + total)
    (sets out at (cutting_of s (take n samples) (length out - at)).bytes))
    (ran count out)

-- as many as there are samples and room for
unfoldable pub cut_run : Station → ℕ → ℕ → List ℤ → List ℕ → Ran
cut_run box n total samples out =
    pick (eqb n 0) (ran 0 out)
    (pick (eqb total 0) (ran 0 out)
    (cut_on (min (length samples / n) (length out / total)) n total box samples 0 0 out))
