-- What the functions inside promise each other: the lines of a call as they are handed on to be written. Eats in proofs/
-- ties it to Eating.
use Rattle.std.specs.Prelude.{true, false, Option}
use Rattle.heads.specs.declared.Head.{Head}
use Rattle.heads.specs.Head.{nominal, each_in}
use Rattle.hearing.specs.declared.Stop.{Stop}
use Rattle.hearing.specs.declared.Tally.{Tally}
use Rattle.hearing.specs.Hearing.{Reach, stop_told}
use Rattle.lines.specs.declared.Due.{Due}
use Rattle.lines.specs.declared.Ending.{Ending}

-- the opening line, and what comes behind it; no capture has ended
abbrev pub due_first : Option Ending → Due
due_first ending =
    record {
      opening = true;
      capture = 0;
      bits = 0;
      pairs = 0;
      divisor = 0;
      clock = nominal;
      heard = 0;
      position = 0;
      ending = ending;
    }

-- the open capture's line, and what comes behind it
abbrev pub due_now : Head → Tally → Option Ending → Due
due_now h t ending =
    record {
      opening = false;
      capture = t.captures;
      bits = (each_in h).bits;
      pairs = (each_in h).pairs;
      divisor = h.divisor;
      clock = h.clock;
      heard = t.heard;
      position = t.position;
      ending = ending;
    }

-- where hearing stopped with a tally, as the lines see it: they do not tell how many bytes it took
abbrev pub stopped_at : Stop → Tally → Reach
stopped_at stop t = record { at = 0; code = stop_told stop; tally = t }
