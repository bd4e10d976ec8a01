-- The part has the sample bytes; past its end there is none.
use mathlib.Core.Path.{sym, ap}
use lib.ListN.{length, get_or-eq_default}
use borrow.Author.Rules.{rules}
use Rattle.harvestdoor.proofs.reading.skvornela_sample_byte.Statement.{statement}
use Rattle.harvestdoor.proofs.reading.skvornela_sample_byte.Tie as tie

sample-bytes-requires : tie.Need-sample_bytes-part-requires
sample-bytes-requires c κs = search rules

shared-slice-read-byte : tie.Need-bounds-part-place
shared-slice-read-byte c = search rules

returns : tie.Need-returns-then-place-part
returns c =
    let part = c.sample_bytes-part in
    (ap length part.ensures, rw part.ensures)

returns-2 : tie.Need-returns
returns-2 c =
    let part = c.sample_bytes-part in
    (ap length part.ensures, rw (← part.ensures) (sym (get_or-eq_default part.result.now 0 c.if-place-part.false)))

pub skvornela_sample_byte_spec : {M : Type 1} → statement M
skvornela_sample_byte_spec =
    tie.close (tie.spec sample-bytes-requires shared-slice-read-byte returns returns-2)
