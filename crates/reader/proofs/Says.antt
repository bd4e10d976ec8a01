-- No two answers say the same.
use Rattle.std.proofs.Common.{sym, ap, Ok, Err}
use Rattle.wire.proofs.Firm.{OneEach}
use Rattle.wire.proofs.Refusals.{number_one, done_no_refusal}
use Rattle.reader.specs.declared.Reader.{Reader}
use Rattle.reader.specs.declared.Heard.{Heard as Taken}
use Rattle.reader.specs.Answers.{Heard, Unpacked}
use Rattle.reader.specs.Reading.{reading_says, unpacking_says}

taken : Heard → Taken
taken h = record { position = h.position; sample = h.sample; missed = h.missed; total = h.total; reader = h.reader }

pub read_one : (r : Reader) → OneEach (reading_says r)
unfolding taken
read_one r (Ok a) (Ok b) e = ap Ok (ap taken e)
read_one r (Ok a) (Err q) e = done_no_refusal q (ap (λ (h : Heard). h.code) e)
read_one r (Err p) (Ok b) e = done_no_refusal p (sym (ap (λ (h : Heard). h.code) e))
read_one r (Err p) (Err q) e = ap Err (number_one p q (ap (λ (h : Heard). h.code) e))

pub unpack_one : OneEach unpacking_says
unpack_one (Ok m) (Ok n) e = ap Ok (ap (λ (u : Unpacked). u.count) e)
unpack_one (Ok m) (Err q) e = done_no_refusal q (ap (λ (u : Unpacked). u.code) e)
unpack_one (Err p) (Ok n) e = done_no_refusal p (sym (ap (λ (u : Unpacked). u.code) e))
unpack_one (Err p) (Err q) e = ap Err (number_one p q (ap (λ (u : Unpacked). u.code) e))
