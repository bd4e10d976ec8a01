-- What hearing answers says all: its code says whether it refuses, and what it tells then, or tells of what it heard, is said once.
use Rattle.std.proofs.Common.{ℕ, ◌≡◌, refl, sym, ap, ◌∙◌, List, Option, Some, None, Result, Ok, Err, arith}
use Rattle.wire.specs.declared.refusal.Refusal.{Refusal}
use Rattle.wire.specs.Refusal.{code_of}
use Rattle.wire.proofs.Firm.{OneEach}
use Rattle.wire.proofs.Refusals.{number_one, done_no_refusal}
use Rattle.packets.specs.declared.Form.{Form}
use Rattle.hearing.specs.declared.Tally.{Tally}
use Rattle.hearing.specs.declared.Stop.{Stop}
use Rattle.hearing.specs.declared.Stop.TheVariants.{CaptureEnds, Refused}
use Rattle.hearing.specs.declared.Reach as Reached
use Rattle.hearing.specs.declared.Outcome as Came
use Rattle.hearing.specs.Hearing.{Reach, Outcome, stop_told, stops_told, reach_told, hearing_told, hearing_of, hearing_code}
use Rattle.hearing.proofs.Stops.{stop_some}

stop_one : OneEach stop_told
stop_one CaptureEnds CaptureEnds e = refl
stop_one CaptureEnds (Refused r) e = done_no_refusal r e
stop_one (Refused r) CaptureEnds e = done_no_refusal r (sym e)
stop_one (Refused r) (Refused q) e = ap Refused (number_one r q e)

stops_one : OneEach stops_told
stops_one None None e = refl
stops_one None (Some s) e = absurd (omega (arith, stop_some s, e))
stops_one (Some s) None e = absurd (omega (arith, stop_some s, e))
stops_one (Some s) (Some z) e = ap Some (stop_one s z e)

pub reach_one : OneEach reach_told
reach_one a b e =
    ap (λ (n : ℕ). record { at = n; stop = a.stop; tally = a.tally }) (ap (λ (r : Reach). r.at) e)
    ∙ ap (λ (z : Option Stop). record { at = b.at; stop = z; tally = a.tally }) (stops_one a.stop b.stop (ap (λ (r : Reach). r.code) e))
    ∙ ap (λ (t : Tally). record { at = b.at; stop = b.stop; tally = t }) (ap (λ (r : Reach). r.tally) e)

-- so the promise of hearing allows one answer
pub hear_one : (f : Form) (t : Tally) (piece : List ℕ) (a b : Result Came.Outcome Refusal)
    → hearing_told t a ≡ hearing_of f t piece → code_of a ≡ hearing_code f t
    → hearing_told t b ≡ hearing_of f t piece → code_of b ≡ hearing_code f t → a ≡ b
hear_one f t piece (Ok a) (Ok b) p k q l =
    let e : hearing_told t (Ok a) ≡ hearing_told t (Ok b) = p ∙ sym q in
    let reach = reach_one a.reach b.reach (ap (λ (o : Outcome). o.reach) e) in
    ap Ok
    (ap (λ (r : Reached.Reach). record { reach = r; next = a.next }) reach
    ∙ ap (λ (n : Tally). record { reach = b.reach; next = n }) (ap (λ (o : Outcome). o.next) e))
hear_one f t piece (Ok a) (Err r) p k q l = done_no_refusal r (k ∙ sym l)
hear_one f t piece (Err r) (Ok b) p k q l = done_no_refusal r (l ∙ sym k)
hear_one f t piece (Err r) (Err z) p k q l = ap Err (number_one r z (k ∙ sym l))
