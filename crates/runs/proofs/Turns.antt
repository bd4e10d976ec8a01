-- The turns of a run: what is left to do gives the whole.
use Prim.Native.Nat.{ℕ, zero, suc, ◌+◌, ◌-◌, ◌*◌, ◌≤◌, ◌<◌}
use mathlib.Core.Path.{◌≡◌}
use mathlib.Core.Bool.{true, false}
use mathlib.Core.List.{List}
use native.Mathlib.Nat.{lt_irrefl, suc-mul}
use native.Mathlib.Omega.{arith}
use borrow.Author.Tests.{eq-eqb, ne_eqb}
use lib.Dec.{eqb}
use lib.ListN.{take, drop}
use lib.Seq.{drop-drop}
use Rattle.reader.specs.Answers.{Heard}
use Rattle.reader.specs.declared.Reader.{Reader}
use Rattle.reader.specs.Reading.{reading_of}
use Rattle.runs.specs.Reading.{RunRead, run_read, heard_run}

-- One turn of a run: the packet is heard, and the rest is read on from it.
pub run_heard : (left each at : ℕ) (r : Reader) (said : RunRead) (packets : List ℕ) (h : Heard) {w : RunRead} → 0 < left
    → h ≡ reading_of r (take each (drop at packets)) → h.code ≡ 1 → heard_run left each r said (drop at packets) ≡ w
    → heard_run (left - 1) each h.reader (run_read h.sample h.total) (drop (at + each) packets) ≡ w
unfolding heard_run
run_heard zero each at r said packets h none is good so = absurd (lt_irrefl 0 none)
run_heard (suc left) each at r said packets h some is good so =
    let heard : eqb (reading_of r (take each (drop at packets))).code 1 ≡ true = rw (← is) (eq-eqb h.code 1 good) in
    let down : suc left - 1 ≡ left = omega arith in
    rw (down, is, ← drop-drop each at packets) (rw heard at so)

-- the packet is refused, which ends the run
pub run_refused : (left each at : ℕ) (r : Reader) (said : RunRead) (packets : List ℕ) (h : Heard) {w : RunRead} → 0 < left
    → h ≡ reading_of r (take each (drop at packets)) → (h.code ≡ 1 → ⊥) → heard_run left each r said (drop at packets) ≡ w → said ≡ w
unfolding heard_run
run_refused zero each at r said packets h none is bad so = absurd (lt_irrefl 0 none)
run_refused (suc left) each at r said packets h some is bad so =
    let refused : eqb (reading_of r (take each (drop at packets))).code 1 ≡ false = rw (← is) (ne_eqb h.code 1 bad) in
    rw refused at so

-- nothing is left
pub run_over : (left each : ℕ) (r : Reader) (said : RunRead) (rest : List ℕ) {w : RunRead} → left ≤ 0
    → heard_run left each r said rest ≡ w → said ≡ w
unfolding heard_run
run_over zero each r said rest over so = so
run_over (suc left) each r said rest over so = absurd (omega arith)

-- a count of packets and one more
pub one_more : (left each : ℕ) → 0 < left → left * each ≡ (left - 1) * each + each
one_more zero each none = absurd (lt_irrefl 0 none)
one_more (suc left) each some =
    let down : suc left - 1 ≡ left = omega arith in
    rw down (suc-mul left each)
