-- Each return has the code of the tests that led there.
use Rattle.std.proofs.Common.{ℕ, ◌<◌, sym, get_or, arith}
use Rattle.heads.proofs.Opening.{cut_short, second_reads}
use Rattle.heads.proofs.reading.read_second.Goals as goal

pub returns-then-s-lt-LONGEST : goal.returns-then-s-lt-LONGEST
returns-then-s-lt-LONGEST c =
    let small : (k : ℕ) → get_or c.args.s.now k 0 < 256 = λ k. omega (arith, c.type_inv.s k) in
    cut_short _ c.requires.0 small c.requires.1 c.requires.2 c.requires.3 c.requires.4 c.if-s-lt-LONGEST.true

pub returns-then-not-fine : goal.returns-then-not-fine
returns-then-not-fine c =
    let small : (k : ℕ) → get_or c.args.s.now k 0 < 256 = λ k. omega (arith, c.type_inv.s k) in
    let p = c.requires in
    let n = c.of-n.ensures in
    let reads = second_reads _ p.0 small p.1 p.2 p.3 c.head-h.ensures n.serial n.clock p.4 c.if-s-lt-LONGEST.false
    (sym c.first_allowed.ensures) (sym c.names_well.ensures) in
    rw c.if-not-fine.true at reads

pub returns : goal.returns
returns c =
    let small : (k : ℕ) → get_or c.args.s.now k 0 < 256 = λ k. omega (arith, c.type_inv.s k) in
    let p = c.requires in
    let n = c.of-n.ensures in
    let reads = second_reads _ p.0 small p.1 p.2 p.3 c.head-h.ensures n.serial n.clock p.4 c.if-s-lt-LONGEST.false
    (sym c.first_allowed.ensures) (sym c.names_well.ensures) in
    rw c.if-not-fine.false at reads
