-- Each return has the code of the tests that led there.
use Rattle.std.proofs.Common.{ℕ, ◌<◌, sym, get_or, arith}
use mathlib.Core.Path.{◌∙◌}
use Rattle.heads.proofs.Opening.{too_short, no_mark, marked, version_is, neither, first_reads}
use Rattle.heads.proofs.reading.read_head.Goals as goal

pub returns-then-s-lt-SHORTEST : goal.returns-then-s-lt-SHORTEST
returns-then-s-lt-SHORTEST c = too_short _ c.if-s-lt-SHORTEST.true

pub returns-then-w-ne-MARK : goal.returns-then-w-ne-MARK
returns-then-w-ne-MARK c =
    let small : (k : ℕ) → get_or c.args.s.now k 0 < 256 = λ k. omega (arith, c.type_inv.s k) in
    no_mark _ c.if-s-lt-SHORTEST.false small c.of-w.ensures.low c.of-w.ensures.high c.if-w-ne-MARK.true

pub read_second-requires : goal.read_second-requires
read_second-requires c =
    let small : (k : ℕ) → get_or c.args.s.now k 0 < 256 = λ k. omega (arith, c.type_inv.s k) in
    let long = c.if-s-lt-SHORTEST.false in
    let w = c.of-w.ensures in
    let mark = marked _ long small w.low w.high c.if-w-ne-MARK.false in
    let version = version_is _ long small w.low w.high mark c.head-h.ensures in
    (long, w.low, w.high, mark, sym version ∙ c.if-h-eq2.true)

pub returns-then-h-ne1 : goal.returns-then-h-ne1
returns-then-h-ne1 c =
    let small : (k : ℕ) → get_or c.args.s.now k 0 < 256 = λ k. omega (arith, c.type_inv.s k) in
    let long = c.if-s-lt-SHORTEST.false in
    let w = c.of-w.ensures in
    let mark = marked _ long small w.low w.high c.if-w-ne-MARK.false in
    neither _ long small w.low w.high mark c.head-h.ensures c.if-h-eq2.false c.if-h-ne1.true

pub returns-then-not-first_allowed : goal.returns-then-not-first_allowed
returns-then-not-first_allowed c =
    let small : (k : ℕ) → get_or c.args.s.now k 0 < 256 = λ k. omega (arith, c.type_inv.s k) in
    let long = c.if-s-lt-SHORTEST.false in
    let w = c.of-w.ensures in
    first_reads _ long small w.low w.high (marked _ long small w.low w.high c.if-w-ne-MARK.false) c.head-h.ensures c.if-h-ne1.false
    (sym c.first_allowed.ensures ∙ c.if-not-first_allowed.true)

pub returns : goal.returns
returns c =
    let small : (k : ℕ) → get_or c.args.s.now k 0 < 256 = λ k. omega (arith, c.type_inv.s k) in
    let long = c.if-s-lt-SHORTEST.false in
    let w = c.of-w.ensures in
    first_reads _ long small w.low w.high (marked _ long small w.low w.high c.if-w-ne-MARK.false) c.head-h.ensures c.if-h-ne1.false
    (sym c.first_allowed.ensures ∙ c.if-not-first_allowed.false)
