-- The first 14 bytes, and serial and clock behind them where the version has these.
use Prim.Native.Nat.{◌≤◌}
use mathlib.Core.Path.{sym, ap}
use native.Mathlib.Omega.{arith}
use lib.ListN.{length}
use lib.Seq.{length-take-le}
use Rattle.heads.specs.Head.{head_length}
use Rattle.heads.proofs.Codes.{by_version, least_long, first_long, stored_old, stored_new}
use borrow.Author.Rules.{rules}
use Rattle.heads.proofs.writing.put_head.Statement.{statement}
use Rattle.heads.proofs.writing.put_head.Tie as tie

roomy : (c : tie.Start) → 14 ≤ length c.args.out.now
roomy c = omega (arith, c.requires.1, least_long c.args.h.version)

slice-relend-prefix-put-first : tie.Need-slice_bounds-put_first-end
slice-relend-prefix-put-first c = roomy c.before

slice-aggregate-put-first : tie.Need-slice_bounds-put_first-end-2
slice-aggregate-put-first c = sym (length-take-le 14 c.args.out.now (roomy c.before.before))

put-first-requires : tie.Need-put_first-requires
put-first-requires c κs = search rules

sub-put-rest : tie.Need-slice_bounds-put_rest-count
sub-put-rest c = search rules

part-put-rest-start : tie.Need-slice_bounds-put_rest-start
part-put-rest-start c = search rules

part-put-rest-end : tie.Need-slice_bounds-put_rest-end
part-put-rest-end c =
    let part = c in
    let start = part in
    let long = first_long start.args.h start.args.out.now part.put_first.ensures (roomy start.before.before.before.before.before.before.before) in
    let more : 26 ≤ length start.args.out.now = omega (arith, start.requires.1, ap head_length c.if-h-eq2.true) in
    omega (arith, long, more)

put-rest-requires : tie.Need-put_rest-requires
put-rest-requires c κs = search rules

same_length : tie.Need-shape_of-out-then-h-eq2
same_length c = search rules

returns : tie.Need-returns-then-h-eq2
returns c =
    let rest = c in
    let new = rest in
    let part = new in
    let start = part in
    let more : 26 ≤ length start.args.out.now = omega (arith, start.requires.1, ap head_length new.if-h-eq2.true) in
    stored_new start.args.h start.args.out.now part.put_first.ensures (roomy start.before.before.before.before.before.before.before.before.before.before.before) new.if-h-eq2.true more
    rest.put_rest.ensures

same-length-2 : tie.Need-shape_of-out-else-h-eq2
same-length-2 c = search rules

returns-2 : tie.Need-returns-else-h-eq2
returns-2 c =
    let part = c in
    let start = part in
    let one = by_version start.args.h.version start.requires.0 (λ e. e) (λ e. absurd (c.if-h-eq2.false e)) in
    stored_old start.args.h start.args.out.now part.put_first.ensures (roomy start.before.before.before.before.before.before.before) one

pub put_head_spec : {M : Type 1} → statement M
put_head_spec =
    tie.close
    (tie.spec
    slice-relend-prefix-put-first
    slice-aggregate-put-first
    put-first-requires
    sub-put-rest
    part-put-rest-start
    part-put-rest-end
    put-rest-requires
    same_length
    returns
    same-length-2
    returns-2)
