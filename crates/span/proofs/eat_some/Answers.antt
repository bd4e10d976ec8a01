-- The lines lie within the lent bytes, and the part that is written is the span's lines.
use Rattle.std.proofs.Common.{sym}
use Rattle.std.proofs.Math.Seq.{length-take-le}
use Rattle.spans.proofs.Eats.{is_ok}
use Rattle.span.proofs.Lines.{lines_of_piece}
use Rattle.span.proofs.eat_some.Goals as goal

pub unwrap-eaten-requires : goal.unwrap-eaten-requires
unwrap-eaten-requires c = is_ok _ _ _ (rw c.requires.0 at c.eat.ensures.0) c.requires.1

pub slice_bounds-write_lines-end : goal.slice_bounds-write_lines-end
slice_bounds-write_lines-end c =
    let did = rw (c.unwrap-eaten.ensures, c.requires.0) at c.eat.ensures in
    (lines_of_piece _ _ _ _ _ c.requires.0 did.0 did.1).inside

pub slice_bounds-write_lines-end-2 : goal.slice_bounds-write_lines-end-2
slice_bounds-write_lines-end-2 c =
    let did = rw (c.unwrap-eaten.ensures, c.requires.0) at c.eat.ensures in
    sym (length-take-le _ _ (lines_of_piece _ _ _ _ _ c.requires.0 did.0 did.1).inside)

pub write_lines-requires : goal.write_lines-requires
write_lines-requires c =
    let did = rw (c.unwrap-eaten.ensures, c.requires.0) at c.eat.ensures in
    (lines_of_piece _ _ _ _ _ c.requires.0 did.0 did.1).bytes

pub returns-clause-eaten_value : goal.returns-clause-eaten_value
returns-clause-eaten_value c = (rw (c.unwrap-eaten.ensures, c.requires.0) at c.eat.ensures).0
