-- What the end writes is the span's last lines.
use Rattle.std.proofs.Common.{sym, refl}
use Rattle.std.proofs.Math.Seq.{length-take-le}
use Rattle.span.proofs.Lines.{lines_of_end, end_wrote}
use Rattle.span.proofs.finish.Goals as goal

pub slice_bounds-out-end : goal.slice_bounds-out-end
slice_bounds-out-end c =
    rw (c.unwrap_or-wrote.ensures, c.unwrap_or.ensures, end_wrote c.finish-told.result)
    (lines_of_end _ _ _ _ refl c.finish-told.ensures.0 c.finish-told.ensures.1).inside

pub slice_bounds-write_last-end : goal.slice_bounds-write_last-end
slice_bounds-write_last-end c =
    rw (c.unwrap_or-wrote.ensures, c.unwrap_or.ensures, end_wrote c.finish-told.result)
    (sym (length-take-le _ _ (lines_of_end _ _ _ _ refl c.finish-told.ensures.0 c.finish-told.ensures.1).inside))

pub write_last-requires : goal.write_last-requires
write_last-requires c =
    let lines = (lines_of_end _ _ _ _ refl c.finish-told.ensures.0 c.finish-told.ensures.1).bytes in (
      c.requires.0,
      c.requires.1,
      rw (c.unwrap_or-wrote.ensures, c.unwrap_or.ensures, end_wrote c.finish-told.result) lines,
    )
