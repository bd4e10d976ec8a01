-- Eight bytes are two words.
use Rattle.std.proofs.Common.{◌≡◌, eqb, leb, eqb-true, arith}
use borrow.Author.Tests.{leb-true}
use Rattle.wire.proofs.Laws.{and_left, and_right}
use Rattle.wire.proofs.Words.{field_eight}
use Rattle.wire.proofs.number.number_at.Goals as goal

pub returns-then-n-room : goal.returns-then-n-room
returns-then-n-room c =
    let a = c.args in
    let room = c.saturating_sub-room.result in
    let n : a.n ≡ 8 = eqb-true a.n 8 (and_left (eqb a.n 8) (leb 8 room) c.if-n-room.true) in
    let there = leb-true 8 room (and_right (eqb a.n 8) (leb 8 room) c.if-n-room.true) in
    rw (n, c.word_at.ensures.0, c.word_at-then-n-room.ensures.0) (field_eight a.s.now a.at (omega (arith, there)))
