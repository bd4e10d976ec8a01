-- A fresh box is valid, and nothing has been read.
use Rattle.std.proofs.Common.{arith}
use Rattle.session.proofs.Reaching.{none_read}
use Rattle.session.proofs.main.Goals as goal

pub take_all-requires : goal.take_all-requires
take_all-requires c = (rw c.session_box.ensures none_read, omega arith)
