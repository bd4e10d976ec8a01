-- The four stores are those of `sets`.
use Rattle.wire.proofs.Words.{word_put}
use Rattle.samples.proofs.packing.put_word.Goals as goal

pub returns : goal.returns
returns c = word_put c.args.dst.now c.args.at c.args.v
