-- Document 01's starred examples, and 02's, hold of the definitions, all of them by one computation over the table.
-- Assumes nothing.
use lib.Dec.{T}
use Rattle.rates.specs.Rate.{rate_of, nearest_up_to}
use Rattle.tuning.specs.Word.{word_of}
use Rattle.framing.specs.Framing.{taking, could_be_left}
use Rattle.items.specs.Settings.{in_range}
use Rattle.items.specs.Items.{listed_item, row_of}
use Rattle.items.specs.Answer.{code_of, reply_of, settings_after}
use Rattle.station.specs.Station.{valid}
use Rattle.station.specs.Feeding.{feeding_of}
use Rattle.demands.specs.Starred.{starred, all_hold}

pub starred_hold : T (all_hold starred)
unfolding feeding_of valid in_range could_be_left taking listed_item row_of code_of reply_of settings_after rate_of nearest_up_to word_of
starred_hold = tt
