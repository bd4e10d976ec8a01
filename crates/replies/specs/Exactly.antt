-- Which replies the reader accepts, by what boxes say: "it accepts NAK for any other, and exactly those further replies
-- that some valid box could give to it".
use Rattle.std.specs.Prelude.{ℕ, ◌≡◌, true, List, ◌⊎◌, ◌↔◌}
use Rattle.wire.specs.Codes as Code
use Rattle.wire.specs.Header.{nak}
use Rattle.items.specs.declared.Settings.{Settings}
use Rattle.items.specs.Settings.{in_range}
use Rattle.items.specs.Answer.{reply_of}
use Rattle.wishes.specs.declared.Wish.{Wish}
use Rattle.wishes.specs.Wishes.{open_wish, allowed_wish, as_message}
use Rattle.replies.specs.Reading.{reply_code, reply_says, reply_reader_says}
use Rattle.replies.specs.Saying.{said_by}

-- some valid box gives these bytes to the wish's message
pub record Given (w : Wish) (bs : List ℕ) : Type 0 where
  pub settings : Settings
  pub valid : in_range settings ≡ true
  pub gives : reply_of settings (as_message w) ≡ bs

-- of a wish that the writer does not refuse, NAK is accepted, what a valid box gives, and nothing else
abbrev pub Exactly : Type 0
Exactly =
    (w : Wish) (bs : List ℕ) → open_wish w ≡ true → allowed_wish w ≡ true
    → (reply_code w bs ≡ Code.done) ↔ ((bs ≡ nak) ⊎ Given w bs)

-- and what a valid box gives is read as what it says
abbrev pub ReadAsSaid : Type 0
ReadAsSaid =
    (w : Wish) (s : Settings) → open_wish w ≡ true → allowed_wish w ≡ true → in_range s ≡ true
    → reply_reader_says w (reply_of s (as_message w)) ≡ reply_says (said_by w s)
