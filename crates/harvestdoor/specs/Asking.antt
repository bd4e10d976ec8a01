-- Wishes and replies, over the door: a wish is its number in `each_wish` (wishes/specs/Wishes), and the fields of every case.
use Rattle.std.specs.Prelude.{ℕ, List, eqb, ℤ, pos, negsuc, length, get_or}
use Rattle.wire.specs.Choice.{pick}
use Rattle.wire.specs.Codes as Code
use Rattle.items.specs.Items.{gain}
use Rattle.replies.specs.Reading.{ReplyAnswer}
use Rattle.wishes.specs.declared.Wish.{Wish}
use Rattle.wishes.specs.declared.Wish.TheVariants.{AskVersion}
use Rattle.wishes.specs.Wishes.{each_wish}

-- a wish that no box grants, in the place of a number that names none
abbrev pub no_wish : Wish
no_wish = AskVersion 255

-- the wishes in the table's order, with these fields
unfoldable pub wish_table : ℕ → ℕ → ℤ → ℕ → ℕ → ℕ → List Wish
wish_table byte mode gain word hertz channel =
    each_wish
    (record {
      id = byte;
      state = record { run = byte; mode = mode };
      setup = byte;
      channel = channel;
      frequency = hertz;
      gain = gain;
      clock = word;
      rate = word;
      size = byte;
    })

abbrev pub wish_of : ℕ → ℕ → ℕ → ℤ → ℕ → ℕ → ℕ → Wish
wish_of which byte mode gain word hertz channel = get_or (wish_table byte mode gain word hertz channel) which no_wish

-- What a reply says, as numbers: the code, the item's code, how many values there are, the first two of them, and a gain,
-- which is signed, in a place of its own. Where there is none of these, 0.
pub record Shown : Type 0 where
  pub code : ℕ
  pub item : ℕ
  pub count : ℕ
  pub first : ℕ
  pub second : ℕ
  pub gain : ℤ

abbrev pub gain_item : ℕ
gain_item = gain.code

abbrev pub natural : ℤ → ℕ
natural (pos n) = n
natural (negsuc n) = 0

abbrev pub as_shown : ℕ → ℕ → ℕ → ℕ → ℕ → ℤ → Shown
as_shown code item count first second gain =
    record { code = code; item = item; count = count; first = first; second = second; gain = gain }

-- a reply of so many values, of which none is signed, and a refusal
abbrev pub said_of : ℕ → ℕ → ℕ → ℕ → Shown
said_of item count first second = as_shown Code.done item count first second (pos 0)

abbrev pub refused_by : ℕ → Shown
refused_by code = as_shown code 0 0 0 0 (pos 0)

unfoldable pub shown : ReplyAnswer → Shown
shown t =
    record {
      code = t.code;
      item = t.item;
      count = length t.values;
      first = pick (eqb t.item gain_item) 0 (natural (get_or t.values 0 (pos 0)));
      second = natural (get_or t.values 1 (pos 0));
      gain = pick (eqb t.item gain_item) (get_or t.values 0 (pos 0)) (pos 0);
    }
