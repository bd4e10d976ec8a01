-- The words of the program head: `D HZ BITS SIZE`, of a head of version 1, and `SERIAL CLOCK` more, of version 2 (02, No. 9). BITS also
-- says how many channels there are (02, No. 7).
use Rattle.std.specs.Prelude.{ℕ, ◌+◌, ◌-◌, ◌*◌, ◌≡◌, Bool, true, ◌&&◌, ◌||◌, not, List, [], ◌∷◌, leb, length}
use Rattle.std.specs.Prelude.{Option, Some, None, Result, Ok, Err}
use Rattle.wire.specs.Choice.{pick, within}
use Rattle.wire.specs.Lists.{same}
use Rattle.wire.specs.Number.{field}
use Rattle.rates.specs.Rate.{is_d}
use Rattle.tuning.specs.Bands.{in_bands}
use Rattle.tuning.specs.Word.{is_clock}
use Rattle.items.specs.Settings.{is_serial}
use Rattle.heads.specs.declared.Head.{Head}
use Rattle.heads.specs.Head.{unknown, nominal, allowed_head}
use Rattle.headwords.specs.declared.BadWord.{BadWord}
use Rattle.headwords.specs.declared.BadWord.TheVariants as Bad

-- ---- words

-- a value where a test holds, and none where it does not
abbrev pub only : {A : Type 0} → Bool → A → Option A
only holds value = pick holds (Some value) None

-- 0 to 9
abbrev pub is_digit : ℕ → Bool
is_digit byte = within 0x30 0x39 byte

abbrev pub all_digits : List ℕ → Bool
all_digits [] = true
all_digits (b ∷ bs) = is_digit b && all_digits bs

-- the number that digits make, behind those that made n
abbrev pub value_behind : ℕ → List ℕ → ℕ
value_behind n [] = n
value_behind n (b ∷ bs) = value_behind (n * 10 + (b - 0x30)) bs

-- at most nine decimal digits
unfoldable pub is_number : List ℕ → Bool
is_number word = leb (length word) 9 && all_digits word

-- their number; any other word counts as 0, which is none of a head's values
unfoldable pub number_of : List ℕ → ℕ
number_of word = pick (is_number word) (value_behind 0 word) 0

-- `24` and `16`, of one channel
abbrev pub word24 : List ℕ
word24 = 0x32 ∷ 0x34 ∷ []

abbrev pub word16 : List ℕ
word16 = 0x31 ∷ 0x36 ∷ []

-- `2x24` and `2x16`, of two
abbrev pub twice24 : List ℕ
twice24 = 0x32 ∷ 0x78 ∷ word24

abbrev pub twice16 : List ℕ
twice16 = 0x32 ∷ 0x78 ∷ word16

abbrev pub bits_word : List ℕ → Bool
bits_word word = (same word word24 || same word word16) || (same word twice24 || same word twice16)

-- the mode byte: 80 or 00 by the bits, and "bit 6 set for two channels"
abbrev pub mode_of : List ℕ → ℕ
mode_of bits =
    pick (same bits word24 || same bits word16) (pick (same bits word24) 0x80 0x00) (pick (same bits twice24) 0xC0 0x40)

-- `large` and `small`: the size byte
abbrev pub large : List ℕ
large = 0x6C ∷ 0x61 ∷ 0x72 ∷ 0x67 ∷ 0x65 ∷ []

abbrev pub small : List ℕ
small = 0x73 ∷ 0x6D ∷ 0x61 ∷ 0x6C ∷ 0x6C ∷ []

abbrev pub size_word : List ℕ → Bool
size_word word = same word large || same word small

abbrev pub size_of : List ℕ → ℕ
size_of size = pick (same size large) 0 1

-- a serial, or `-` where it is not known
abbrev pub dash : List ℕ
dash = 0x2D ∷ []

abbrev pub serial_word : List ℕ → Bool
serial_word word = same word dash || is_serial word

-- the number of its eight bytes
abbrev pub serial_of : List ℕ → ℕ
serial_of word = pick (same word dash) unknown (field 0 8 word)

-- ---- what they come to: the first that is none of those allowed, in the order of the words, or the head

abbrev pub Worded : Type 0
Worded = Result Head BadWord

unfoldable pub plain_of : List ℕ → List ℕ → List ℕ → List ℕ → Worded
plain_of d hz bits size =
    pick (not (is_d (number_of d))) (Err Bad.Divisor)
    (pick (not (in_bands (number_of hz))) (Err Bad.Frequency)
    (pick (not (bits_word bits)) (Err Bad.Bits)
    (pick (not (size_word size)) (Err Bad.Size)
    (Ok
    (record {
      version = 1;
      divisor = number_of d;
      frequency = number_of hz;
      mode = mode_of bits;
      size = size_of size;
      serial = unknown;
      clock = nominal;
    })))))

-- the same head in version 2, with a serial and a clock
unfoldable pub names_of : Head → List ℕ → List ℕ → Worded
names_of h serial clock =
    pick (not (serial_word serial)) (Err Bad.Serial)
    (pick (not (is_clock (number_of clock))) (Err Bad.Clock)
    (Ok
    (record {
      version = 2;
      divisor = h.divisor;
      frequency = h.frequency;
      mode = h.mode;
      size = h.size;
      serial = serial_of serial;
      clock = number_of clock;
    })))

abbrev pub behind : Worded → List ℕ → List ℕ → Worded
behind (Ok h) serial clock = names_of h serial clock
behind (Err bad) serial clock = Err bad

abbrev pub named_of : List ℕ → List ℕ → List ℕ → List ℕ → List ℕ → List ℕ → Worded
named_of d hz bits size serial clock = behind (plain_of d hz bits size) serial clock

-- the head that words come to is one that may be written
abbrev pub Fit : Worded → Type 0
Fit (Ok h) = allowed_head h ≡ true
Fit (Err bad) = Unit {0}
