-- What the functions inside promise each other: a head by numbers of eight bytes, its values in two parts, and a head that was read, put
-- in another version. Words and Codes in proofs/ tie it to Head and Moving.
use Rattle.std.specs.Prelude.{ℕ, ◌/◌, ◌%◌, Bool, ◌&&◌, List}
use Rattle.wire.specs.Choice.{first_of}
use Rattle.wire.specs.Codes.{others_write}
use Rattle.wire.specs.Codes as Code
use Rattle.heads.specs.declared.Head.{Head}
use Rattle.rates.specs.Rate.{is_d}
use Rattle.tuning.specs.Bands.{in_bands}
use Rattle.packets.specs.Forms.{form_for, listed_form}
use Rattle.heads.specs.Head.{is_head_version, box_mode, head_bytes}
use Rattle.heads.specs.Moving.{moved_to, moved_checks}

-- a head by the first eight and the last eight of its first 14 bytes, each as one number
abbrev pub head_by_words : ℕ → ℕ → ℕ → ℕ → Head
head_by_words low high serial clock =
    record {
      version = low / 16_777_216 % 65_536;
      divisor = low / 1_099_511_627_776 % 65_536;
      frequency = high / 256 % 1_099_511_627_776;
      mode = high / 281_474_976_710_656 % 256;
      size = high / 72_057_594_037_927_936;
      serial = serial;
      clock = clock;
    }

-- the values that both versions have are allowed
abbrev pub first_allowed : ℕ → ℕ → ℕ → ℕ → ℕ → Bool
first_allowed version divisor frequency mode size =
    is_head_version version && is_d divisor && in_bands frequency && listed_form (form_for (box_mode mode) size)

unfoldable pub put_code : ℕ → Head → ℕ → ℕ
put_code v h room = first_of (moved_checks v h room) Code.done

abbrev pub put_bytes : ℕ → Head → ℕ → List ℕ
put_bytes v h room = others_write (put_code v h room) (head_bytes (moved_to v h))
