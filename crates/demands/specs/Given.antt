-- "Each code is given exactly on its condition, earlier ones absent."
use Rattle.std.specs.Prelude.{ℕ, ◌≤◌, ◌<◌, ◌≡◌, true, false, List, ◌∷◌, ◌++◌, ◌⊎◌, ◌↔◌, ℤ, length}
use Rattle.wire.specs.Choice.{Check, Absent}
use Rattle.wire.specs.Codes as Code
use Rattle.wire.specs.Number.{number, field}
use Rattle.items.specs.declared.Settings.{Settings}
use Rattle.items.specs.Settings.{is_serial}
use Rattle.items.specs.Answer.{Message, checks, code_of, reply_of}
use Rattle.station.specs.declared.Station.{Station}
use Rattle.station.specs.Station.{valid, fresh_box, word_checks, word_code}
use Rattle.framing.specs.Framing.{call_takes, finished}
use Rattle.station.specs.Feeding.{feed_checks, feeding_of}
use Rattle.cutting.specs.Cutting.{cut_checks, cut_code}
use Rattle.reader.specs.declared.Reader.{Reader}
use Rattle.reader.specs.Reading.{reading_checks, reading_code, unpack_checks, unpack_code}
use Rattle.heads.specs.declared.Head.{Head}
use Rattle.heads.specs.Head.{mark, is_head_version, version_in, head_length, head_length_in, allowed_head, head_in}
use Rattle.heads.specs.Head.{head_write_checks, head_write_code, head_read_code}
use Rattle.heads.specs.Moving.{moved_checks, moving_code}
use Rattle.wishes.specs.declared.Wish.{Wish}
use Rattle.wishes.specs.Writing.{wish_checks, wish_code}
use Rattle.replies.specs.Reading.{reply_checks, reply_code}
use Rattle.demands.specs.Shown.{finished_by}

-- of each check of the list: its code is given exactly where it holds and none before it does
abbrev pub EachExactly : List Check → ℕ → Type 0
EachExactly cs given =
    (before : List Check) (c : Check) (after : List Check) → cs ≡ before ++ c ∷ after
    → (given ≡ c.code) ↔ (Absent before × (c.holds ≡ true))

-- the same of checks that are made only where a condition holds
abbrev pub EachWhere : Type 0 → List Check → ℕ → Type 0
EachWhere Made cs given =
    (before : List Check) (c : Check) (after : List Check) → cs ≡ before ++ c ∷ after
    → (given ≡ c.code) ↔ (Made × Absent before × (c.holds ≡ true))

-- Bytes that are no head: "Under 14 bytes, wrong mark or a value not allowed is 40 (.. with another version only mark and length are
-- looked at)"; 02: "a version 2 head under 26 bytes or with a bad field is 40".
abbrev pub IsNoHead : List ℕ → Type 0
IsNoHead s =
    (length s < head_length 1) ⊎ (field 0 3 s ≡ number mark → ⊥)
    ⊎ ((is_head_version (version_in s) ≡ true) × ((length s < head_length_in s) ⊎ (allowed_head (head_in s) ≡ false)))

-- "41 now means a version other than 1 and 2", and 40 is "checked before 41"
abbrev pub IsOtherVersion : List ℕ → Type 0
IsOtherVersion s = (head_length 1 ≤ length s) × (field 0 3 s ≡ number mark) × (is_head_version (version_in s) ≡ false)

-- The codes of bytes that are read as a head: their list has 40 four times.
pub record HeadExactly (s : List ℕ) (given : ℕ) : Type 0 where
  pub not_a_head : (given ≡ Code.not_a_head) ↔ IsNoHead s
  pub other_version : (given ≡ Code.other_version) ↔ IsOtherVersion s

-- A call that answers a message: the box is not broken, the bytes finish the message, and there is room for what is written.
pub record Answers (s : Station) (host : List ℕ) (room : ℕ) : Type 0 where
  pub sound : valid s ≡ true
  pub finishes : finished (call_takes s.store host).store ≡ true
  pub fits : length (reply_of s.settings (finished_by s host)) ≤ room

pub record GivenExactly : Type 0 where
  pub fresh : (serial : List ℕ) → ((fresh_box serial).code ≡ Code.not_a_serial) ↔ (is_serial serial ≡ false)
  -- 0, which no list has: the box is not broken, and the bytes finish no message
  pub waits : (s : Station) (host : List ℕ) (room : ℕ)
      → ((feeding_of s host room).fed.code ≡ Code.waiting)
      ↔ ((valid s ≡ true) × (finished (call_takes s.store host).store ≡ false))
  pub feeding : (s : Station) (host : List ℕ) (room : ℕ) → EachExactly (feed_checks s host room) (feeding_of s host room).fed.code
  -- a call that answers a message gives the message's own code
  pub own : (s : Station) (host : List ℕ) (room : ℕ) → Answers s host room
      → (feeding_of s host room).fed.code ≡ code_of s.settings (finished_by s host)
  -- and no other call gives one of these: 1, 2 and 10 to 17
  pub own_exactly : (s : Station) (host : List ℕ) (room code : ℕ) → 1 ≤ code → code < 20
      → ((feeding_of s host room).fed.code ≡ code) ↔ (Answers s host room × (code_of s.settings (finished_by s host) ≡ code))
  -- so each check of the message is the call's, where the call answers it
  pub answered : (s : Station) (host : List ℕ) (room : ℕ)
      → EachWhere (Answers s host room) (checks s.settings (finished_by s host)) (feeding_of s host room).fed.code
  pub message : (s : Settings) (m : Message) → EachExactly (checks s m) (code_of s m)
  pub cutting : (s : Station) (samples : List ℤ) (room : ℕ) → EachExactly (cut_checks s samples room) (cut_code s samples room)
  pub word : (s : Station) (channel : ℕ) → EachExactly (word_checks s channel) (word_code s channel)
  pub reading : (r : Reader) (packet : List ℕ) → EachExactly (reading_checks r packet) (reading_code r packet)
  pub unpacking : (packet : List ℕ) (room : ℕ) → EachExactly (unpack_checks packet room) (unpack_code packet room)
  pub head_written : (h : Head) (room : ℕ) → EachExactly (head_write_checks h room) (head_write_code h room)
  pub head_read : (s : List ℕ) → HeadExactly s (head_read_code s)
  -- bytes that are to move to a version: 40 and 41 as in reading them, then 42 and 20
  pub head_moving : (v : ℕ) (s : List ℕ) (room : ℕ) → HeadExactly s (moving_code v s room)
  pub head_moved : (v : ℕ) (s : List ℕ) (room : ℕ)
      → EachWhere (head_read_code s ≡ Code.done) (moved_checks v (head_in s) room) (moving_code v s room)
  pub wish : (w : Wish) (room : ℕ) → EachExactly (wish_checks w room) (wish_code w room)
  pub reply : (w : Wish) (bs : List ℕ) → EachExactly (reply_checks w bs) (reply_code w bs)
