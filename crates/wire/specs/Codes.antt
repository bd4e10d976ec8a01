-- What comes back: the table of codes, in its order, each by its name.
use Rattle.std.specs.Prelude.{ℕ, List, [], ◌∷◌, eqb}
use Rattle.wire.specs.Choice.{first_row}
use Rattle.wire.specs.Header.{nak}

-- waiting, all bytes consumed
abbrev pub waiting : ℕ
waiting = 0

-- done; a reply, packet or value
abbrev pub done : ℕ
done = 1

-- finished, no reply due
abbrev pub no_reply_due : ℕ
no_reply_due = 2

-- bad header
abbrev pub bad_header : ℕ
bad_header = 11

-- types 0 to 2, length over 64
abbrev pub too_long : ℕ
too_long = 10

-- item not in the list
abbrev pub not_listed : ℕ
not_listed = 12

-- item known, this kind not offered
abbrev pub not_offered : ℕ
not_offered = 14

-- wrong length for item and kind
abbrev pub wrong_length : ℕ
wrong_length = 13

-- channel byte not allowed
abbrev pub channel_not_allowed : ℕ
channel_not_allowed = 15

-- value not allowed
abbrev pub value_not_allowed : ℕ
value_not_allowed = 16

-- not while running
abbrev pub not_while_running : ℕ
not_while_running = 17

-- lent buffer shorter than what this call would write (wish writer: under 16)
abbrev pub no_room : ℕ
no_room = 20

-- broken box or reader state
abbrev pub broken : ℕ
broken = 21

-- cut asked while idle
abbrev pub while_idle : ℕ
while_idle = 22

-- wrong count of samples
abbrev pub wrong_count : ℕ
wrong_count = 23

-- sample outside 24 bits
abbrev pub not_a_sample : ℕ
not_a_sample = 24

-- capture holds 4,000,000,000 packets
abbrev pub capture_full : ℕ
capture_full = 25

-- serial not eight of A-Z, 0-9
abbrev pub not_a_serial : ℕ
not_a_serial = 26

-- bytes are not a reply to this wish
abbrev pub not_a_reply : ℕ
not_a_reply = 28

-- not a packet
abbrev pub not_a_packet : ℕ
not_a_packet = 30

-- no packet numbered 0 yet
abbrev pub no_first_packet : ℕ
no_first_packet = 31

-- packet form changed within a capture
abbrev pub form_changed : ℕ
form_changed = 32

-- position past 3,999,999,999
abbrev pub past_last : ℕ
past_last = 33

-- not a capture head
abbrev pub not_a_head : ℕ
not_a_head = 40

-- head of a version other than 1 and 2 (02, No. 9)
abbrev pub other_version : ℕ
other_version = 41

-- going back to version 1 would lose the serial or the clock (02, No. 9)
abbrev pub would_lose : ℕ
would_lose = 42

-- The table's third column, "Written".
pub data Written : Type 0 where
  nothing : Written
  -- "exactly its length": the reply, packet or value
  whole : Written
  a_nak : Written

-- a line: the code, what the box writes with it, and what is written "outside the box"
pub record Row : Type 0 where
  pub code : ℕ
  pub in_box : Written
  pub outside : Written

abbrev row : ℕ → Written → Row
row code written = record { code = code; in_box = written; outside = written }

abbrev pub table : List Row
table =
    row waiting nothing
    ∷ row done whole
    ∷ row no_reply_due nothing
    ∷ row bad_header a_nak
    ∷ row too_long a_nak
    ∷ row not_listed a_nak
    ∷ row not_offered a_nak
    ∷ row wrong_length a_nak
    ∷ row channel_not_allowed a_nak
    ∷ record { code = value_not_allowed; in_box = a_nak; outside = nothing }
    ∷ row not_while_running a_nak
    ∷ row no_room nothing
    ∷ row broken nothing
    ∷ row while_idle nothing
    ∷ row wrong_count nothing
    ∷ row not_a_sample nothing
    ∷ row capture_full nothing
    ∷ row not_a_serial nothing
    ∷ row not_a_reply nothing
    ∷ row not_a_packet nothing
    ∷ row no_first_packet nothing
    ∷ row form_changed nothing
    ∷ row past_last nothing
    ∷ row not_a_head nothing
    ∷ row other_version nothing
    ∷ row would_lose nothing
    ∷ []

-- what an entry of the column stands for, where a reply, packet or value is `due`
abbrev pub bytes_for : Written → List ℕ → List ℕ
bytes_for nothing due = []
bytes_for whole due = due
bytes_for a_nak due = nak

-- what the box writes with a code
abbrev pub box_writes : ℕ → List ℕ → List ℕ
box_writes code due = first_row (λ r. eqb code r.code) (λ r. bytes_for r.in_box due) [] table

-- Outside the box there is no NAK, and what is written may be bytes or numbers.
abbrev pub values_for : {A : Type 0} → Written → List A → List A
values_for nothing due = []
values_for whole due = due
values_for a_nak due = []

-- what is written with a code outside the box
abbrev pub others_write : {A : Type 0} → ℕ → List A → List A
others_write code due = first_row (λ r. eqb code r.code) (λ r. values_for r.outside due) [] table
