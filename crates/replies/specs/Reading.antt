-- Reading a reply to a wish.
use Rattle.std.specs.Prelude.{ℕ, Bool, ◌&&◌, ◌||◌, not, Result, Ok, Err, List, [], ◌∷◌, map, eqb, ℤ, pos}
use Rattle.wire.specs.Choice.{pick, Check, check, first_of}
use Rattle.wire.specs.Codes as Code
use Rattle.wire.specs.Header.{nak}
use Rattle.wire.specs.Lists.{same}
use Rattle.wire.specs.Refusal.{refusal_code}
use Rattle.wire.specs.declared.refusal.Refusal.{Refusal}
use Rattle.tuning.specs.Bands.{Band, bands}
use Rattle.items.specs.Items.{name_bytes, name, serial, interface, versions, status_byte}
use Rattle.items.specs.Items.{status, state, channel_setup, frequency, gain, clock, rate, packet_size}
use Rattle.wishes.specs.declared.Wish.{Wish}
use Rattle.wishes.specs.Wishes.{open_wish, allowed_wish}
use Rattle.replies.specs.declared.Reply.{Reply}
use Rattle.replies.specs.declared.Reply.TheVariants.{Nak, Name, Serial, Interface, Version, Status, State, ChannelSetup}
use Rattle.replies.specs.declared.Reply.TheVariants.{Frequency, FrequencyRange, Gain, Clock, Rate, PacketSize}
use Rattle.replies.specs.Awaited.{awaited, reply_bytes, number_in}

abbrev pub is_nak : List ℕ → Bool
is_nak bs = same bs nak

-- "those further replies that some valid box could give to it": the reply with the value that the bytes hold, and a value that
-- a valid box could give (`exactly`, in the proofs, says it of boxes)
unfoldable pub is_reply : Wish → List ℕ → Bool
is_reply w bs = (awaited w).could (number_in w bs) && same bs (reply_bytes w (number_in w bs))

-- "one the writer would refuse is 16; it accepts NAK for any other, and exactly those further replies that some valid box
-- could give to it; else 28". Where the writer would refuse it with 15 (02, No. 7), that is the code, as there before 16.
abbrev pub reply_checks : Wish → List ℕ → List Check
reply_checks w bs =
    check Code.channel_not_allowed (not (open_wish w))
    ∷ check Code.value_not_allowed (not (allowed_wish w))
    ∷ check Code.not_a_reply (not (is_nak bs || is_reply w bs))
    ∷ []

unfoldable pub reply_code : Wish → List ℕ → ℕ
reply_code w bs = first_of (reply_checks w bs) Code.done

-- what an accepted reply says
abbrev pub heard : Wish → List ℕ → Reply
heard w bs = pick (is_nak bs) Nak ((awaited w).says (number_in w bs))

-- An answer in document 01's terms: its code, and for a reply the item's code (NAK has none, 0) and the values.
pub record ReplyAnswer : Type 0 where
  pub code : ℕ
  pub item : ℕ
  pub values : List ℤ

abbrev pub said : ℕ → List ℤ → ReplyAnswer
said item values = record { code = Code.done; item = item; values = values }

abbrev pub refused : ℕ → ReplyAnswer
refused code = record { code = code; item = 0; values = [] }

-- minimum, maximum, oscillator of each band
abbrev pub range_values : List Band → List ℤ
range_values [] = []
range_values (b ∷ bs) = pos b.minimum ∷ pos b.maximum ∷ pos b.oscillator ∷ range_values bs

-- the item and the values of each case
abbrev pub reply_says : Reply → ReplyAnswer
reply_says Nak = said 0 []
reply_says Name = said name.code (map pos name_bytes)
reply_says (Serial n) = said serial.code (pos n ∷ [])
reply_says (Interface n) = said interface.code (pos n ∷ [])
reply_says (Version id n) = said versions.code (pos id ∷ pos n ∷ [])
reply_says (Status running) = said status.code (pos (status_byte running) ∷ [])
reply_says (State f) = said state.code (pos f.run ∷ pos f.mode ∷ [])
reply_says (ChannelSetup n) = said channel_setup.code (pos n ∷ [])
reply_says (Frequency hz) = said frequency.code (pos hz ∷ [])
reply_says FrequencyRange = said frequency.code (range_values bands)
reply_says (Gain g) = said gain.code (g ∷ [])
reply_says (Clock hz) = said clock.code (pos hz ∷ [])
reply_says (Rate hz) = said rate.code (pos hz ∷ [])
reply_says (PacketSize n) = said packet_size.code (pos n ∷ [])

-- what is read: a reply, or the refusal's code
abbrev pub read_says : Result Reply Refusal → ReplyAnswer
read_says (Ok r) = reply_says r
read_says (Err r) = refused (refusal_code r)

-- what reading the bytes that came answers
unfoldable pub reply_reader_says : Wish → List ℕ → ReplyAnswer
reply_reader_says w bs = pick (eqb (reply_code w bs) Code.done) (reply_says (heard w bs)) (refused (reply_code w bs))
