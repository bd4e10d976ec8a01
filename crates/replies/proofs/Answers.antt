-- What a call of the reader answers; and that its answer says all.
use Prim.Native.Nat.{ℕ}
use mathlib.Core.Path.{◌≡◌, refl, sym, ap, ◌∙◌}
use mathlib.Core.Bool.{Bool, true, false}
use mathlib.Core.List.{List}
use lib.Dec.{eqb}
use lib.IntN.{ℤ, pos, negsuc}
use lib.ListN.{length, get_or}
use Rattle.std.specs.Prelude.{Result, Ok, Err}
use Rattle.wire.specs.Choice.{pick}
use Rattle.wire.specs.declared.refusal.Refusal.{Refusal}
use Rattle.wire.specs.declared.refusal.Refusal.TheVariants.{ChannelNotAllowed, ValueNotAllowed, NotAReply}
use Rattle.wire.proofs.Refusals.{number_one, done_no_refusal}
use Rattle.wire.proofs.Firm.{one_by}
use Rattle.wishes.specs.declared.Wish.{Wish}
use Rattle.wishes.specs.Wishes.{open_wish, allowed_wish}
use Rattle.replies.specs.declared.Reply.{Reply}
use Rattle.replies.specs.declared.Reply.TheVariants.{Nak, Name, Serial, Interface, Version, Status, State, ChannelSetup}
use Rattle.replies.specs.declared.Reply.TheVariants.{Frequency, FrequencyRange, Gain, Clock, Rate, PacketSize}
use Rattle.replies.specs.Awaited.{awaited, number_in}
use Rattle.replies.specs.Reading.{is_nak, is_reply, reply_code, ReplyAnswer, reply_says, read_says, reply_reader_says}

module _ (w : Wish) (bs : List ℕ) where
  pub read_closed : open_wish w ≡ false → read_says (Err ChannelNotAllowed) ≡ reply_reader_says w bs
  unfolding reply_reader_says reply_code
  read_closed o = rw o

  pub read_refused : open_wish w ≡ true → allowed_wish w ≡ false → read_says (Err ValueNotAllowed) ≡ reply_reader_says w bs
  unfolding reply_reader_says reply_code
  read_refused o e = rw (o, e)

  pub read_nak : open_wish w ≡ true → allowed_wish w ≡ true → is_nak bs ≡ true → read_says (Ok Nak) ≡ reply_reader_says w bs
  unfolding reply_reader_says reply_code
  read_nak o e n = rw (o, e, n)

  module _ (o : open_wish w ≡ true) (e : allowed_wish w ≡ true) (n : is_nak bs ≡ false) where
    pub read_none : is_reply w bs ≡ false → read_says (Err NotAReply) ≡ reply_reader_says w bs
    unfolding reply_reader_says reply_code
    read_none r = rw (o, e, n, r)

    -- a reply, with the value in it
    pub read_reply : (v : ℕ) → is_reply w bs ≡ true → number_in w bs ≡ v → read_says (Ok ((awaited w).says v)) ≡ reply_reader_says w bs
    unfolding reply_reader_says reply_code
    read_reply v r is = rw (o, e, n, r, is)

-- ---- two answers that tell the same are the same

natural : ℤ → ℕ
natural (pos n) = n
natural (negsuc n) = 0

value : List ℤ → ℕ → ℕ
value vs k = natural (get_or vs k (pos 0))

-- the reply of an item with these values
about : ℕ → List ℤ → Reply
about item vs =
    pick (eqb item 0x0000) Nak
    (pick (eqb item 0x0001) Name
    (pick (eqb item 0x0002) (Serial (value vs 0))
    (pick (eqb item 0x0003) (Interface (value vs 0))
    (pick (eqb item 0x0004) (Version (value vs 0) (value vs 1))
    (pick (eqb item 0x0005) (Status (eqb (value vs 0) 0x0C))
    (pick (eqb item 0x0018) (State (record { run = value vs 0; mode = value vs 1 }))
    (pick (eqb item 0x0019) (ChannelSetup (value vs 0))
    (pick (eqb item 0x0020) (pick (eqb (length vs) 1) (Frequency (value vs 0)) FrequencyRange)
    (pick (eqb item 0x0038) (Gain (get_or vs 0 (pos 0)))
    (pick (eqb item 0x00B0) (Clock (value vs 0))
    (pick (eqb item 0x00B8) (Rate (value vs 0)) (PacketSize (value vs 0)))))))))))))

back : ReplyAnswer → Reply
back t = about t.item t.values

status_back : (t : Bool) → eqb (pick t 0x0C 0x0B) 0x0C ≡ t
status_back true = refl
status_back false = refl

back_told : (r : Reply) → back (reply_says r) ≡ r
unfolding back about value natural
back_told Nak = refl
back_told Name = refl
back_told (Serial n) = refl
back_told (Interface n) = refl
back_told (Version id n) = refl
back_told (Status running) = ap Status (status_back running)
back_told (State f) = refl
back_told (ChannelSetup n) = refl
back_told (Frequency hz) = refl
back_told FrequencyRange = refl
back_told (Gain g) = refl
back_told (Clock hz) = refl
back_told (Rate hz) = refl
back_told (PacketSize n) = refl

reply_one : (a b : Reply) → reply_says a ≡ reply_says b → a ≡ b
reply_one = one_by reply_says back back_told

reply_done : (a : Reply) → (reply_says a).code ≡ 1
reply_done Nak = refl
reply_done Name = refl
reply_done (Serial n) = refl
reply_done (Interface n) = refl
reply_done (Version id n) = refl
reply_done (Status running) = refl
reply_done (State f) = refl
reply_done (ChannelSetup n) = refl
reply_done (Frequency hz) = refl
reply_done FrequencyRange = refl
reply_done (Gain g) = refl
reply_done (Clock hz) = refl
reply_done (Rate hz) = refl
reply_done (PacketSize n) = refl

pub told_one : (a b : Result Reply Refusal) → read_says a ≡ read_says b → a ≡ b
told_one (Ok a) (Ok b) e = ap Ok (reply_one a b e)
told_one (Ok a) (Err r) e = done_no_refusal r (sym (reply_done a) ∙ ap (λ (t : ReplyAnswer). t.code) e)
told_one (Err r) (Ok b) e = done_no_refusal r (sym (reply_done b) ∙ sym (ap (λ (t : ReplyAnswer). t.code) e))
told_one (Err r) (Err q) e = ap Err (number_one r q (ap (λ (t : ReplyAnswer). t.code) e))
