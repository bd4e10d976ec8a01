-- Demand 2 of a host whose bytes come in pieces: what the harvester asks is what the box understands.
-- Assumes nothing.
use Prim.Native.Nat.{ℕ, ◌≤◌}
use native.Mathlib.Nat.{le_refl}
use native.Mathlib.Omega.{arith}
use mathlib.Core.Path.{◌≡◌, refl, sym, ap, ◌∙◌}
use mathlib.Core.Bool.{Bool, true, false}
use mathlib.Core.List.{List, [], ◌∷◌, map, append-nil}
use lib.Dec.{eqb, lit≤}
use lib.ListN.{length}
use Rattle.wire.specs.Choice.{pick}
use Rattle.wire.specs.Codes.{box_writes}
use Rattle.wire.specs.Header.{type_range, type_reply, type_range_reply}
use Rattle.framing.specs.Framing.{between, call_takes}
use Rattle.framing.proofs.Leaving.{between_left}
use Rattle.layouts.proofs.Sizes.{least, length_laid}
use Rattle.items.specs.declared.Settings.{Settings}
use Rattle.items.specs.Settings.{in_range}
use Rattle.items.specs.Answer.{Message, row, parameters, settings_after, framed, reply_body, range_body, reply_due}
use Rattle.station.specs.Station.{valid}
use Rattle.station.specs.Feeding.{message_in, feeding_of}
use Rattle.station.specs.Serving.{Served, unserved, noting, called, Piece, serving, joined, roomy}
use Rattle.station.proofs.Valid.{valid_both}
use Rattle.wishes.specs.declared.Wish.{Wish}
use Rattle.wishes.specs.Wishes.{layout_of, message_of, closed_now, not_now}
use Rattle.wishes.proofs.Rows.{short_message}
use Rattle.replies.specs.Reading.{ReplyAnswer, reply_reader_says}
use Rattle.demands.specs.Shown.{resting}
use Rattle.demands.specs.Asked.{Understands}
use Rattle.demands.specs.AskedInPieces.{UnderstandsInPieces, WhatIsAskedIsUnderstoodInPieces}
use Rattle.demands.proofs.Asked.{wish_announces, opened, accepted, message_written, understood_in_64}
use Rattle.demands.proofs.Written.{feeds_by_the_table}
use Rattle.demands.proofs.InPieces.{whole, message_served, pieces_served}

-- ---- how long a wish's message is

length_wish : (w : Wish) → (4 ≤ length (message_of w)) × (length (message_of w) ≤ 64)
unfolding message_of
length_wish w = let long = length_laid (layout_of w) in (omega (arith, least (layout_of w)), omega (arith, short_message w))

-- ---- and gets one reply

-- a message that is obeyed is answered
pub due_some : (s : Settings) (m : Message) → 1 ≤ length (reply_due s m)
due_some s m = go (eqb m.type type_range)
  where
    go : (range : Bool)
        → 1
        ≤ length
        (pick range (framed type_range_reply (range_body (row m) (parameters m)))
        (framed type_reply (reply_body (row m) (settings_after s m) (parameters m))))
    go true = omega arith
    go false = omega arith

-- done, channel not allowed, or not while running: none is silent
aloud : (shut wait : Bool) (s : Settings) (m : Message) → 1 ≤ length (box_writes (pick shut 15 (pick wait 17 1)) (reply_due s m))
aloud true wait s m = lit≤ tt
aloud false true s m = lit≤ tt
aloud false false s m = due_some s m

read_once : (w : Wish) (reply : List ℕ) → 1 ≤ length reply → map (reply_reader_says w) (noting [] reply) ≡ reply_reader_says w reply ∷ []
read_once w [] some = absurd (omega arith)
read_once w (b ∷ bs) some = refl

understood_in_pieces : (w : Wish) (s : Settings) (pieces : List Piece) → in_range s ≡ true
    → roomy pieces → joined pieces ≡ message_of w → Understands w (message_of w) s 64 → UnderstandsInPieces w pieces s
unfolding serving
understood_in_pieces w s pieces ranged enough same u =
    record {
      does = ap (λ (r : Served). r.station) served ∙ u.does;
      says =
          ap (λ (r : Served). map (reply_reader_says w) r.replies) served
          ∙ read_once w (feeding_of (resting s) (message_of w) 64).bytes some
          ∙ ap (λ (t : ReplyAnswer). t ∷ []) u.says;
    }
  where
    v : valid (resting s) ≡ true
    v = valid_both s between ranged between_left

    served : serving (unserved (resting s)) pieces ≡ called 64 (unserved (resting s)) (message_of w)
    served =
        let l = length_wish w in
        pieces_served s v pieces (whole (message_of w) ∷ []) enough (λ n. le_refl 64, tt) (same ∙ sym (append-nil (message_of w)))
        ∙ message_served s v (message_of w) [] [] (wish_announces w)

    some : 1 ≤ length (feeding_of (resting s) (message_of w) 64).bytes
    some =
        rw ((feeds_by_the_table (resting s) (message_of w) 64).bytes, u.code)
        (aloud (closed_now w s) (not_now w s) s (message_in (call_takes between (message_of w)).store))

pub what_is_asked_is_understood_in_pieces : WhatIsAskedIsUnderstoodInPieces
what_is_asked_is_understood_in_pieces w buffer e s ranged pieces enough same =
    let written = message_written w buffer e in
    understood_in_pieces w s pieces ranged enough (same ∙ written)
    (understood_in_64 w s (opened w buffer e) (accepted w buffer e) ranged)
