-- Demand 2: what the harvester asks is what the box understands, and what the box says is what the harvester reads.
-- Assumes nothing.
use Prim.Native.Nat.{ℕ, ◌-◌, ◌≤◌}
use native.Mathlib.Nat.{le_refl}
use native.Mathlib.Omega.{arith}
use borrow.Author.Tests.{lt-leb, not-false}
use mathlib.Core.Path.{◌≡◌, refl, sym, ap, ◌∙◌}
use mathlib.Core.Bool.{true, false}
use mathlib.Core.List.{List, ◌++◌}
use mathlib.Core.Logic.{◌⊎◌, inl, inr, ◌↔◌}
use lib.Dec.{leb, lit≤}
use lib.ListN.{length, take, replicate}
use lib.Seq.{take_all}
use Rattle.wire.specs.Header.{nak, header_of, type_in, length_in, type_data}
use Rattle.wire.proofs.Checks.{absent}
use Rattle.wire.proofs.Headers.{length_header, type_header, header_below}
use Rattle.framing.specs.Framing.{between, announced, header_in, total_of}
use Rattle.framing.proofs.Leaving.{between_left}
use Rattle.layouts.specs.declared.Layout.{Layout}
use Rattle.layouts.specs.Layouts.{size_of, laid}
use Rattle.layouts.proofs.Sizes.{least, length_laid}
use Rattle.items.specs.declared.Settings.{Settings}
use Rattle.items.specs.Settings.{in_range}
use Rattle.items.specs.Answer.{code_of, reply_of}
use Rattle.station.specs.Feeding.{Feeding, feeding_of}
use Rattle.station.proofs.Valid.{valid_both}
use Rattle.wishes.specs.declared.Wish.{Wish}
use Rattle.wishes.specs.Wishes.{asking, layout_of, message_of, as_message, open_wish, allowed_wish}
use Rattle.wishes.specs.Writing.{wish_checks, wish_code, bytes_written}
use Rattle.wishes.proofs.Rows.{of_row, short_message}
use Rattle.wishes.proofs.Understood.{code_of_wish, settings_of_wish, wish_fifteen_exactly}
use Rattle.replies.specs.Reading.{reply_code, reply_reader_says}
use Rattle.replies.specs.Exactly.{Given}
use Rattle.replies.proofs.Exactly.{box_reply_is_read, exactly}
use Rattle.demands.specs.Shown.{message_of as held, resting, has_room}
use Rattle.demands.specs.Asked.{Understands, WhatIsAskedIsUnderstood, Writes, ReadsWhatBoxesWrite, RefusedByEveryBox}
use Rattle.demands.proofs.OneMessage.{saying, whole_fed, whole_answered}

-- ---- a message has its true length in its header

total_is : (kind size : ℕ) → kind ≤ 2 → 2 ≤ size → total_of kind size ≡ size
total_is kind size k n =
    let control : leb type_data kind ≡ false = lt-leb type_data kind (omega arith) in
    rw control (omega arith)

module _ (a : Layout) (low : a.kind ≤ 2) (few : size_of a ≤ 64) where
  header_laid : header_in (laid a) ≡ header_of a.kind (size_of a)
  header_laid = omega (arith, header_below a.kind (size_of a))

  type_laid : type_in (header_in (laid a)) ≡ a.kind
  type_laid = ap type_in header_laid ∙ type_header a.kind (size_of a) (omega arith)

  size_laid : length_in (header_in (laid a)) ≡ length (laid a)
  size_laid = ap length_in header_laid ∙ length_header a.kind (size_of a) (omega arith) ∙ sym (length_laid a)

  announced_laid : announced (laid a) ≡ length (laid a)
  announced_laid = rw (type_laid, size_laid) (total_is a.kind (length (laid a)) low (omega (arith, least a, length_laid a)))

-- ---- a wish's message

kind_low : (w : Wish) → (asking w).kind ≤ 2
kind_low w = search (of_row (λ i k. k ≤ 2), lit≤)

few : (w : Wish) → size_of (layout_of w) ≤ 64
few w = omega (arith, short_message w)

-- it is one message
pub wish_announces : (w : Wish) → announced (message_of w) ≡ length (message_of w)
unfolding message_of
wish_announces w = announced_laid (layout_of w) (kind_low w) (few w)

-- the one that the wish stands for
wish_held : (w : Wish) → held (message_of w) ≡ as_message w
unfolding message_of
wish_held w =
    let m = laid (layout_of w) in
    let behind : List ℕ = replicate (64 - length m) 0 in
    ap (λ (k : ℕ). record { type = k; size = length_in (header_in m); bytes = take 64 m ++ behind })
    (type_laid (layout_of w) (kind_low w) (few w))
    ∙ ap (λ (n : ℕ). record { type = (asking w).kind; size = n; bytes = take 64 m ++ behind })
    (size_laid (layout_of w) (kind_low w) (few w))
    ∙ ap (λ (l : List ℕ). record { type = (asking w).kind; size = length m; bytes = l ++ behind })
    (take_all 64 m (omega (arith, length_laid (layout_of w), few w)))

-- ---- the demand

-- a call that answers the wish's message
abbrev answering : Wish → Settings → Feeding
answering w s = saying s (length (message_of w)) (as_message w)

answered_wish : (w : Wish) (s : Settings) → saying s (length (message_of w)) (held (message_of w)) ≡ answering w s
answered_wish w s = ap (saying s (length (message_of w))) (wish_held w)

fed_wish : (w : Wish) (s : Settings) (room : ℕ) → in_range s ≡ true → has_room (feeding_of (resting s) (message_of w) room)
    → feeding_of (resting s) (message_of w) room ≡ answering w s
fed_wish w s room v some =
    whole_answered (message_of w) (wish_announces w) s room (valid_both s between v between_left) some ∙ answered_wish w s

-- 64 bytes are room enough
roomy_wish : (w : Wish) (s : Settings) (room : ℕ) → in_range s ≡ true → 64 ≤ room
    → feeding_of (resting s) (message_of w) room ≡ answering w s
roomy_wish w s room v enough =
    whole_fed (message_of w) (wish_announces w) s room (valid_both s between v between_left) enough ∙ answered_wish w s

understands : (w : Wish) (s : Settings) (room : ℕ) → open_wish w ≡ true → allowed_wish w ≡ true → in_range s ≡ true
    → feeding_of (resting s) (message_of w) room ≡ answering w s
    → Understands w (message_of w) s room
understands w s room o e v fed =
    record {
      code = ap (λ (f : Feeding). f.fed.code) fed ∙ code_of_wish w s e;
      does = ap (λ (f : Feeding). f.fed.station) fed ∙ ap resting (settings_of_wish w s e);
      says = ap (λ (f : Feeding). reply_reader_says w f.bytes) fed ∙ box_reply_is_read w s o e v;
    }

-- the writer accepts exactly what is open and allowed, and writes its message
pub opened : (w : Wish) (buffer : ℕ) → wish_code w buffer ≡ 1 → open_wish w ≡ true
unfolding wish_code
opened w buffer e = not-false (open_wish w) (absent (wish_checks w buffer) 1 refl e).0

pub accepted : (w : Wish) (buffer : ℕ) → wish_code w buffer ≡ 1 → allowed_wish w ≡ true
unfolding wish_code
accepted w buffer e = not-false (allowed_wish w) (absent (wish_checks w buffer) 1 refl e).1.0

pub message_written : (w : Wish) (buffer : ℕ) → wish_code w buffer ≡ 1 → bytes_written w buffer ≡ message_of w
unfolding bytes_written
message_written w buffer e = rw e refl

pub what_is_asked_is_understood : WhatIsAskedIsUnderstood
what_is_asked_is_understood w buffer e s v room some =
    let written = message_written w buffer e in
    rw written (understands w s room (opened w buffer e) (accepted w buffer e) v (fed_wish w s room v (rw written at some)))

-- with 64 bytes of room
pub understood_in_64 : (w : Wish) (s : Settings) → open_wish w ≡ true → allowed_wish w ≡ true → in_range s ≡ true
    → Understands w (message_of w) s 64
understood_in_64 w s o e v = understands w s 64 o e v (roomy_wish w s 64 v (le_refl 64))

pub reads_what_boxes_write : ReadsWhatBoxesWrite
reads_what_boxes_write w buffer bs e = rw (message_written w buffer e) (λ h. into (read.0 h), λ h. read.1 (from h))
  where
    read : (reply_code w bs ≡ 1) ↔ ((bs ≡ nak) ⊎ Given w bs)
    read = exactly w bs (opened w buffer e) (accepted w buffer e)

    bytes_of : (s : Settings) → in_range s ≡ true → (feeding_of (resting s) (message_of w) 64).bytes ≡ reply_of s (as_message w)
    bytes_of s v = ap (λ (f : Feeding). f.bytes) (roomy_wish w s 64 v (le_refl 64))

    into : (bs ≡ nak) ⊎ Given w bs → (bs ≡ nak) ⊎ Writes (message_of w) bs
    into (inl n) = inl n
    into (inr g) = inr (record { settings = g.settings; valid = g.valid; writes = bytes_of g.settings g.valid ∙ g.gives })

    from : (bs ≡ nak) ⊎ Writes (message_of w) bs → (bs ≡ nak) ⊎ Given w bs
    from (inl n) = inl n
    from (inr g) = inr (record { settings = g.settings; valid = g.valid; gives = sym (bytes_of g.settings g.valid) ∙ g.writes })

pub refused_by_every_box : RefusedByEveryBox
refused_by_every_box w buffer = (
  λ h s v. code_of_lem s v ∙ (wish_fifteen_exactly w buffer).0 h s v,
  λ all. (wish_fifteen_exactly w buffer).1 (λ s v. sym (code_of_lem s v) ∙ all s v),
)
  where
    code_of_lem : (s : Settings) → in_range s ≡ true → (feeding_of (resting s) (message_of w) 64).fed.code ≡ code_of s (as_message w)
    code_of_lem s v = ap (λ (f : Feeding). f.fed.code) (roomy_wish w s 64 v (le_refl 64))
