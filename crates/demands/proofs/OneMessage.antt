-- One whole message, of any length, fed to a box between messages in one call: it is taken to its end, and what is held of it is its first
-- 64 bytes, and zeros where it is shorter.
-- Assumes nothing.
use Prim.Native.Nat.{ℕ, zero, suc, ◌-◌, ◌≤◌}
use native.Mathlib.Nat.{le_refl, le_trans, zero-add, sub-zero}
use native.Mathlib.Omega.{arith}
use borrow.Author.Tests.{le-leb, le-ltb}
use mathlib.Core.Path.{◌≡◌, refl, sym, ap, ◌∙◌}
use mathlib.Core.Bool.{true, not}
use mathlib.Core.List.{List, [], ◌∷◌, ◌++◌}
use lib.Dec.{ltb}
use lib.ListN.{length, set, take, replicate}
use lib.Seq.{sets, take-length}
use Rattle.wire.specs.Number.{number}
use Rattle.wire.specs.Header.{length_in, type_in}
use Rattle.wire.specs.Choice.{pick}
use Rattle.wire.proofs.Laws.{by_test}
use Rattle.wire.proofs.Stores.{sets_out}
use Rattle.framing.proofs.Cutting.{finished_taking}
use Rattle.framing.proofs.Headers.{ahead_known}
use Rattle.framing.proofs.Runs.{taken_ahead}
use Rattle.framing.proofs.Totals.{total_least}
use Rattle.framing.specs.declared.Store.{Store}
use Rattle.framing.specs.Framing.{Taking, call_takes, finished, header_in, announced_by, announced, between}
use Rattle.items.specs.declared.Settings.{Settings}
use Rattle.items.specs.Answer.{Message, code_of, settings_after, reply_of}
use Rattle.station.specs.Station.{valid}
use Rattle.station.specs.Feeding.{Feeding, message_in, refused, answered, comes_to, feeding_of}
use Rattle.station.proofs.Short.{reply_short}
use Rattle.station.proofs.Valid.{valid_settings, feeding_by}
use Rattle.demands.specs.Shown.{resting, has_room, message_of}

-- ---- what is held of it

-- behind the first place stores do not look at it
sets_behind : (x : ℕ) (l : List ℕ) (i : ℕ) (vs : List ℕ) → sets (x ∷ l) (suc i) vs ≡ x ∷ sets l i vs
sets_behind x l i [] = refl
sets_behind x l i (v ∷ vs) = sets_behind x (set l i v) (suc i) vs

-- bytes stored over zeros
over_zeros : (k : ℕ) (m : List ℕ) → sets (replicate k 0) 0 m ≡ take k m ++ replicate (k - length m) 0
over_zeros zero [] = refl
over_zeros (suc k) [] = rw (sub-zero (suc k)) refl
over_zeros zero (b ∷ m) =
    let none : 0 - length (b ∷ m) ≡ 0 = omega arith in
    rw none (sets_out [] 0 (b ∷ m) (omega arith))
over_zeros (suc k) (b ∷ m) =
    let less : suc k - length (b ∷ m) ≡ k - length m = omega arith in
    rw less (sets_behind b (replicate k 0) 0 m ∙ ap (λ (l : List ℕ). b ∷ l) (over_zeros k m))

abbrev holding : List ℕ → Store
holding m = record { held = take 64 m ++ replicate (64 - length m) 0; taken = length m }

-- a call that has taken a whole message
abbrev took_all : List ℕ → Taking
took_all m = record { store = holding m; count = length m; finished = true }

-- the first two bytes, held or not
first_two : (m rest : List ℕ) → 2 ≤ length m → take 2 (take 64 m ++ rest) ≡ take 2 m
first_two [] rest two = absurd (omega arith)
first_two (a ∷ []) rest two = absurd (omega arith)
first_two (a ∷ b ∷ m) rest two = refl

-- a call that takes so many bytes and answers the message that they finish
abbrev pub saying : Settings → ℕ → Message → Feeding
saying s consumed m =
    record {
      fed = record { code = code_of s m; consumed = consumed; wrote = length (reply_of s m); station = resting (settings_after s m) };
      bytes = reply_of s m;
    }

module _ (m : List ℕ) (announces : announced m ≡ length m) where
  -- it has its header
  pub least : 2 ≤ length m
  least = rw (← announces) (total_least (type_in (header_in m)) (length_in (header_in m)))

  same_header_lem : header_in (holding m).held ≡ header_in m
  same_header_lem = ap number (first_two m (replicate (64 - length m) 0) least)

  -- One whole message, in one call.
  one_message : call_takes between m ≡ took_all m
  one_message =
      let total : length m ≡ announced (sets (replicate 64 0) 0 m) =
      sym (ap announced (over_zeros 64 m) ∙ ap announced_by same_header_lem ∙ announces) in
      taken_ahead between m (length m) (length m) (total ∙ sym (ahead_known (replicate 64 0) m 0 (omega (arith, least)))) (omega arith)
      ∙ rw (take-length, zero-add, over_zeros, le-leb (length m) (length m) (le_refl (length m))) refl

  -- the message that it is
  is_message : message_in (holding m) ≡ message_of m
  is_message =
      ap (λ (header : ℕ). record { type = type_in header; size = length_in header; bytes = (holding m).held }) same_header_lem

  -- what a call comes to that hands it to a box between messages
  pub message_comes : (s : Settings) (room : ℕ)
      → feeding_of (resting s) m room
      ≡ pick (not (valid (resting s))) (refused 21 (resting s))
      (pick (ltb room (length (reply_of s (message_of m)))) (refused 20 (resting s)) (saying s (length m) (message_of m)))
  message_comes s room =
      let ends : finished (call_takes between m).store ≡ true =
      finished_taking 0 between m ∙ ap (λ (t : Taking). t.finished) one_message in
      let comes_to_lem : comes_to (resting s) m ≡ saying s (length m) (message_of m) =
      rw ends (ap (answered s) one_message ∙ ap (saying s (length m)) is_message) in
      feeding_by (resting s) m room ∙ rw comes_to_lem refl

  -- a valid box answers it, where there is room for the reply
  pub whole_fed : (s : Settings) (room : ℕ) → valid (resting s) ≡ true → 64 ≤ room
      → feeding_of (resting s) m room ≡ saying s (length m) (message_of m)
  whole_fed s room v enough =
      let fits = le_trans (reply_short s (message_of m) (valid_settings s between v)) enough in
      message_comes s room ∙ rw (v, le-ltb room (length (reply_of s (message_of m))) fits) refl

  -- so does every call that is not refused for want of room
  pub whole_answered : (s : Settings) (room : ℕ) → valid (resting s) ≡ true
      → has_room (feeding_of (resting s) m room) → feeding_of (resting s) m room ≡ saying s (length m) (message_of m)
  whole_answered s room v some =
      by_test (ltb room (length (reply_of s (message_of m))))
      (λ short.
      let no_room_lem : feeding_of (resting s) m room ≡ refused 20 (resting s) = message_comes s room ∙ rw (v, short) refl in
      absurd (some (ap (λ (f : Feeding). f.fed.code) no_room_lem)))
      (λ fits. message_comes s room ∙ rw (v, fits) refl)

  -- part by part
  pub message_fed : (s : Settings) (room : ℕ) → valid (resting s) ≡ true → has_room (feeding_of (resting s) m room)
      → ((feeding_of (resting s) m room).fed.code ≡ code_of s (message_of m))
      × ((feeding_of (resting s) m room).fed.station ≡ resting (settings_after s (message_of m)))
      × ((feeding_of (resting s) m room).bytes ≡ reply_of s (message_of m))
  message_fed s room v some =
      let said = whole_answered s room v some in (
        ap (λ (f : Feeding). f.fed.code) said,
        ap (λ (f : Feeding). f.fed.station) said,
        ap (λ (f : Feeding). f.bytes) said,
      )
