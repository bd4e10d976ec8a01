-- Two settings, either order, of the box: what holds of the messages (items/proofs/EitherOrder) holds of a box that is fed them; and the
-- examples, computed.
-- Assumes nothing.
use Prim.Native.Nat.{ℕ}
use mathlib.Core.Path.{◌≡◌, refl, sym, ap, ◌∙◌}
use mathlib.Core.Bool.{Bool, true, false, not}
use mathlib.Core.List.{List, [], ◌∷◌}
use mathlib.Core.Logic.{inl, inr}
use lib.Dec.{ltb}
use lib.ListN.{length}
use Rattle.wire.specs.Choice.{pick}
use Rattle.wire.specs.Lists.{each, same}
use Rattle.wire.proofs.Laws.{true_not_false, by_test, either_made}
use Rattle.wire.proofs.Lists.{eq_same}
use Rattle.rates.specs.Rate.{nearest_up_to, rate_of}
use Rattle.tuning.specs.Word.{word_of}
use Rattle.framing.specs.Framing.{taking, between, announced, could_be_left}
use Rattle.framing.proofs.Leaving.{between_left}
use Rattle.items.specs.declared.Settings.{Settings}
use Rattle.items.specs.Settings.{in_range}
use Rattle.items.specs.Items.{listed_item, row_of}
use Rattle.items.specs.Answer.{Message, code_of, settings_after, reply_of}
use Rattle.items.specs.Touching.{named}
use Rattle.items.specs.EitherOrder.{EitherOrder, Exchangeable}
use Rattle.items.proofs.Rows.{◌then◌}
use Rattle.items.proofs.EitherOrder.{sets_in_either_order}
use Rattle.station.specs.declared.Station.{Station}
use Rattle.station.specs.Station.{valid}
use Rattle.station.specs.Feeding.{Feeding, feeding_of, refused}
use Rattle.station.proofs.Kept.{message_keeps}
use Rattle.station.proofs.Valid.{valid_settings, valid_both, feeding_broken}
use Rattle.demands.specs.Shown.{message_of, resting}
use Rattle.demands.specs.EitherOrder.{WholeSet, box_after, SameAnswer, FedInEitherOrder, SetsFedInEitherOrder}
use Rattle.demands.specs.EitherOrder.{InOneOrder, BothOrders, Computes, commuting, Claimed, exceptions, IsException, OrderTells}
use Rattle.demands.proofs.OneMessage.{saying, message_comes}

-- ---- one message, in two boxes that answer it alike

-- a valid box in which a message has the code and the reply that it has in this one
record Alike (s : Settings) (m : Message) (t : Settings) : Type 0 where
  is_valid : valid (resting t) ≡ true
  code : code_of t m ≡ code_of s m
  reply : reply_of t m ≡ reply_of s m

itself : (s : Settings) (m : Message) → valid (resting s) ≡ true → Alike s m s
itself s m v = record { is_valid = v; code = refl; reply = refl }

module _ (s : Settings) (m : List ℕ) (room : ℕ) (announces : announced m ≡ length m) where
  -- there is not enough room for the reply
  abbrev short : Bool
  short = ltb room (length (reply_of s (message_of m)))

  abbrev fed : Settings → Feeding
  fed t = pick short (refused 20 (resting t)) (saying t (length m) (message_of m))

  fed_so : (t : Settings) → Alike s (message_of m) t → feeding_of (resting t) m room ≡ fed t
  fed_so t alike = message_comes m announces t room ∙ rw (alike.is_valid, alike.reply) refl

  -- the settings after it
  abbrev next : Settings → Settings
  next t = pick (not short) (settings_after t (message_of m)) t

  next_so : (t : Settings) → Alike s (message_of m) t → box_after (resting t) m room ≡ resting (next t)
  next_so t alike = ap (λ (f : Feeding). f.fed.station) (fed_so t alike) ∙ go short
    where
      go : (b : Bool)
          → (pick b (refused 20 (resting t)) (saying t (length m) (message_of m))).fed.station
          ≡ resting (pick (not b) (settings_after t (message_of m)) t)
      go true = refl
      go false = refl

  -- both tell the host the same
  same_answer : (t : Settings) → valid (resting s) ≡ true → Alike s (message_of m) t → (b : Station) → b ≡ resting t
      → SameAnswer (feeding_of (resting s) m room) (feeding_of b m room)
  same_answer t v alike b is = rw (is, fed_so s (itself s (message_of m) v), fed_so t alike) (go short)
    where
      go : (b : Bool)
          → SameAnswer (pick b (refused 20 (resting s)) (saying s (length m) (message_of m)))
          (pick b (refused 20 (resting t)) (saying t (length m) (message_of m)))
      go true = (refl, refl, refl, refl)
      go false = (sym alike.code, refl, ap length (sym alike.reply), sym alike.reply)

-- a message leaves a valid box
pub message_stays : (s : Settings) (m : List ℕ) → valid (resting s) ≡ true → valid (resting (settings_after s (message_of m))) ≡ true
message_stays s m v =
    valid_both (settings_after s (message_of m)) between (message_keeps s (message_of m) (valid_settings s between v)) between_left

-- in which another is answered alike, whether the first was taken or had no room for its reply
alike_behind : (s : Settings) (m : Message) (n : List ℕ) (taken : Bool) → valid (resting s) ≡ true
    → code_of (settings_after s (message_of n)) m ≡ code_of s m → reply_of (settings_after s (message_of n)) m ≡ reply_of s m
    → Alike s m (pick taken (settings_after s (message_of n)) s)
alike_behind s m n true v code reply = record { is_valid = message_stays s n v; code = code; reply = reply }
alike_behind s m n false v code reply = itself s m v

-- ---- two messages

valid_in_either_order : (s : Settings) (m n : List ℕ) (m_room n_room : ℕ) → announced m ≡ length m → announced n ≡ length n
    → EitherOrder s (message_of m) (message_of n) → valid (resting s) ≡ true → FedInEitherOrder (resting s) m n m_room n_room
valid_in_either_order s m n m_room n_room one two either v =
    record {
      box =
          ap (λ (b : Station). box_after b n n_room) after_m
          ∙ next_so s n n_room two behind_m n_behind
          ∙ ap resting
          (either_made (not (short s m m_room one)) (not (short s n n_room two)) (obeyed m) (obeyed n) s (λ b c. either.settings))
          ∙ sym (ap (λ (b : Station). box_after b m m_room) after_n ∙ next_so s m m_room one behind_n m_behind);
      to_m = same_answer s m m_room one behind_n v m_behind (box_after (resting s) n n_room) after_n;
      to_n = same_answer s n n_room two behind_m v n_behind (box_after (resting s) m m_room) after_m;
    }
  where
    obeyed : List ℕ → Settings → Settings
    obeyed x t = settings_after t (message_of x)

    behind_m : Settings
    behind_m = next s m m_room one s

    behind_n : Settings
    behind_n = next s n n_room two s

    after_m : box_after (resting s) m m_room ≡ resting behind_m
    after_m = next_so s m m_room one s (itself s (message_of m) v)

    after_n : box_after (resting s) n n_room ≡ resting behind_n
    after_n = next_so s n n_room two s (itself s (message_of n) v)

    n_behind : Alike s (message_of n) behind_m
    n_behind = alike_behind s (message_of n) m (not (short s m m_room one)) v either.codes.1 either.replies.1

    m_behind : Alike s (message_of m) behind_n
    m_behind = alike_behind s (message_of m) n (not (short s n n_room two)) v either.codes.0 either.replies.0

-- a broken box refuses both
broken_in_either_order : (s : Settings) (m n : List ℕ) (m_room n_room : ℕ) → valid (resting s) ≡ false
    → FedInEitherOrder (resting s) m n m_room n_room
broken_in_either_order s m n m_room n_room broken =
    let stays_m = ap (λ (f : Feeding). f.fed.station) (feeding_broken (resting s) m m_room broken) in
    let stays_n = ap (λ (f : Feeding). f.fed.station) (feeding_broken (resting s) n n_room broken) in
    record {
      box =
          ap (λ (b : Station). box_after b n n_room) stays_m
          ∙ stays_n
          ∙ sym (ap (λ (b : Station). box_after b m m_room) stays_n ∙ stays_m);
      to_m = rw stays_n (refl, refl, refl, refl);
      to_n = rw stays_m (refl, refl, refl, refl);
    }

-- what holds of the messages of two whole sets
pub messages_in_either_order : (s : Settings) (m n : List ℕ) → WholeSet m → WholeSet n
    → Exchangeable (named (message_of m)) (named (message_of n)) → EitherOrder s (message_of m) (message_of n)
messages_in_either_order s m n one two pair = sets_in_either_order s (message_of m) (message_of n) one.is_set two.is_set pair

pub sets_fed_in_either_order : SetsFedInEitherOrder
sets_fed_in_either_order s m n m_room n_room one two pair =
    by_test (valid (resting s))
    (valid_in_either_order s m n m_room n_room one.announces two.announces (messages_in_either_order s m n one two pair))
    (broken_in_either_order s m n m_room n_room)

-- ---- the examples

pub commuting_so : each Computes commuting
unfolding feeding_of valid in_range could_be_left taking listed_item row_of code_of reply_of settings_after word_of nearest_up_to rate_of
commuting_so =
    (refl, refl) then (refl, refl) then (refl, refl) then (refl, refl) then (refl, refl) then (refl, refl) then tt

-- and the claim is about them
pub commuting_claimed : each Claimed commuting
commuting_claimed =
    search inl depth 10
    then search inl depth 10
    then search inl depth 10
    then search inl depth 10
    then search inl depth 10
    then search (inl, inr) depth 10
    then tt

-- sets after which other numbers are seen in the other order do not commute
told_apart : (e : BothOrders) → Computes e → same e.m_first.numbers e.n_first.numbers ≡ false → OrderTells e
told_apart e computes differ either =
    true_not_false (sym (eq_same e.m_first.numbers e.n_first.numbers equal) ∙ differ)
  where
    equal : e.m_first.numbers ≡ e.n_first.numbers
    equal =
        sym (ap (λ (o : InOneOrder). o.numbers) computes.0)
        ∙ ap (λ (b : Station). e.seen b.settings) either.box
        ∙ ap (λ (o : InOneOrder). o.numbers) computes.1

all_told_apart : (es : List BothOrders) → each Computes es → each (λ e. same e.m_first.numbers e.n_first.numbers ≡ false) es
    → each OrderTells es
all_told_apart [] computes differ = tt
all_told_apart (e ∷ es) computes differ = (told_apart e computes.0 differ.0, all_told_apart es computes.1 differ.1)

pub exceptions_so : each Computes exceptions
unfolding feeding_of valid in_range could_be_left taking listed_item row_of code_of reply_of settings_after word_of nearest_up_to rate_of
exceptions_so = (refl, refl) then (refl, refl) then (refl, refl) then (refl, refl) then (refl, refl) then tt

pub exceptions_are : each IsException exceptions
exceptions_are =
    search inl depth 10
    then search inl depth 10
    then search inl depth 10
    then search inl depth 10
    then search inr depth 10
    then tt

pub order_tells : each OrderTells exceptions
order_tells = all_told_apart exceptions exceptions_so (refl then refl then refl then refl then refl then tt)
