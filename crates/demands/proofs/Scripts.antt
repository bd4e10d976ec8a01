-- Scripts: neighbours that may change places, any number of times and in any pieces; two sets as well.
-- Assumes nothing.
use Prim.Native.Nat.{ℕ, ◌≤◌}
use mathlib.Core.Path.{◌≡◌, refl, sym, ap, ◌∙◌}
use mathlib.Core.Bool.{Bool, true, false, ◌||◌}
use mathlib.Core.Logic.{inl, inr}
use mathlib.Core.List.{List, [], ◌∷◌, ◌++◌, map, append-nil}
use native.Mathlib.Decide.{ℕ_discrete}
use native.Mathlib.Nat.{le_refl}
use native.Mathlib.Omega.{arith}
use lib.Dec.{eqb, lit≤}
use lib.ListN.{length, get_or}
use lib.Seq.{append_snoc}
use borrow.Author.Tests.{eqb-true, ne_eqb}
use Rattle.wire.specs.Choice.{pick, one_of}
use Rattle.wire.specs.Header.{nak}
use Rattle.wire.specs.Lists.{each, joined as joined_messages}
use Rattle.wire.proofs.Laws.{never, or_false, one_has}
use Rattle.framing.specs.Framing.{announced}
use Rattle.items.specs.declared.Settings.{Settings}
use Rattle.items.specs.Answer.{Message, item_in, code_of, settings_after, reply_due, reply_of}
use Rattle.items.specs.Header.{unanswered}
use Rattle.items.specs.Touching.{Named, named}
use Rattle.items.specs.EitherOrder.{six_items, channel_items, Exchangeable}
use Rattle.items.proofs.Judging.{reply_by_code}
use Rattle.items.proofs.EitherOrder.{exchangeable_back}
use Rattle.station.specs.Station.{valid}
use Rattle.station.specs.Feeding.{Feeding, feeding_of}
use Rattle.station.specs.Serving.{Served, unserved, noting, Piece, serving, joined, roomy}
use Rattle.demands.specs.Shown.{message_of, resting, after_all}
use Rattle.demands.specs.EitherOrder.{WholeSet}
use Rattle.demands.specs.Scripts.{Script, MayChange, Reordered, as_it_was, swapped, behind, again, Exchanged, InSomeOrder}
use Rattle.demands.specs.Scripts.{WithReply, answers_to}
use Rattle.demands.specs.Scripts.{ScriptsInEitherOrder, EveryTwo, InAnyOrder, one_of_each, SetsServedInEitherOrder}
use Rattle.demands.proofs.OneMessage.{least, saying, whole_fed}
use Rattle.demands.proofs.InPieces.{whole, message_served, pieces_served}
use Rattle.demands.proofs.AskedInPieces.{due_some}
use Rattle.demands.proofs.Given.{codes_given_exactly}
use Rattle.demands.proofs.EitherOrder.{messages_in_either_order, message_stays}

-- ---- a set is answered

-- of two bytes alone a box reads item 0
no_item : (m : List ℕ) → length m ≡ 2 → item_in (message_of m) ≡ 0
no_item [] two = absurd (omega arith)
no_item (a ∷ []) two = absurd (omega arith)
no_item (a ∷ b ∷ []) two = refl
no_item (a ∷ b ∷ c ∷ m) two = absurd (omega arith)

-- so a whole set of one of the six items has more
three_bytes : (m : List ℕ) → WholeSet m → one_of (item_in (message_of m)) six_items ≡ true → 3 ≤ length m
three_bytes m set among =
    elim (ℕ_discrete (length m) 2) [
      | yes two ↦ never (rw (no_item m two) at among)
      | no other ↦ more (least m set.announces) other
    ]
  where
    more : 2 ≤ length m → (length m ≡ 2 → ⊥) → 3 ≤ length m
    more least other = omega arith

-- Not answered is `02 00` alone.
set_answered : (s : Settings) (m : List ℕ) → WholeSet m → 3 ≤ length m → 1 ≤ length (reply_of s (message_of m))
set_answered s m set long = rw (reply_by_code s message, ne_eqb (code_of s message) 2 not_silent) (go (eqb (code_of s message) 1))
  where
    message : Message
    message = message_of m

    -- a reply, or NAK
    go : (done : Bool) → 1 ≤ length (pick done (reply_due s message) nak)
    go true = due_some s message
    go false = lit≤ tt

    unanswered_so : code_of s message ≡ 2 → unanswered message.type message.size (get_or message.bytes 2 0) ≡ true
    unanswered_so e = ((codes_given_exactly.message s message (_ ∷ []) _ _ refl).0 e).1

    two_bytes : (eqb message.size 2 || false) || false ≡ true → message.size ≡ 2
    two_bytes h = eqb-true message.size 2 (sym (or_false _) ∙ sym (or_false _) ∙ h)

    not_silent : code_of s message ≡ 2 → ⊥
    not_silent e =
        let size = two_bytes (rw set.is_set at (unanswered_so e)) in
        let two : length m ≡ 2 = sym set.announces ∙ rw (set.is_set, size) refl in
        omega (arith, two)

-- ---- a script in its order

noted : (replies : List (List ℕ)) (reply : List ℕ) → 1 ≤ length reply → noting replies reply ≡ replies ++ reply ∷ []
noted replies [] some = absurd (omega arith)
noted replies (b ∷ bs) some = refl

-- what a script leads to, and what is written behind these replies
abbrev led : Settings → List (List ℕ) → List (List ℕ) → Served
led s replies ms =
    record { station = resting (after_all s (map message_of ms)); replies = replies ++ map (λ (a : WithReply). a.reply) (answers_to s ms) }

-- each message in a piece of its own
wholes_served : (s : Settings) (replies ms : List (List ℕ)) → valid (resting s) ≡ true → Script ms
    → serving (record { station = resting s; replies = replies }) (map whole ms) ≡ led s replies ms
unfolding serving
wholes_served s replies [] v script = rw append-nil refl
wholes_served s replies (m ∷ ms) v script =
    message_served s v m replies (map whole ms) announces
    ∙ ap (λ (f : Feeding). serving (record { station = f.fed.station; replies = noting replies f.bytes }) (map whole ms)) fed
    ∙ ap (λ (l : List (List ℕ)). serving (record { station = resting next; replies = l }) (map whole ms))
    (noted replies reply (set_answered s m script.0.0 script.0.1))
    ∙ wholes_served next (replies ++ reply ∷ []) ms (message_stays s m v) script.1
    ∙ ap (λ (l : List (List ℕ)). record { station = resting (after_all next (map message_of ms)); replies = l })
    (append_snoc replies reply (map (λ (a : WithReply). a.reply) (answers_to next ms)))
  where
    announces : announced m ≡ length m
    announces = script.0.0.announces

    next : Settings
    next = settings_after s (message_of m)

    reply : List ℕ
    reply = reply_of s (message_of m)

    fed : feeding_of (resting s) m 64 ≡ saying s (length m) (message_of m)
    fed = whole_fed m announces s 64 v (le_refl 64)

wholes_joined : (ms : List (List ℕ)) → joined (map whole ms) ≡ joined_messages ms
wholes_joined [] = refl
wholes_joined (m ∷ ms) = ap (λ (l : List ℕ). m ++ l) (wholes_joined ms)

wholes_roomy : (ms : List (List ℕ)) → roomy (map whole ms)
wholes_roomy [] = tt
wholes_roomy (m ∷ ms) = (λ calls. le_refl 64, wholes_roomy ms)

-- and so in any pieces
script_served : (s : Settings) (ms : List (List ℕ)) (pieces : List Piece) → valid (resting s) ≡ true → Script ms → roomy pieces
    → joined pieces ≡ joined_messages ms → serving (unserved (resting s)) pieces ≡ led s [] ms
script_served s ms pieces v script enough e =
    pieces_served s v pieces (map whole ms) enough (wholes_roomy ms) (e ∙ sym (wholes_joined ms)) ∙ wholes_served s [] ms v script

-- ---- in another order

-- what each has, each has in another order
each_reordered : {A : Type 0} (Allowed : A → A → Type 0) (P : A → Type 0) (xs ys : List A) → Reordered Allowed xs ys → each P xs
    → each P ys
each_reordered Allowed P xs ys (as_it_was l) h = h
each_reordered Allowed P xs ys (swapped x y l may) h = (h.1.0, (h.0, h.1.1))
each_reordered Allowed P xs ys (behind x l k r) h = (h.0, each_reordered Allowed P l k r h.1)
each_reordered Allowed P xs ys (again l k j r q) h = each_reordered Allowed P k j q (each_reordered Allowed P l k r h)

script_exchanged : (ms ns : List (List ℕ)) → Exchanged ms ns → Script ms → Script ns
script_exchanged = each_reordered MayChange (λ m. WholeSet m × (3 ≤ length m))

-- the settings after it
settings_exchanged : (s : Settings) (ms ns : List (List ℕ)) → Exchanged ms ns → Script ms
    → after_all s (map message_of ms) ≡ after_all s (map message_of ns)
settings_exchanged s ms ns (as_it_was l) h = refl
settings_exchanged s ms ns (swapped m n l pair) h =
    ap (λ (t : Settings). after_all t (map message_of l)) (messages_in_either_order s m n h.0.0 h.1.0.0 pair).settings
settings_exchanged s ms ns (behind m l k r) h = settings_exchanged (settings_after s (message_of m)) l k r h.1
settings_exchanged s ms ns (again l k j r q) h =
    settings_exchanged s l k r h ∙ settings_exchanged s k j q (script_exchanged l k r h)

-- a message with its reply
abbrev answer : Settings → List ℕ → WithReply
answer s m = record { message = m; reply = reply_of s (message_of m) }

-- and each message's reply
answers_exchanged : (s : Settings) (ms ns : List (List ℕ)) → Exchanged ms ns → Script ms
    → InSomeOrder (answers_to s ms) (answers_to s ns)
answers_exchanged s ms ns (as_it_was l) h = as_it_was (answers_to s l)
answers_exchanged s ms ns (swapped m n l pair) h =
    let either = messages_in_either_order s m n h.0.0 h.1.0.0 pair in
    rw (either.replies.0, either.replies.1, either.settings) (swapped (answer s m) (answer s n) _ tt)
answers_exchanged s ms ns (behind m l k r) h =
    let next = settings_after s (message_of m) in
    behind (answer s m) (answers_to next l) (answers_to next k) (answers_exchanged next l k r h.1)
answers_exchanged s ms ns (again l k j r q) h =
    again (answers_to s l) (answers_to s k) (answers_to s j) (answers_exchanged s l k r h)
    (answers_exchanged s k j q (script_exchanged l k r h))

pub scripts_in_either_order : ScriptsInEitherOrder
scripts_in_either_order s ms ns forwards otherwise v script order enough e more d =
    let forth = script_served s ms forwards v script enough e in
    let back = script_served s ns otherwise v (script_exchanged ms ns order script) more d in
    record {
      box =
          ap (λ (r : Served). r.station) forth
          ∙ ap resting (settings_exchanged s ms ns order script)
          ∙ sym (ap (λ (r : Served). r.station) back);
      replies = ap (λ (r : Served). r.replies) forth;
      other_replies = ap (λ (r : Served). r.replies) back;
      same_replies = answers_exchanged s ms ns order script;
    }

-- ---- in any order

-- every two of them, in any order
two_reordered : (ms ns : List (List ℕ)) → InSomeOrder ms ns → EveryTwo ms → EveryTwo ns
two_reordered ms ns (as_it_was l) h = h
two_reordered ms ns (swapped m n l may) h =
    ((exchangeable_back (named (message_of m)) (named (message_of n)) h.0.0, h.1.0), (h.0.1, h.1.1))
two_reordered ms ns (behind m l k r) h = (each_reordered (λ x y. Unit {0}) (MayChange m) l k r h.0, two_reordered l k r h.1)
two_reordered ms ns (again l k j r q) h = two_reordered k j q (two_reordered l k r h)

pub in_any_order : InAnyOrder
in_any_order ms ns h (as_it_was l) = as_it_was l
in_any_order ms ns h (swapped m n l may) = swapped m n l h.0.0
in_any_order ms ns h (behind m l k r) = behind m l k (in_any_order l k h.1 r)
in_any_order ms ns h (again l k j r q) = again l k j (in_any_order l k h r) (in_any_order k j (two_reordered l k r h) q)

-- there is a script that sets each item
pub one_of_each_lem : Script one_of_each × EveryTwo one_of_each
one_of_each_lem = (search lit≤ depth 20, search inl depth 60)

-- ---- two sets

-- of a pair that may change places
pair_among : (a b : Named) → Exchangeable a b → one_of a.item six_items ≡ true
pair_among a b (inl apart) = apart.among.0
pair_among a b (inr both) = one_has (λ i. one_of i six_items ≡ true) a.item channel_items (refl, (refl, tt)) both.among

pub sets_served_in_either_order : SetsServedInEitherOrder
sets_served_in_either_order s m n forwards otherwise v one two pair enough e more d =
    let a = named (message_of m) in
    let b = named (message_of n) in
    let script : Script (m ∷ n ∷ []) =
    ((one, three_bytes m one (pair_among a b pair)), ((two, three_bytes n two (pair_among b a (exchangeable_back a b pair))), tt)) in
    let served =
    scripts_in_either_order s (m ∷ n ∷ []) (n ∷ m ∷ []) forwards otherwise v script (swapped m n [] pair) enough (rw append-nil e) more
    (rw append-nil d) in
    let either = messages_in_either_order s m n one two pair in
    record {
      box = served.box;
      replies = served.replies ∙ rw either.replies.1 refl;
      other_replies = served.other_replies ∙ rw either.replies.0 refl;
    }
