-- Scripts (02, No. 11): "Operators' scripts set things in any order." What holds of two sets holds of a whole script, in whatever pieces it
-- comes: sets that stand side by side may change places, any number of times.
use Rattle.std.specs.Prelude.{ℕ, ◌≤◌, ◌≡◌, true, List, [], ◌∷◌, ◌++◌, map, length}
use Rattle.wire.specs.Lists.{each, joined as joined_messages}
use Rattle.items.specs.declared.Settings.{Settings}
use Rattle.items.specs.Answer.{settings_after, reply_of}
use Rattle.items.specs.Touching.{named}
use Rattle.items.specs.EitherOrder.{Exchangeable}
use Rattle.station.specs.Station.{valid}
use Rattle.station.specs.Serving.{Piece, joined, roomy, unserved, serving}
use Rattle.demands.specs.Shown.{message_of, resting}
use Rattle.demands.specs.EitherOrder.{WholeSet, set_frequency, set_gain, set_clock, set_rate, small_packets, two_channels}

-- a script: whole sets, of whatever items (`02 00`, which is no set and is not answered, is left out)
abbrev pub Script : List (List ℕ) → Type 0
Script = each (λ m. WholeSet m × (3 ≤ length m))

-- two messages that may change places
abbrev pub MayChange : List ℕ → List ℕ → Type 0
MayChange m n = Exchangeable (named (message_of m)) (named (message_of n))

-- One list is another in another order: neighbours of which it is allowed have changed places, any number of times.
pub data Reordered {A : Type 0} (Allowed : A → A → Type 0) : List A → List A → Type 0 where
  as_it_was : (xs : List A) → Reordered Allowed xs xs
  swapped : (x y : A) (xs : List A) → Allowed x y → Reordered Allowed (x ∷ y ∷ xs) (y ∷ x ∷ xs)
  behind : (x : A) (xs ys : List A) → Reordered Allowed xs ys → Reordered Allowed (x ∷ xs) (x ∷ ys)
  again : (xs ys zs : List A) → Reordered Allowed xs ys → Reordered Allowed ys zs → Reordered Allowed xs zs

-- those that may change places have done so
abbrev pub Exchanged : List (List ℕ) → List (List ℕ) → Type 0
Exchanged = Reordered MayChange

-- any have
abbrev pub InSomeOrder : {A : Type 0} → List A → List A → Type 0
InSomeOrder = Reordered (λ x y. Unit {0})

-- a message and the reply that it gets
pub record WithReply : Type 0 where
  pub message : List ℕ
  pub reply : List ℕ

-- each message of a script with its reply
abbrev pub answers_to : Settings → List (List ℕ) → List WithReply
answers_to s [] = []
answers_to s (m ∷ ms) = record { message = m; reply = reply_of s (message_of m) } ∷ answers_to (settings_after s (message_of m)) ms

-- A script in two orders, each in any pieces: the box comes to the same, and each message gets the same reply.
pub record ScriptServed (s : Settings) (ms ns : List (List ℕ)) (forwards otherwise : List Piece) : Type 0 where
  pub box : (serving (unserved (resting s)) forwards).station ≡ (serving (unserved (resting s)) otherwise).station
  pub replies : (serving (unserved (resting s)) forwards).replies ≡ map (λ a. a.reply) (answers_to s ms)
  pub other_replies : (serving (unserved (resting s)) otherwise).replies ≡ map (λ a. a.reply) (answers_to s ns)
  pub same_replies : InSomeOrder (answers_to s ms) (answers_to s ns)

abbrev pub ScriptsInEitherOrder : Type 0
ScriptsInEitherOrder =
    (s : Settings) (ms ns : List (List ℕ)) (forwards otherwise : List Piece) → valid (resting s) ≡ true → Script ms → Exchanged ms ns
    → roomy forwards → joined forwards ≡ joined_messages ms → roomy otherwise → joined otherwise ≡ joined_messages ns
    → ScriptServed s ms ns forwards otherwise

-- Where every two may change places, a script may be put into any order.
abbrev pub EveryTwo : List (List ℕ) → Type 0
EveryTwo [] = Unit {0}
EveryTwo (m ∷ ms) = each (MayChange m) ms × EveryTwo ms

abbrev pub InAnyOrder : Type 0
InAnyOrder = (ms ns : List (List ℕ)) → EveryTwo ms → InSomeOrder ms ns → Exchanged ms ns

-- such a script: one set of each item
abbrev pub one_of_each : List (List ℕ)
one_of_each = two_channels ∷ set_frequency 0x00 ∷ set_gain 0x00 0xF6 ∷ set_clock ∷ set_rate ∷ small_packets ∷ []

-- Two sets: both one after the other, and the other way round, each cut into any pieces. The replies are those that the box as it was would
-- give to either.
pub record TwoServed (s : Settings) (m n : List ℕ) (forwards otherwise : List Piece) : Type 0 where
  pub box : (serving (unserved (resting s)) forwards).station ≡ (serving (unserved (resting s)) otherwise).station
  pub replies : (serving (unserved (resting s)) forwards).replies ≡ reply_of s (message_of m) ∷ reply_of s (message_of n) ∷ []
  pub other_replies : (serving (unserved (resting s)) otherwise).replies ≡ reply_of s (message_of n) ∷ reply_of s (message_of m) ∷ []

abbrev pub SetsServedInEitherOrder : Type 0
SetsServedInEitherOrder =
    (s : Settings) (m n : List ℕ) (forwards otherwise : List Piece) → valid (resting s) ≡ true → WholeSet m → WholeSet n → MayChange m n
    → roomy forwards → joined forwards ≡ m ++ n → roomy otherwise → joined otherwise ≡ n ++ m
    → TwoServed s m n forwards otherwise
