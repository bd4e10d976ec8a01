-- Which messages a stream of the host's bytes consists of, however it is cut into pieces. What becomes of a message is
-- `answer`'s to say: it is handed each finished store in turn, and gives the next state of whoever answers.
use Rattle.std.specs.Prelude.{ℕ, zero, suc, List, [], ◌∷◌, length, drop}
use Rattle.wire.specs.Choice.{pick}
use Rattle.framing.specs.declared.Store.{Store}
use Rattle.framing.specs.Framing.{Taking, between, pushed, finished, call_takes}

-- where the stream stands: what is kept of an unfinished message, and what the finished ones have led to
pub record Stream (X : Type 0) : Type 0 where
  pub store : Store
  pub state : X

-- a message that is not finished changes nothing else
abbrev pub keeping : {X : Type 0} → X → Store → Stream X
keeping x s = record { store = s; state = x }

module _ {X : Type 0} (answer : X → Store → X) where
  -- a finished message is answered, and "all is zero between messages"
  abbrev pub answered : X → Store → Stream X
  answered x s = record { store = between; state = answer x s }

  -- what one call comes to
  abbrev pub called : X → Taking → Stream X
  called x t = pick t.finished (answered x t.store) (keeping x t.store)

  -- "calling again until the bytes are used up". Each call takes a byte, so as many calls as there are bytes are enough.
  unfoldable pub calling : ℕ → Stream X → List ℕ → Stream X
  calling zero r host = r
  calling (suc calls) r [] = r
  calling (suc calls) r (b ∷ bs) =
      calling calls (called r.state (call_takes r.store (b ∷ bs))) (drop (call_takes r.store (b ∷ bs)).count (b ∷ bs))

  -- the pieces handed over one after the other
  unfoldable pub handing : Stream X → List (List ℕ) → Stream X
  handing r [] = r
  handing r (p ∷ ps) = handing (calling (length p) r p) ps

  -- the stream without any cuts: byte by byte
  abbrev pub eating : Stream X → ℕ → Stream X
  eating r b = pick (finished (pushed r.store b)) (answered r.state (pushed r.store b)) (keeping r.state (pushed r.store b))

  unfoldable pub eaten : Stream X → List ℕ → Stream X
  eaten r [] = r
  eaten r (b ∷ bs) = eaten (eating r b) bs
