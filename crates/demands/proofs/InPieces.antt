-- Whole messages, each in a piece of its own: one call takes it. No cuts matter, so what holds of these pieces holds of
-- any pieces of the same bytes.
-- Assumes nothing.
use Prim.Native.Nat.{ℕ, zero, suc, ◌≤◌}
use native.Mathlib.Nat.{le_refl, le_trans}
use native.Mathlib.Omega.{arith}
use mathlib.Core.Path.{◌≡◌, refl, ap, ◌∙◌}
use mathlib.Core.Bool.{true}
use mathlib.Core.List.{List, [], ◌∷◌}
use lib.Dec.{lit≤}
use lib.ListN.{length, drop, drop_of_length-le}
use Rattle.framing.specs.Framing.{announced}
use Rattle.items.specs.declared.Settings.{Settings}
use Rattle.station.specs.Station.{valid}
use Rattle.station.specs.Feeding.{Feeding, feeding_of}
use Rattle.station.specs.Serving.{Served, unserved, called, calling, Piece, serving, joined, roomy}
use Rattle.station.proofs.Serving.{cuts_do_not_matter}
use Rattle.demands.specs.Shown.{resting}
use Rattle.demands.proofs.OneMessage.{least, whole_fed}

-- a piece that has all of some bytes
abbrev pub whole : List ℕ → Piece
whole host = record { rooms = λ calls. 64; host = host }

calling_none : (rooms : ℕ → ℕ) (calls : ℕ) (r : Served) → calling rooms calls r [] ≡ r
unfolding calling
calling_none rooms zero r = refl
calling_none rooms (suc calls) r = refl

-- after a call that has consumed all there is no other
called_once : (r : Served) (host : List ℕ) → 1 ≤ length host → (feeding_of r.station host 64).fed.consumed ≡ length host
    → calling (λ calls. 64) (length host) r host ≡ called 64 r host
unfolding calling
called_once r [] some all = absurd (omega arith)
called_once r (b ∷ bs) some all =
    ap (calling (λ calls. 64) (length bs) (called 64 r (b ∷ bs)))
    (ap (λ (n : ℕ). drop n (b ∷ bs)) all ∙ drop_of_length-le (b ∷ bs) (le_refl (length (b ∷ bs))))
    ∙ calling_none (λ calls. 64) (length bs) (called 64 r (b ∷ bs))

module _ (s : Settings) (v : valid (resting s) ≡ true) where
  -- a whole message is consumed by the call that answers it
  message_consumed : (m : List ℕ) → announced m ≡ length m → (feeding_of (resting s) m 64).fed.consumed ≡ length m
  message_consumed m one = ap (λ (f : Feeding). f.fed.consumed) (whole_fed m one s 64 v (le_refl 64))

  -- so that call is all of its piece's serving
  pub message_served : (m : List ℕ) (replies : List (List ℕ)) (rest : List Piece) → announced m ≡ length m
      → serving (record { station = resting s; replies = replies }) (whole m ∷ rest)
      ≡ serving (called 64 (record { station = resting s; replies = replies }) m) rest
  unfolding serving
  message_served m replies rest one =
      ap (λ (r : Served). serving r rest)
      (called_once (record { station = resting s; replies = replies }) m (le_trans (lit≤ tt) (least m one))
      (message_consumed m one))

  -- any pieces are as good as whole messages
  pub pieces_served : (pieces wholes : List Piece) → roomy pieces → roomy wholes → joined pieces ≡ joined wholes
      → serving (unserved (resting s)) pieces ≡ serving (unserved (resting s)) wholes
  pieces_served pieces wholes enough more same =
      cuts_do_not_matter (resting s) pieces wholes v enough more same
