-- "A message may be spread over any number of calls": the cuts make no difference. Handing over pieces comes to eating their
-- bytes one by one, and that knows no pieces.
-- Assumes nothing.
use Prim.Native.Nat.{ℕ, zero, suc, ◌+◌, ◌≤◌}
use mathlib.Core.Path.{◌≡◌, refl, sym, ap, ◌∙◌}
use mathlib.Core.Bool.{Bool, true, false}
use mathlib.Core.List.{List, [], ◌∷◌, ◌++◌}
use native.Mathlib.Nat.{le_refl}
use native.Mathlib.Omega.{arith}
use lib.ListN.{length, drop, length-drop}
use Rattle.wire.specs.Choice.{pick}
use Rattle.framing.specs.declared.Store.{Store}
use Rattle.framing.specs.Framing.{Taking, pushed, finished, could_be_left, call_takes}
use Rattle.framing.specs.Stream.{Stream, answered, keeping, called, calling, handing, eating, eaten}
use Rattle.wire.specs.Lists.{joined}
use Rattle.framing.proofs.Cutting.{added, taking_none, taking_on, count_added, taken_left}
use Rattle.framing.proofs.Leaving.{left_open, between_left, pushed_left}
use Rattle.framing.proofs.Runs.{stops}

-- one byte of a message that is not finished, and the rest of the call
taken_on : (s : Store) (b : ℕ) (bs : List ℕ) → finished s ≡ false → call_takes s (b ∷ bs) ≡ added 1 (call_takes (pushed s b) bs)
taken_on s b bs f = taking_on 0 s b bs f ∙ count_added 1 0 (pushed s b) bs

module _ {X : Type 0} (answer : X → Store → X) where
  eaten_append : (r : Stream X) (a b : List ℕ) → eaten answer r (a ++ b) ≡ eaten answer (eaten answer r a) b
  unfolding eaten
  eaten_append r [] b = refl
  eaten_append r (x ∷ a) b = eaten_append (eating answer r x) a b

  -- what a call takes it eats
  eaten_called : (x : X) (s : Store) (host : List ℕ) → finished s ≡ false
      → eaten answer (keeping x s) host ≡ eaten answer (called answer x (call_takes s host)) (drop (call_takes s host).count host)
  unfolding eaten
  eaten_called x s [] f = rw (taking_none 0 s, f) refl
  eaten_called x s (b ∷ bs) f =
      let one : 1 + (call_takes (pushed s b) bs).count ≡ suc (call_takes (pushed s b) bs).count = omega arith in
      rw (taken_on s b bs f, one) (go (finished (pushed s b)) refl (eaten_called x (pushed s b) bs))
    where
      go : (d : Bool) → finished (pushed s b) ≡ d
          → (finished (pushed s b) ≡ false
          → eaten answer (keeping x (pushed s b)) bs
          ≡ eaten answer (called answer x (call_takes (pushed s b) bs)) (drop (call_takes (pushed s b) bs).count bs))
          → eaten answer (pick d (answered answer x (pushed s b)) (keeping x (pushed s b))) bs
          ≡ eaten answer (called answer x (call_takes (pushed s b) bs)) (drop (call_takes (pushed s b) bs).count bs)
      go true g ih = rw (stops 0 (pushed s b) bs g, g) refl
      go false g ih = ih g

  -- a store that could be left stays one
  called_left : (x : X) (s : Store) (host : List ℕ) → could_be_left s ≡ true → could_be_left (called answer x (call_takes s host)).store ≡ true
  called_left x s host h = go (call_takes s host).finished refl
    where
      go : (d : Bool) → (call_takes s host).finished ≡ d
          → could_be_left (pick d (answered answer x (call_takes s host).store) (keeping x (call_takes s host).store)).store ≡ true
      go true f = between_left
      go false f = taken_left 0 s host h f

  calling_eaten : (calls : ℕ) (r : Stream X) (host : List ℕ) → could_be_left r.store ≡ true → length host ≤ calls
      → calling answer calls r host ≡ eaten answer r host
  unfolding calling eaten
  calling_eaten zero r [] h l = refl
  calling_eaten zero r (b ∷ bs) h l = absurd (omega arith)
  calling_eaten (suc calls) r [] h l = refl
  calling_eaten (suc calls) r (b ∷ bs) h l =
      calling_eaten calls (called answer r.state (call_takes r.store (b ∷ bs))) (drop (call_takes r.store (b ∷ bs)).count (b ∷ bs))
      (called_left r.state r.store (b ∷ bs) h)
      (simp length-drop (omega (arith, ap (λ (t : Taking). t.count) (taken_on r.store b bs (left_open r.store h)))))
      ∙ sym (eaten_called r.state r.store (b ∷ bs) (left_open r.store h))

  eaten_left : (r : Stream X) (host : List ℕ) → could_be_left r.store ≡ true → could_be_left (eaten answer r host).store ≡ true
  unfolding eaten
  eaten_left r [] h = h
  eaten_left r (b ∷ bs) h = eaten_left (eating answer r b) bs (go (finished (pushed r.store b)) refl)
    where
      go : (d : Bool) → finished (pushed r.store b) ≡ d
          → could_be_left (pick d (answered answer r.state (pushed r.store b)) (keeping r.state (pushed r.store b))).store ≡ true
      go true f = between_left
      go false f = pushed_left r.store b h f

  pub handing_eaten : (r : Stream X) (ps : List (List ℕ)) → could_be_left r.store ≡ true → handing answer r ps ≡ eaten answer r (joined ps)
  unfolding handing eaten
  handing_eaten r [] h = refl
  handing_eaten r (p ∷ ps) h =
      rw (calling_eaten (length p) r p h (le_refl (length p)))
      (handing_eaten (eaten answer r p) ps (eaten_left r p h) ∙ sym (eaten_append r p (joined ps)))
