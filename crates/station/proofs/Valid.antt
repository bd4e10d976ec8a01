-- A valid box is settings in their ranges and a store that could be left; and what feeding a valid box comes to.
-- Assumes nothing.
use Prim.Native.Nat.{ℕ, ◌≤◌, ◌<◌}
use mathlib.Core.Path.{◌≡◌, refl, sym, ap, ◌∙◌}
use mathlib.Core.Bool.{Bool, true, false, not}
use mathlib.Core.List.{List}
use native.Mathlib.Omega.{arith}
use lib.Dec.{leb, ltb}
use lib.ListN.{length}
use borrow.Author.Tests.{le-ltb, lt-leb, ltb-false, not-true, not-false}
use Rattle.wire.specs.Choice.{pick}
use Rattle.wire.proofs.Laws.{and_left, and_right, and_both, pick_keeps}
use Rattle.framing.specs.declared.Store.{Store}
use Rattle.framing.specs.Framing.{Taking, call_takes, finished, could_be_left}
use Rattle.framing.proofs.Cutting.{finished_taking}
use Rattle.items.specs.declared.Settings.{Settings}
use Rattle.items.specs.Settings.{in_range}
use Rattle.items.specs.Answer.{reply_of}
use Rattle.station.specs.declared.Station.{Station}
use Rattle.station.specs.Station.{valid}
use Rattle.station.specs.Feeding.{Feeding, message_in, comes_to, feeding_of, refused, answered, waiting_call}
use Rattle.station.specs.Inside.{answering}
use Rattle.station.proofs.Kept.{code_below}

abbrev pub box : Settings → Store → Station
box s t = record { settings = s; store = t }

pub valid_settings : (s : Settings) (t : Store) → valid (box s t) ≡ true → in_range s ≡ true
unfolding valid
valid_settings s t h = and_left (in_range s) (could_be_left t) h

pub valid_store : (s : Settings) (t : Store) → valid (box s t) ≡ true → could_be_left t ≡ true
unfolding valid
valid_store s t h = and_right (in_range s) (could_be_left t) h

pub valid_both : (s : Settings) (t : Store) → in_range s ≡ true → could_be_left t ≡ true → valid (box s t) ≡ true
unfolding valid
valid_both s t p q = and_both (in_range s) (could_be_left t) p q

-- ---- a call of feeding goes by its checks, one after the other

-- what the bytes come to is no refusal of the call's own: a message's code is under 20
pub comes_below : (s : Station) (host : List ℕ) → (comes_to s host).fed.code < 20
comes_below s host =
    pick_keeps (λ (f : Feeding). f.fed.code < 20) (finished (call_takes s.store host).store) _ _
    (λ f. code_below s.settings (message_in (call_takes s.store host).store)) (λ f. omega arith)

pub feeding_by : (s : Station) (host : List ℕ) (room : ℕ)
    → feeding_of s host room
    ≡ pick (not (valid s)) (refused 21 s) (pick (ltb room (length (comes_to s host).bytes)) (refused 20 s) (comes_to s host))
unfolding feeding_of
feeding_by s host room =
    go (not (valid s)) (ltb room (length (comes_to s host).bytes)) (comes_to s host) (comes_below s host)
  where
    go : (broken short : Bool) (f : Feeding) → f.fed.code < 20
        → let code = pick broken 21 (pick short 20 f.fed.code) in
        pick (leb 20 code) (refused code s) f ≡ pick broken (refused 21 s) (pick short (refused 20 s) f)
    go true short f low = refl
    go false true f low = refl
    go false false f low = rw (lt-leb 20 f.fed.code low) refl

pub feeding_answered : (s : Settings) (t : Store) (host : List ℕ) (room : ℕ) → valid (box s t) ≡ true
    → finished (call_takes t host).store ≡ true → length (reply_of s (message_in (call_takes t host).store)) ≤ room
    → feeding_of (box s t) host room ≡ answered s (call_takes t host)
feeding_answered s t host room v f r =
    rw (feeding_by (box s t) host room, v, f, le-ltb room (length (reply_of s (message_in (call_takes t host).store))) r)

pub feeding_waiting : (s : Settings) (t : Store) (host : List ℕ) (room : ℕ) → valid (box s t) ≡ true
    → finished (call_takes t host).store ≡ false → feeding_of (box s t) host room ≡ waiting_call s (call_takes t host)
feeding_waiting s t host room v f = rw (feeding_by (box s t) host room, v, f, le-ltb room 0 (omega arith))

-- ---- the three ways that a call of feeding goes, by what the framing took

module _ (s : Station) (host : List ℕ) (room : ℕ) where
  pub feeding_broken : valid s ≡ false → feeding_of s host room ≡ refused 21 s
  feeding_broken v = rw (feeding_by s host room, v)

  module _ (t : Taking) (v : valid s ≡ true) (e : t ≡ call_takes s.store host) where
    ends : t.finished ≡ finished (call_takes s.store host).store
    ends = ap (λ (k : Taking). k.finished) e ∙ sym (finished_taking 0 s.store host)

    pub feeding_open : t.finished ≡ false → waiting_call s.settings t ≡ feeding_of s host room
    feeding_open f = rw (feeding_by s host room, v, sym ends ∙ f, e, le-ltb room 0 (omega arith))

    pub feeding_done : t.finished ≡ true → answering s t room ≡ feeding_of s host room
    feeding_done f = rw (feeding_by s host room, v, sym ends ∙ f, e)

-- ---- every way that a call of feeding goes

-- the reply that a call owes for the message that it finishes
abbrev reply : Station → List ℕ → List ℕ
reply s host = reply_of s.settings (message_in (call_takes s.store host).store)

module _ (P : Feeding → Type 0) (s : Station) (host : List ℕ) (room : ℕ) where
  -- what holds of each way that it can go holds of the call
  pub each_way :
      (valid s ≡ false → P (refused 21 s))
      → (valid s ≡ true → P (refused 20 s))
      → (valid s ≡ true → (call_takes s.store host).finished ≡ false → P (waiting_call s.settings (call_takes s.store host)))
      → (valid s ≡ true → (call_takes s.store host).finished ≡ true → length (reply s host) ≤ room
      → P (answered s.settings (call_takes s.store host)))
      → P (feeding_of s host room)
  each_way broken short wait done =
      rw (feeding_by s host room)
      (pick_keeps P (not (valid s)) _ _ (λ v. broken (not-true (valid s) v))
      (λ v. by_end (not-false (valid s) v) (finished (call_takes s.store host).store) refl))
    where
      by_end : valid s ≡ true → (d : Bool) → finished (call_takes s.store host).store ≡ d
          → let f = pick d (answered s.settings (call_takes s.store host)) (waiting_call s.settings (call_takes s.store host)) in
          P (pick (ltb room (length f.bytes)) (refused 20 s) f)
      by_end v true f =
          pick_keeps P (ltb room (length (reply s host))) _ _ (λ l. short v)
          (λ l. done v (sym (finished_taking 0 s.store host) ∙ f) (ltb-false room (length (reply s host)) l))
      by_end v false f =
          pick_keeps P (ltb room 0) _ _ (λ l. short v) (λ l. wait v (sym (finished_taking 0 s.store host) ∙ f))
