-- A piece in the midst of being handed over: what is left of it leads to the box and the replies that the whole leads to.
-- Assumes nothing.
use Prim.Native.Nat.{ℕ, zero, suc, ◌-◌, ◌≤◌, ◌<◌}
use native.Mathlib.Nat.{le_refl}
use native.Mathlib.Omega.{arith}
use mathlib.Core.Path.{◌≡◌, refl, sym, ap, ◌∙◌}
use mathlib.Core.Bool.{true}
use mathlib.Core.List.{List, [], ◌∷◌}
use lib.ListN.{length, take, drop, length-drop}
use lib.Seq.{take_all}
use Rattle.station.specs.declared.Station.{Station}
use Rattle.station.specs.Feeding.{Fed}
use Rattle.station.specs.Station.{valid}
use Rattle.station.specs.Feeding.{feeding_of}
use Rattle.station.specs.Serving.{Served, called, calling, serving}
use Rattle.station.proofs.Calls.{feeding_within, feeding_keeps, feeding_some}
use Rattle.session.specs.Session.{piece, handed, HandedOver}

-- handing over goes on with a box and the replies so far, for at most so many calls
abbrev leading : ℕ → Served → List ℕ → Served
leading calls r host = calling (piece host).rooms calls r host

none_left : (calls : ℕ) (r : Served) (host : List ℕ) → length host ≡ 0 → leading calls r host ≡ r
unfolding calling
none_left zero r host none = refl
none_left (suc calls) r [] none = refl
none_left (suc calls) r (b ∷ bs) none = absurd (omega arith)

one_call : (calls : ℕ) (r : Served) (host : List ℕ) → 0 < calls → 0 < length host
    → leading calls r host ≡ leading (calls - 1) (called 64 r host) (drop (feeding_of r.station host 64).fed.consumed host)
unfolding calling
one_call zero r host some more = absurd (omega arith)
one_call (suc calls) r [] some more = absurd (omega arith)
one_call (suc calls) r (b ∷ bs) some more = let down : suc calls - 1 ≡ calls = omega arith in rw down refl

-- the box now, with `rest` of the piece left: the replies so far, and calls enough for the rest
pub record Going (s : Station) (host : List ℕ) (now : Station) (rest : List ℕ) : Type 0 where
  pub valid : valid now ≡ true
  pub replies : List (List ℕ)
  pub calls : ℕ
  pub enough : length rest ≤ calls
  pub left : leading calls (record { station = now; replies = replies }) rest ≡ handed s host

pub begins : (s : Station) (host : List ℕ) → valid s ≡ true → Going s host s host
unfolding serving
begins s host v = record { valid = v; replies = []; calls = length host; enough = le_refl (length host); left = refl }

pub ends : (s : Station) (host : List ℕ) (now : Station) (rest : List ℕ) → Going s host now rest → length rest ≡ 0 → HandedOver s host now
ends s host now rest g none =
    record {
      box = ap (λ (r : Served). r.station) (sym (none_left g.calls _ rest none) ∙ g.left);
      valid = g.valid;
    }

-- what a call does for it; what is left is a part of what was
pub record Turn (s : Station) (host rest : List ℕ) (r : Fed) : Type 0 where
  pub inside : r.consumed ≤ length rest
  pub less : length (take (length rest - r.consumed) (drop r.consumed rest)) < length rest
  pub going : Going s host r.station (take (length rest - r.consumed) (drop r.consumed rest))

module _ (s : Station) (host : List ℕ) (now : Station) (rest : List ℕ) (g : Going s host now rest) (more : 0 < length rest) where
  abbrev reached : Served
  reached = record { station = now; replies = g.replies }

  some : 1 ≤ (feeding_of now rest 64).fed.consumed
  some = feeding_some now rest 64 g.valid (le_refl 64) more

  goes : Going s host (feeding_of now rest 64).fed.station (drop (feeding_of now rest 64).fed.consumed rest)
  goes =
      record {
        valid = feeding_keeps now rest 64 g.valid;
        replies = (called 64 reached rest).replies;
        calls = g.calls - 1;
        enough = simp length-drop (omega (arith, some, g.enough));
        left = sym (one_call g.calls reached rest (omega (arith, more, g.enough)) more) ∙ g.left;
      }

  -- as the call's own answer says
  pub turns : (r : Fed) → r ≡ (feeding_of now rest 64).fed → Turn s host rest r
  turns r told =
      let used : ℕ = (feeding_of now rest 64).fed.consumed in
      let within : used ≤ length rest = (feeding_within now rest 64).consumed in
      let left = take_all (length rest - used) (drop used rest) (simp length-drop (le_refl _)) in
      rw told
      (record {
        inside = within;
        less = rw left (simp length-drop (omega (arith, some, within)));
        going = rw left goes;
      })
