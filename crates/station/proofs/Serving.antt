-- However the host's bytes are cut, replies and box come out the same: serving is the stream of messages of crate framing,
-- with the box's answer to each.
-- Assumes nothing.
use Prim.Native.Nat.{ℕ, zero, suc, ◌≤◌}
use native.Mathlib.Nat.{le_refl, le_trans}
use mathlib.Core.Path.{◌≡◌, refl, sym, ap, subst, ◌∙◌}
use mathlib.Core.Bool.{Bool, true, false}
use mathlib.Core.List.{List, [], ◌∷◌, ◌++◌}
use lib.ListN.{length, drop}
use Rattle.wire.specs.Choice.{pick}
use Rattle.wire.specs.Lists.{joined as joined_bytes}
use Rattle.framing.specs.Framing.{call_takes}
use Rattle.framing.specs.Stream as stream
use Rattle.framing.specs.Stream.{Stream}
use Rattle.framing.proofs.Cutting.{finished_taking}
use Rattle.framing.proofs.Stream.{handing_eaten}
use Rattle.station.specs.Station.{valid}
use Rattle.station.specs.Feeding.{message_in, feeding_of}
use Rattle.station.specs.Serving.{Served, called, calling, Piece, serving, joined, roomy, CutsDoNotMatter, Come, answer, begun}
use Rattle.station.specs.Serving.{come, ServedToTheEnd}
use Rattle.station.proofs.Calls.{feeding_keeps}
use Rattle.station.proofs.Short.{reply_short}
use Rattle.station.proofs.Valid.{valid_settings, valid_store, feeding_answered, feeding_waiting}

-- a valid box
abbrev Good : Stream Come → Type 0
Good r = valid (come r).station ≡ true

-- what a call comes to in the stream
abbrev next : Stream Come → List ℕ → Stream Come
next r host = stream.called answer r.state (call_takes r.store host)

-- a call of feeding is a call of the stream, and consumes what that takes
next_come : (room : ℕ) (r : Stream Come) (host : List ℕ) → 64 ≤ room → Good r
    → (called room (come r) host ≡ come (next r host))
    × ((feeding_of (come r).station host room).fed.consumed ≡ (call_takes r.store host).count)
next_come room r host enough g = go (call_takes r.store host).finished refl
  where
    go : (d : Bool) → (call_takes r.store host).finished ≡ d
        → let t = (call_takes r.store host).store in
        (called room (come r) host ≡ come (pick d (stream.answered answer r.state t) (stream.keeping r.state t)))
        × ((feeding_of (come r).station host room).fed.consumed ≡ (call_takes r.store host).count)
    go true f =
        let s = r.state.settings in
        let short = reply_short s (message_in (call_takes r.store host).store) (valid_settings s r.store g) in
        rw (feeding_answered s r.store host room g (finished_taking 0 r.store host ∙ f) (le_trans short enough)) (refl, refl)
    go false f =
        rw (feeding_waiting r.state.settings r.store host room g (finished_taking 0 r.store host ∙ f))
        (refl, refl)

-- and leaves a valid box
next_good : (r : Stream Come) (host : List ℕ) → Good r → Good (next r host)
next_good r host g =
    subst (λ (x : Served). valid x.station ≡ true) (next_come 64 r host (le_refl 64) g).0 (feeding_keeps (come r).station host 64 g)

calling_come : (rooms : ℕ → ℕ) (calls : ℕ) (r : Stream Come) (host : List ℕ) → ((n : ℕ) → 64 ≤ rooms n) → Good r
    → (calling rooms calls (come r) host ≡ come (stream.calling answer calls r host)) × Good (stream.calling answer calls r host)
unfolding calling stream.calling
calling_come rooms zero r host enough g = (refl, g)
calling_come rooms (suc calls) r [] enough g = (refl, g)
calling_come rooms (suc calls) r (b ∷ bs) enough g =
    let host = b ∷ bs in
    let here = next_come (rooms calls) r host (enough calls) g in
    let rest = calling_come rooms calls (next r host) (drop (call_takes r.store host).count host) enough (next_good r host g) in (
      ap (λ (x : Served). calling rooms calls x (drop (feeding_of (come r).station host (rooms calls)).fed.consumed host)) here.0
          ∙ ap (λ (n : ℕ). calling rooms calls (come (next r host)) (drop n host)) here.1
          ∙ rest.0,
      rest.1,
    )

abbrev hosts : List Piece → List (List ℕ)
hosts [] = []
hosts (p ∷ ps) = p.host ∷ hosts ps

serving_come : (r : Stream Come) (ps : List Piece) → roomy ps → Good r → serving (come r) ps ≡ come (stream.handing answer r (hosts ps))
unfolding serving stream.handing
serving_come r [] enough g = refl
serving_come r (p ∷ ps) enough g =
    let here = calling_come p.rooms (length p.host) r p.host enough.0 g in
    ap (λ (x : Served). serving x ps) here.0
    ∙ serving_come (stream.calling answer (length p.host) r p.host) ps enough.1 here.1

joined_hosts : (ps : List Piece) → joined_bytes (hosts ps) ≡ joined ps
joined_hosts [] = refl
joined_hosts (p ∷ ps) = ap (λ (l : List ℕ). p.host ++ l) (joined_hosts ps)

pub served_to_the_end : ServedToTheEnd
served_to_the_end s ps v enough =
    serving_come (begun s) ps enough v
    ∙ ap come
    (handing_eaten answer (begun s) (hosts ps) (valid_store s.settings s.store v)
    ∙ ap (stream.eaten answer (begun s)) (joined_hosts ps))

pub cuts_do_not_matter : CutsDoNotMatter
cuts_do_not_matter s ps qs v enough more same =
    served_to_the_end s ps v enough
    ∙ ap (λ (host : List ℕ). come (stream.eaten answer (begun s) host)) same
    ∙ sym (served_to_the_end s qs v more)
