-- Demand 2 of a host whose bytes come in pieces: the two calls of ShownFed.antt, for any pieces of their bytes.
-- Assumes nothing.
use Prim.Native.Nat.{ℕ, ◌≤◌}
use native.Mathlib.Nat.{le_refl}
use native.Mathlib.Omega.{arith}
use mathlib.Core.Path.{◌≡◌, ap, ◌∙◌}
use mathlib.Core.Bool.{true}
use mathlib.Core.List.{List, [], ◌∷◌, append-nil}
use lib.ListN.{length}
use Rattle.framing.specs.Framing.{announced}
use Rattle.items.specs.declared.Settings.{Settings}
use Rattle.items.specs.Answer.{settings_after}
use Rattle.station.specs.declared.Station.{Station}
use Rattle.station.specs.Station.{valid}
use Rattle.station.specs.Feeding.{feeding_of}
use Rattle.station.specs.Serving.{Served, unserved, noting, called, serving}
use Rattle.station.proofs.Calls.{feeding_keeps, feeding_some}
use Rattle.demands.specs.Shown.{message_of, resting, has_room, value_set, showing}
use Rattle.demands.specs.ShownInPieces.{SetShowsLaterInPieces}
use Rattle.demands.proofs.ShownFed.{fed_set_shows}
use Rattle.demands.proofs.Refused.{fed_refused}
use Rattle.demands.proofs.OneMessage.{least, message_fed}
use Rattle.demands.proofs.InPieces.{whole, message_served, pieces_served}

-- 64 bytes are room enough
roomy_call : (s : Station) (host : List ℕ) → valid s ≡ true → 2 ≤ length host → has_room (feeding_of s host 64)
roomy_call s host v some e =
    let consumed = feeding_some s host 64 v (le_refl 64) (omega arith) in
    omega (arith, (fed_refused s host 64 (omega arith)).2)

-- two messages, each in one call
two_served : (s after : Settings) (m q : List ℕ) → valid (resting s) ≡ true → (feeding_of (resting s) m 64).fed.station ≡ resting after
    → announced m ≡ length m → announced q ≡ length q
    → serving (unserved (resting s)) (whole m ∷ whole q ∷ []) ≡ called 64 (called 64 (unserved (resting s)) m) q
unfolding serving
two_served s after m q v is one two =
    let stays : valid (resting after) ≡ true = rw is at (feeding_keeps (resting s) m 64 v) in
    message_served s v m [] (whole q ∷ []) one
    ∙ rw is (message_served after stays q (noting [] (feeding_of (resting s) m 64).bytes) [] two)

pub set_shows_later_in_pieces : SetShowsLaterInPieces
set_shows_later_in_pieces s m q pieces v one kind h two asked covered answered enough e =
    let after = settings_after s (message_of m) in
    let room = roomy_call (resting s) m v (least m one.announces) in
    let later = roomy_call (feeding_of (resting s) m 64).fed.station q (feeding_keeps (resting s) m 64 v) (least q two.announces) in
    let shown = fed_set_shows s m 64 q 64 v room later one kind h two asked covered answered in
    ap (λ (r : Served). r.replies)
    (pieces_served s v pieces (whole m ∷ whole q ∷ []) enough (λ n. le_refl 64, (λ n. le_refl 64, tt)) (rw append-nil e)
    ∙ two_served s after m q v (message_fed m one.announces s 64 v room).1 one.announces two.announces)
    ∙ ap (noting (noting [] (feeding_of (resting s) m 64).bytes)) shown.1.1
    ∙ ap (λ (reply : List ℕ). noting (noting [] reply) (showing (message_of q) (value_set s (message_of m)))) shown.0.1
