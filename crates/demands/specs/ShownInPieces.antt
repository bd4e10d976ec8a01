-- Demand 2, of a host whose bytes come in pieces: "Cutting the host's bytes differently gives the same replies and
-- settings", so a set and a later request are answered with the value set however they are cut, also where one piece has
-- the end of the set and the start of the request.
use Rattle.std.specs.Prelude.{ℕ, ◌≡◌, true, List, [], ◌∷◌, ◌++◌}
use Rattle.wire.specs.Codes as Code
use Rattle.wire.specs.Header.{type_set, type_request}
use Rattle.items.specs.declared.Settings.{Settings}
use Rattle.items.specs.Answer.{code_of, settings_after}
use Rattle.station.specs.Station.{valid}
use Rattle.station.specs.Serving.{Piece, joined, roomy, unserved, serving}
use Rattle.items.specs.Touching.{named, covering}
use Rattle.demands.specs.Shown.{OneMessage, message_of, resting, value_set, showing}

-- A whole set that is to be accepted and a whole request that it covers and that is to be accepted then, one after the other and in any
-- pieces: the replies are these two and no other, in this order, and both show the value set.
abbrev pub SetShowsLaterInPieces : Type 0
SetShowsLaterInPieces =
    (s : Settings) (m q : List ℕ) (pieces : List Piece)
    → valid (resting s) ≡ true
    → OneMessage m → (message_of m).type ≡ type_set → code_of s (message_of m) ≡ Code.done
    → OneMessage q → (message_of q).type ≡ type_request → covering s.setup (named (message_of m)) (named (message_of q)) ≡ true
    → code_of (settings_after s (message_of m)) (message_of q) ≡ Code.done
    → roomy pieces → joined pieces ≡ m ++ q
    → (serving (unserved (resting s)) pieces).replies
    ≡ showing (message_of m) (value_set s (message_of m)) ∷ showing (message_of q) (value_set s (message_of m)) ∷ []
