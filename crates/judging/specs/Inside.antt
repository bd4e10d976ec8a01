-- What the functions inside promise each other, of a set and of a request apart. Nothing of document 01 rests on these
-- definitions; Parts in proofs/ ties them to items/specs/Answer.
use Rattle.std.specs.Prelude.{ℕ, Bool, not, ◌&&◌, List, [], ◌∷◌, eqb, get_or}
use Rattle.wire.specs.Choice.{pick, check, first_of}
use Rattle.wire.specs.Codes as Code
use Rattle.wire.specs.Header.{type_set, type_request}
use Rattle.items.specs.declared.Settings.{Settings}
use Rattle.items.specs.Answer.{Judged}
use Rattle.items.specs.Items.{Item}
use Rattle.items.specs.Answer.{channel_allowed, value_allowed}

-- a request or a range request, by 0019's value: it is not refused while running
abbrev pub asked_by : ℕ → Item → List ℕ → ℕ
asked_by setup i p =
    first_of
    (check Code.channel_not_allowed (not (channel_allowed setup i.echoed type_request (get_or p 0 0)))
    ∷ check Code.value_not_allowed (not (value_allowed i type_request p)) ∷ [])
    Code.done

-- the code of a set, where the channel byte or the value may not be allowed, or the item locked
abbrev pub set_code : Bool → Bool → Bool → ℕ
set_code channel value locked =
    first_of
    (check Code.channel_not_allowed (not channel) ∷ check Code.value_not_allowed (not value) ∷ check Code.not_while_running locked ∷ [])
    Code.done

-- a set with this code, that would leave the settings `to`
abbrev pub decided : Settings → Settings → ℕ → Judged
decided s to code = record { code = code; settings = pick (eqb code Code.done) to s }

-- a set of an item, with these parameters
abbrev pub set_by : Item → Settings → List ℕ → Judged
set_by i s p =
    decided s (i.rule.stored s p)
    (set_code (channel_allowed s.setup i.echoed type_set (get_or p 0 0)) (i.rule.settable p) (s.running && i.rule.locked s p))
