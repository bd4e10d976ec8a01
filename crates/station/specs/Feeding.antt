-- One call of feeding: the box, the host's bytes, and how much room there is for a reply.
use Rattle.std.specs.Prelude.{ℕ, Option, None, Some, Result, Ok, Err, not, List, [], ◌∷◌, leb, ltb, length}
use Rattle.wire.specs.Choice.{pick, Check, check, first_of}
use Rattle.wire.specs.Codes as Code
use Rattle.wire.specs.Header.{length_in, type_in}
use Rattle.framing.specs.Framing.{Taking, call_takes, finished, header_in, between}
use Rattle.framing.specs.declared.Store.{Store}
use Rattle.items.specs.declared.Settings.{Settings}
use Rattle.items.specs.Answer.{Message, code_of, reply_of, settings_after}
use Rattle.station.specs.declared.Station.{Station}
use Rattle.station.specs.declared.Parts.{Parts}
use Rattle.station.specs.declared.Fed as Made
use Rattle.station.specs.Station.{valid}
use Rattle.answers.specs.declared.Outcome.{Outcome}
use Rattle.answers.specs.Replies.{outcome_code}
use Rattle.wire.specs.Refusal.{refusal_code}
use Rattle.wire.specs.declared.refusal.Refusal.{Refusal}

-- what one call of feeding did: its code, how many of the host's bytes it consumed, how many bytes of reply it wrote, and the
-- box after it
pub record Fed : Type 0 where
  pub code : ℕ
  pub consumed : ℕ
  pub wrote : ℕ
  pub station : Station

-- the same with a box whose held bytes were lent, and of the box how many bytes of its message are taken, and its settings
pub record FedHeld : Type 0 where
  pub code : ℕ
  pub consumed : ℕ
  pub wrote : ℕ
  pub taken : ℕ
  pub settings : Settings

-- the finished message in a store
abbrev pub message_in : Store → Message
message_in t = record { type = type_in (header_in t.held); size = length_in (header_in t.held); bytes = t.held }

-- what a call returns, and the bytes that it writes at the start of the reply buffer
pub record Feeding : Type 0 where
  pub fed : Fed
  pub bytes : List ℕ

-- a call that is refused: it consumes nothing, writes nothing, and returns the box given
abbrev pub refused : ℕ → Station → Feeding
refused code s = record { fed = record { code = code; consumed = 0; wrote = 0; station = s }; bytes = [] }

-- 0: "waiting, all bytes consumed"
abbrev pub waiting_call : Settings → Taking → Feeding
waiting_call s t =
    record {
      fed = record { code = Code.waiting; consumed = t.count; wrote = 0; station = record { settings = s; store = t.store } };
      bytes = [];
    }

-- a finished message has its code, its reply and its settings; "all is zero between messages"
abbrev pub answered : Settings → Taking → Feeding
answered s t =
    record {
      fed =
          record {
            code = code_of s (message_in t.store);
            consumed = t.count;
            wrote = length (reply_of s (message_in t.store));
            station = record { settings = settings_after s (message_in t.store); store = between };
          };
      bytes = reply_of s (message_in t.store);
    }

-- what the host's bytes come to: a message that they finish is answered, any other waits
abbrev pub comes_to : Station → List ℕ → Feeding
comes_to s host =
    let t = call_takes s.store host in
    pick (finished t.store) (answered s.settings t) (waiting_call s.settings t)

-- "Orders: feeding 21, 20." 20: "lent buffer shorter than what this call would write"
abbrev pub feed_checks : Station → List ℕ → ℕ → List Check
feed_checks s host room =
    check Code.broken (not (valid s))
    ∷ check Code.no_room (ltb room (length (comes_to s host).bytes))
    ∷ []

-- the call's code: where nothing speaks against the call, 0 or the finished message's own
abbrev pub feed_code : Station → List ℕ → ℕ → ℕ
feed_code s host room = first_of (feed_checks s host room) (comes_to s host).fed.code

-- "Codes from 20 consume nothing and return the state given."
unfoldable pub feeding_of : Station → List ℕ → ℕ → Feeding
feeding_of s host room = pick (leb 20 (feed_code s host room)) (refused (feed_code s host room) s) (comes_to s host)

-- the same where the bytes held are lent: of the box there is left how many were taken, and the settings
abbrev pub parts_of : Fed → FedHeld
parts_of f =
    record {
      code = f.code;
      consumed = f.consumed;
      wrote = f.wrote;
      taken = f.station.store.taken;
      settings = f.station.settings;
    }

-- ---- the same of what the code answers with

-- the code of a call: it waits, or has the message's own
abbrev pub call_code : Option Outcome → ℕ
call_code None = Code.waiting
call_code (Some o) = outcome_code o

abbrev pub fed_says : Station → Result (Made.Fed Station) Refusal → Fed
fed_says s (Ok f) = record { code = call_code f.outcome; consumed = f.consumed; wrote = f.wrote; station = f.left }
fed_says s (Err r) = (refused (refusal_code r) s).fed

abbrev pub held_says : Parts → Result (Made.Fed Parts) Refusal → FedHeld
held_says p (Ok f) =
    record { code = call_code f.outcome; consumed = f.consumed; wrote = f.wrote; taken = f.left.taken; settings = f.left.settings }
held_says p (Err r) = record { code = refusal_code r; consumed = 0; wrote = 0; taken = p.taken; settings = p.settings }
