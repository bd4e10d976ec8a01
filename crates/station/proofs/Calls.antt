-- What every call of feeding keeps to. Of any box: it consumes no more than there is, and writes no more than there is room
-- for. Of a valid one: it leaves a valid one, and with room for a reply it consumes a byte where there is one.
-- Assumes nothing.
use Prim.Native.Nat.{ℕ, ◌≤◌, ◌<◌}
use mathlib.Core.Path.{◌≡◌, refl, sym, ap}
use mathlib.Core.Bool.{Bool, true, false}
use mathlib.Core.List.{List, [], ◌∷◌}
use native.Mathlib.Nat.{le_trans}
use native.Mathlib.Omega.{arith}
use lib.ListN.{length}
use Rattle.framing.specs.declared.Store.{Store}
use Rattle.framing.specs.Framing.{call_takes, finished, between}
use Rattle.framing.proofs.Cutting.{count_some, count_most, taken_left}
use Rattle.framing.proofs.Leaving.{between_left, left_open}
use Rattle.items.specs.Answer.{code_of, settings_after}
use Rattle.station.specs.declared.Station.{Station}
use Rattle.station.specs.Station.{valid}
use Rattle.station.specs.Feeding.{Fed, FedHeld, Feeding, message_in, feeding_of, refused, parts_of}
use Rattle.wire.specs.Refusal.{refusal_code}
use Rattle.wire.specs.declared.refusal.Refusal.{Refusal}
use lib.Dec.{leb}
use Rattle.std.specs.Prelude.{Result, Ok, Err, is_err, IsOk}
use Rattle.wire.proofs.Laws.{true_not_false}
use borrow.Author.Tests.{leb-true, lt-leb}
use Rattle.station.proofs.Kept.{code_below, message_keeps}
use Rattle.station.proofs.Short.{reply_short}
use Rattle.station.proofs.Valid.{valid_settings, valid_store, valid_both, feeding_answered, feeding_waiting, each_way}

-- within what there is
pub record Within (host : List ℕ) (room : ℕ) (f : Feeding) : Type 0 where
  pub consumed : f.fed.consumed ≤ length host
  pub wrote : f.fed.wrote ≡ length f.bytes
  pub fits : length f.bytes ≤ room

pub feeding_within : (s : Station) (host : List ℕ) (room : ℕ) → Within host room (feeding_of s host room)
feeding_within s host room =
    each_way (Within host room) s host room (λ v. none) (λ v. none)
    (λ v f. record { consumed = most; wrote = refl; fits = omega arith })
    (λ v f enough. record { consumed = most; wrote = refl; fits = enough })
  where
    none : {code : ℕ} → Within host room (refused code s)
    none = record { consumed = omega arith; wrote = refl; fits = omega arith }

    most : (call_takes s.store host).count ≤ length host
    most = omega (arith, count_most 0 s.store host)

-- "Codes from 20 .. return the state given."
pub refused_returns : (s : Station) (host : List ℕ) (room : ℕ) → 20 ≤ (feeding_of s host room).fed.code
    → (feeding_of s host room).fed.station ≡ s
refused_returns s host room =
    each_way (λ f. 20 ≤ f.fed.code → f.fed.station ≡ s) s host room (λ v r. refl) (λ v r. refl) (λ v f r. absurd (omega arith))
    (λ v f enough r. absurd (omega (arith, code_below s.settings (message_in (call_takes s.store host).store))))

-- so does the whole of what such a call returns, where its parts are told
same_fed : {a b c a' b' c' : ℕ} {s s' : Station} → a ≡ a' → b ≡ b' → c ≡ c' → s ≡ s'
    → ◌≡◌ {A = Fed} (record { code = a; consumed = b; wrote = c; station = s })
    (record { code = a'; consumed = b'; wrote = c'; station = s' })
same_fed p q r t = rw (p, q, r, t) refl

pub returned : (s : Station) (host : List ℕ) (room : ℕ) (q : Refusal)
    → record { code = refusal_code q; consumed = 0; wrote = 0; taken = s.store.taken; settings = s.settings }
    ≡ parts_of (feeding_of s host room).fed
    → true ≡ leb 20 (feeding_of s host room).fed.code → (refused (refusal_code q) s).fed ≡ (feeding_of s host room).fed
returned s host room q told fails =
    same_fed (ap (λ (f : FedHeld). f.code) told) (ap (λ (f : FedHeld). f.consumed) told) (ap (λ (f : FedHeld). f.wrote) told)
    (sym (refused_returns s host room (leb-true 20 (feeding_of s host room).fed.code (sym fails))))

-- a valid box stays valid, whatever it is fed
pub feeding_keeps : (s : Station) (host : List ℕ) (room : ℕ) → valid s ≡ true → valid (feeding_of s host room).fed.station ≡ true
feeding_keeps s host room v =
    let settings = valid_settings s.settings s.store v in
    let store = valid_store s.settings s.store v in
    let message = message_in (call_takes s.store host).store in
    each_way (λ f. valid f.fed.station ≡ true) s host room (λ w. v) (λ w. v)
    (λ w f. valid_both s.settings (call_takes s.store host).store settings (taken_left 0 s.store host store f))
    (λ w f enough. valid_both (settings_after s.settings message) between (message_keeps s.settings message settings) between_left)

-- a message that is not finished takes a byte, where there is one
some_taken : (t : Store) (host : List ℕ) → finished t ≡ false → 0 < length host → 1 ≤ (call_takes t host).count
some_taken t [] f l = absurd (omega arith)
some_taken t (b ∷ bs) f l = count_some t b bs f

pub feeding_some : (s : Station) (host : List ℕ) (room : ℕ) → valid s ≡ true → 64 ≤ room → 0 < length host
    → 1 ≤ (feeding_of s host room).fed.consumed
feeding_some s host room v enough l = go (finished (call_takes s.store host).store) refl
  where
    some : 1 ≤ (call_takes s.store host).count
    some = some_taken s.store host (left_open s.store (valid_store s.settings s.store v)) l

    go : (d : Bool) → finished (call_takes s.store host).store ≡ d → 1 ≤ (feeding_of s host room).fed.consumed
    go true f =
        let settings = valid_settings s.settings s.store v in
        let short = reply_short s.settings (message_in (call_takes s.store host).store) settings in
        rw (feeding_answered s.settings s.store host room v f (le_trans short enough)) some
    go false f = rw (feeding_waiting s.settings s.store host room v f) some

-- with room for a reply, a call on a valid box is not refused
pub not_refused : (s : Station) (host : List ℕ) (room : ℕ) → valid s ≡ true → 64 ≤ room
    → leb 20 (feeding_of s host room).fed.code ≡ false
not_refused s host room v enough = go (finished (call_takes s.store host).store) refl
  where
    go : (d : Bool) → finished (call_takes s.store host).store ≡ d → leb 20 (feeding_of s host room).fed.code ≡ false
    go true f =
        let settings = valid_settings s.settings s.store v in
        let message = message_in (call_takes s.store host).store in
        let short = reply_short s.settings message settings in
        rw (feeding_answered s.settings s.store host room v f (le_trans short enough))
        (lt-leb 20 (code_of s.settings message) (code_below s.settings message))
    go false f = rw (feeding_waiting s.settings s.store host room v f) refl

-- so it has an answer
pub ok_of : {A B : Type 0} (r : Result A B) → is_err r ≡ false → IsOk r
ok_of (Ok a) e = refl
ok_of (Err b) e = absurd (true_not_false e)
