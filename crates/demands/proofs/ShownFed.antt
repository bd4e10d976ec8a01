-- Demand 2 of the box: it is fed a whole set and, after any calls that leave its item, a whole request. The messages are
-- answered as in Shown.antt, and feeding and cutting in between leave what the item shows.
-- Assumes nothing.
use Prim.Native.Nat.{ℕ, ◌+◌, ◌-◌, ◌≤◌}
use native.Mathlib.Omega.{arith}
use mathlib.Core.Path.{◌≡◌, refl, sym, ap, ◌∙◌}
use mathlib.Core.Bool.{Bool, true, false, ◌&&◌, and-true}
use mathlib.Core.List.{List, [], ◌∷◌, ◌++◌}
use borrow.Author.Tests.{le-leb, ltb-false}
use lib.Dec.{eqb, leb, ltb, lit≤}
use lib.IntN.{ℤ}
use lib.ListN.{length, get_or, take, replicate, length-append, length-take, length-replicate}
use Rattle.wire.specs.Choice.{pick}
use Rattle.wire.specs.Header.{type_set, type_request}
use Rattle.wire.proofs.Laws.{and_rest, or_neither, never}
use Rattle.tuning.specs.Word.{word_of}
use Rattle.framing.specs.Framing.{between, taking, call_takes, could_be_left}
use Rattle.wire.proofs.Lists.{bytes_append, bytes_take, bytes_zero}
use Rattle.items.proofs.Judging.{passed}
use Rattle.items.proofs.Rows.{found_at}
use Rattle.items.specs.declared.Settings.{Settings}
use Rattle.items.specs.Settings.{in_range, fresh_of, with_count}
use Rattle.items.specs.Items.{status, channel_setup, idle, run_byte, row_of, listed_item}
use Rattle.items.specs.Answer.{Message, item_in, row, parameters, code_of, settings_after, reply_of}
use Rattle.station.specs.declared.Station.{Station}
use Rattle.station.specs.Station.{valid}
use Rattle.station.specs.Feeding.{message_in, Feeding, feeding_of}
use Rattle.station.proofs.Valid.{each_way}
use Rattle.station.proofs.Setup.{setup_left}
use Rattle.cutting.specs.Cutting.{cutting_of}
use Rattle.cutting.proofs.Ways.{each_cut, cutting_keeps}
use Rattle.demands.proofs.OneMessage.{message_fed}
use Rattle.station.proofs.Calls.{feeding_keeps}
use Rattle.demands.specs.Shown.{shown_by, value_set, HeldWhole, showing, OneMessage, message_of, resting, has_room, replies_with}
use Rattle.demands.specs.Shown.{ShowsSets}
use Rattle.items.specs.Touching.{Named, naming, named, covering, touches}
use Rattle.demands.specs.Shown.{opens, asks_second, changes}
use Rattle.demands.specs.Shown.{finished_by, naks_all, echoes_only, SetTest, Undisturbed, still, fed, cut, touching, answering}
use Rattle.demands.specs.Shown.{FedSetShowsLater, FedSameAnswer, FedStateShowsInStatus}
use Rattle.items.proofs.Touching.{Same}
use Rattle.demands.proofs.Shown.{message_leaves, asked_shows, answered_alike, has_value_set, set_replies}
use Rattle.demands.proofs.Shown.{covered_item, covered_byte, status_value}

-- ---- one whole message that is accepted is held whole

pub set_low : {n : ℕ} → n ≡ type_set → n ≤ 2
set_low e = omega arith

pub request_low : {n : ℕ} → n ≡ type_request → n ≤ 2
request_low e = omega arith

-- "types 0 to 2, length over 64" it is not
held_whole : (m : List ℕ) → OneMessage m → (s : Settings) → (message_of m).type ≤ 2 → code_of s (message_of m) ≡ 1 → HeldWhole (message_of m)
held_whole m one s low h =
    record {
      whole = rw room size_small;
      are_bytes =
          bytes_append (take 64 m) (replicate (64 - length m) 0) (bytes_take 64 m one.are_bytes) (bytes_zero (64 - length m));
    }
  where
    kind : ℕ
    kind = (message_of m).type

    size : ℕ
    size = (message_of m).size

    size_small : size ≤ 64
    size_small = ltb-false 64 size (and_rest (leb kind 2) (ltb 64 size) (passed s (message_of m) h).1.1.0 (le-leb kind 2 low))

    room : length (take 64 m ++ replicate (64 - length m) 0) ≡ 64
    room = simp (length-append, length-take, length-replicate) (omega arith)

-- ---- the calls in between

-- what holds of the settings before a call, and of those after the message that it answers, holds of those after the call
feeding_by : (P : Settings → Type 0) (s : Station) (host : List ℕ) (room : ℕ) → P s.settings
    → ((feeding_of s host room).fed.code ≡ code_of s.settings (finished_by s host)
    → P (settings_after s.settings (finished_by s host)))
    → P (feeding_of s host room).fed.station.settings
feeding_by P s host room before after =
    let m = finished_by s host in
    each_way
    (λ f. (f.fed.code ≡ code_of s.settings m → P (settings_after s.settings m)) → P f.fed.station.settings)
    s host room (λ v h. before) (λ v h. before) (λ v f h. before) (λ v f enough h. h refl) after

-- a cut counts one packet more, or leaves the settings
cutting_by : (P : Settings → Type 0) (s : Station) (samples : List ℤ) (room : ℕ) → P s.settings
    → P (with_count (s.settings.count + 1) s.settings) → P (cutting_of s samples room).cut.station.settings
cutting_by P s samples room before after = each_cut (λ c. P c.cut.station.settings) s samples room (λ e. after) (λ n. before)

-- no item shows the count
count_leaves : (asked : ℕ) (s : Settings) (n : ℕ) (q : List ℕ) → Same (row_of asked) q s (with_count n s)
count_leaves =
    found_at (λ code i. (s : Settings) (n : ℕ) (q : List ℕ) → Same i q s (with_count n s)) (λ code s n q. refl) (search depth 30)

-- calls leave a valid box valid
calls_keep : (test : SetTest) (s t : Station) → Undisturbed test s t → valid s ≡ true → valid t ≡ true
calls_keep test s t (still u) v = v
calls_keep test s t (fed b u host room rest calm) v = feeding_keeps u host room (calls_keep test b u rest v)
calls_keep test s t (cut b u samples room rest) v = cutting_keeps u samples room (calls_keep test b u rest v)

-- What a set of which the test fails leaves, and a count, undisturbed calls leave.
calls_leave : (test : SetTest) (P : Settings → Type 0)
    → ((u : Settings) (m : Message) → eqb (code_of u m) 1 && eqb m.type type_set && test u.setup (named m) ≡ false
    → P u → P (settings_after u m))
    → ((u : Settings) (n : ℕ) → P u → P (with_count n u))
    → (s t : Station) → Undisturbed test s t → P s.settings → P t.settings
calls_leave test P sets counts s t (still u) h = h
calls_leave test P sets counts s t (fed b u host room rest calm) h =
    let before = calls_leave test P sets counts b u rest h in
    feeding_by P u host room before (λ code. sets u.settings (finished_by u host) (rw code at calm) before)
calls_leave test P sets counts s t (cut b u samples room rest) h =
    let before = calls_leave test P sets counts b u rest h in
    cutting_by P u samples room before (counts u.settings (u.settings.count + 1) before)

-- what is shown of what they do not touch
shown_left : (test : SetTest) (item : ℕ) (q : List ℕ)
    → ((setup : ℕ) (set : Named) → test setup set ≡ false → touches setup set (naming item q) ≡ false)
    → (s t : Station) → Undisturbed test s t → Same (row_of item) q s.settings t.settings
shown_left test item q finer s t calm =
    calls_leave test (Same (row_of item) q s.settings)
    (λ u m none before. message_leaves item q u m (finer_set u m none) ∙ before)
    (λ u n before. count_leaves item u n q ∙ before)
    s t calm refl
  where
    finer_set : (u : Settings) (m : Message) → eqb (code_of u m) 1 && eqb m.type type_set && test u.setup (named m) ≡ false
        → changes (naming item q) u m ≡ false
    finer_set u m = go (eqb (code_of u m) 1 && eqb m.type type_set)
      where
        go : (b : Bool) → b && test u.setup (named m) ≡ false → b && touches u.setup (named m) (naming item q) ≡ false
        go true none = finer u.setup (named m) none
        go false none = refl

-- a box of which a request shows something; then calls that do not touch that; then the whole request, where it is accepted
later_shows : (shown : List ℕ) (b : Station) (t : Settings) (q : List ℕ) (later : ℕ) → valid b ≡ true
    → (row (message_of q)).rule.value b.settings (parameters (message_of q)) ≡ shown
    → Undisturbed (touching (named (message_of q))) b (resting t) → has_room (feeding_of (resting t) q later)
    → OneMessage q → (message_of q).type ≡ type_request → code_of t (message_of q) ≡ 1
    → replies_with (feeding_of (resting t) q later) (showing (message_of q) shown)
later_shows shown b t q later v shows calm more one kind answered =
    let asked = message_of q in
    let test = touching (named asked) in
    let f = message_fed q one.announces t later (calls_keep test b (resting t) calm v) more in (
      f.0 ∙ answered,
      f.2
          ∙ asked_shows t asked kind answered
          ∙ ap (showing asked)
          (shown_left test (item_in asked) (parameters asked) (λ setup set none. none) b (resting t) calm ∙ shows),
    )

-- after a whole set that is accepted, what it covers has the value set
set_fed_shows : (s : Settings) (m : List ℕ) (room : ℕ) (q : Message) → valid (resting s) ≡ true → has_room (feeding_of (resting s) m room)
    → OneMessage m → (message_of m).type ≡ type_set → code_of s (message_of m) ≡ 1
    → covering s.setup (named (message_of m)) (named q) ≡ true
    → (row q).rule.value (feeding_of (resting s) m room).fed.station.settings (parameters q) ≡ value_set s (message_of m)
set_fed_shows s m room q v enough one kind h covered =
    let f = message_fed m one.announces s room v enough in
    let set = named (message_of m) in
    ap (λ (b : Station). (row q).rule.value b.settings (parameters q)) f.1
    ∙ ap (λ (code : ℕ). (row_of code).rule.value (settings_after s (message_of m)) (parameters q))
    (covered_item s.setup set (named q) covered)
    ∙ has_value_set s (message_of m) h kind (held_whole m one s (set_low kind) h) (parameters q)
    (covered_byte s.setup set (named q) covered)

pub fed_set_shows_later : FedSetShowsLater
fed_set_shows_later s m room t q later v enough more one kind h calm two asked covered answered =
    later_shows (value_set s (message_of m)) (feeding_of (resting s) m room).fed.station t q later (feeding_keeps (resting s) m room v)
    (set_fed_shows s m room (message_of q) v enough one kind h covered) calm more two asked answered

pub fed_state_shows : FedStateShowsInStatus
fed_state_shows s m room t q later v enough more one kind item h calm two asked same answered =
    let f = message_fed m one.announces s room v enough in
    let p = parameters (message_of q) in
    later_shows (pick (eqb (run_byte (parameters (message_of m))) idle) 0x0B 0x0C ∷ [])
    (feeding_of (resting s) m room).fed.station t q later (feeding_keeps (resting s) m room v)
    (ap (λ (code : ℕ). (row_of code).rule.value (feeding_of (resting s) m room).fed.station.settings p) same
    ∙ ap (λ (b : Station). (row_of status.code).rule.value b.settings p) f.1
    ∙ status_value s (message_of m) h kind item p)
    calm more two asked answered

-- The same at once: the whole set in one call, and the whole request in the next.
pub fed_set_shows : ShowsSets feeding_of
fed_set_shows s m room q later v enough more one kind h two asked covered answered =
    let f = message_fed m one.announces s room v enough in (
      (f.0 ∙ h, f.2 ∙ set_replies s (message_of m) h kind (held_whole m one s (set_low kind) h)),
      rw f.1
          (fed_set_shows_later s m room (settings_after s (message_of m)) q later v enough (rw f.1 at more) one kind h
          (rw f.1 (still (resting (settings_after s (message_of m))))) two asked covered answered),
    )

-- what a valid box that has room writes
bytes_fed : (s : Settings) (host : List ℕ) (room : ℕ) → valid (resting s) ≡ true → has_room (feeding_of (resting s) host room)
    → (feeding_of (resting s) host room).bytes
    ≡ pick (call_takes between host).finished (reply_of s (message_in (call_takes between host).store)) []
bytes_fed s host room v =
    each_way (λ f. has_room f → f.bytes ≡ pick (call_takes between host).finished (reply_of s (message_in (call_takes between host).store)) [])
    (resting s) host room (λ w some. never (sym w ∙ v)) (λ w some. absurd (some refl))
    (λ w waits some. rw waits refl) (λ w ends fits some. rw ends refl)

-- calls of which none accepts a set of 0019 leave its value
setup_kept : (test : SetTest) → ((setup : ℕ) (set : Named) → test setup set ≡ false → eqb set.item channel_setup.code ≡ false)
    → (s t : Station) → Undisturbed test s t → t.settings.setup ≡ s.settings.setup
setup_kept test finer s t calm =
    calls_leave test (λ u. u.setup ≡ s.settings.setup)
    (λ u m none before. setup_left u m (λ e kind. finer u.setup (named m) (rw (e, kind) at none)) ∙ before)
    (λ u n before. before)
    s t calm refl

pub fed_same_answer : FedSameAnswer
fed_same_answer s t q room later v enough more asked calm =
    let m = finished_by (resting s) q in
    let test = answering (named m) in
    let same =
    shown_left test (item_in m) (parameters m)
    (λ setup set none. (or_neither (touches setup set (named m)) (opens set (named m)) none).0) (resting s) (resting t) calm in
    bytes_fed t q later (calls_keep test (resting s) (resting t) calm v) more
    ∙ ap (λ (reply : List ℕ). pick (call_takes between q).finished reply [])
    (answered_alike s t m asked (λ second. setup_kept test (not_opened m second) (resting s) (resting t) calm) same)
    ∙ sym (bytes_fed s q room v enough)
  where
    not_opened : (m : Message) → asks_second (named m) ≡ true → (setup : ℕ) (set : Named) → answering (named m) setup set ≡ false
        → eqb set.item channel_setup.code ≡ false
    not_opened m second setup set none =
        let opened = (or_neither (touches setup set (named m)) (opens set (named m)) none).1 in
        sym (and-true (eqb set.item channel_setup.code)) ∙ rw second at opened

-- ---- two boxes that are none of ours

-- a fresh box, a set of its frequency to 14,010,000 Hz, and a request of it
abbrev start : Settings
start = fresh_of (replicate 8 0x30)

abbrev tune : List ℕ
tune = 0x0A ∷ 0x00 ∷ 0x20 ∷ 0x00 ∷ 0x00 ∷ 0x90 ∷ 0xC6 ∷ 0xD5 ∷ 0x00 ∷ 0x00 ∷ []

abbrev ask : List ℕ
ask = 0x05 ∷ 0x20 ∷ 0x20 ∷ 0x00 ∷ 0x00 ∷ []

-- a box that shows its sets answers both with the bytes of the set
tuned : (feed : Station → List ℕ → ℕ → Feeding) → ShowsSets feed
    → replies_with (feed (resting start) tune 64) tune × replies_with (feed (feed (resting start) tune 64).fed.station ask 64) tune
unfolding feeding_of valid in_range could_be_left taking listed_item row_of code_of reply_of settings_after shown_by word_of
tuned feed shows =
    shows start tune 64 ask 64 refl not_twenty not_twenty
    (record { are_bytes = search lit≤ depth 20; announces = refl }) refl refl
    (record { are_bytes = search lit≤ depth 20; announces = refl }) refl refl refl
  where
    not_twenty : ◌≡◌ {A = ℕ} 1 20 → ⊥
    not_twenty e = omega arith

-- the first reply is no NAK
pub naks_all_fails : (code : ℕ) → ShowsSets (naks_all code) → ⊥
naks_all_fails code shows =
    let wrong : ◌≡◌ {A = ℕ} 0x02 0x0A = ap (λ (bs : List ℕ). get_or bs 0 0) (tuned (naks_all code) shows).0.1 in
    omega arith

-- the second shows the frequency set, and not that of the fresh box
pub echoes_only_fails : ShowsSets echoes_only → ⊥
unfolding feeding_of valid in_range could_be_left taking listed_item row_of code_of reply_of settings_after word_of
echoes_only_fails shows =
    let wrong : ◌≡◌ {A = ℕ} 0x80 0x90 = ap (λ (bs : List ℕ). get_or bs 5 0) (tuned echoes_only shows).1.1 in
    omega arith
