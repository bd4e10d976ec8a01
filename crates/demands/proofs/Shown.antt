-- Demand 2 of items' definitions: after an accepted set a request shows the value set, and every other item is as it was.
-- What is to be shown of an item is shown of each line of the table, and holds of the line that a message names.
-- Assumes nothing.
use Prim.Native.Nat.{ℕ, ◌+◌, ◌%◌, ◌≤◌, ◌<◌}
use native.Mathlib.Omega.{arith}
use mathlib.Core.Path.{◌≡◌, refl, sym, ap, ◌∙◌}
use mathlib.Core.Bool.{true, false, ◌&&◌}
use mathlib.Core.List.{List, [], ◌∷◌}
use lib.Dec.{eqb}
use lib.ListN.{length, get_or, take, drop, length-drop}
use lib.Seq.{drop-cons}
use borrow.Author.Tests.{eqb-true, eq-eqb, ne_eqb, not-false}
use Rattle.wire.specs.Choice.{pick}
use Rattle.wire.proofs.Laws.{never, and_left, and_right, and_both, and_not_right, by_test}
use Rattle.wire.specs.Number.{bytes, field}
use Rattle.wire.specs.Header.{type_set, type_request, type_range}
use Rattle.wire.proofs.Numbers.{field_bytes_lem}
use Rattle.rates.proofs.Rates.{nearest_d}
use Rattle.wire.specs.Lists.{all_bytes}
use Rattle.wire.proofs.Lists.{bytes_drop, byte_at}
use Rattle.items.specs.declared.Settings.{Settings}
use Rattle.items.specs.declared.Channel.{Channel}
use Rattle.items.specs.Settings.{is_mode, tuned_to, gained_to}
use Rattle.items.specs.Items.{Echoed, no_byte, an_id, any_channel, a_channel}
use Rattle.items.specs.Items.{state_bytes, Item, items, row_of, run_byte, mode_byte, idle, run}
use Rattle.items.specs.Items.{state, status}
use Rattle.items.specs.Table.{is_total}
use Rattle.items.specs.Answer.{Message, item_in, row, parameters, channel_allowed, covers_asked, code_of, settings_after, reply_of}
use Rattle.items.proofs.Judging.{is_listed, has_length, has_channel, has_value, is_free, after_ways}
use Rattle.items.proofs.Channels.{channel_covered, open_alike, covers_own}
use Rattle.items.proofs.States.{state_ways}
use Rattle.items.proofs.Rows.{Each, ◌then◌, found_at, row_code}
use Rattle.station.proofs.Kept.{left_alone, accepted_set}
use Rattle.items.specs.Touching.{Named, naming, named, covering}
use Rattle.items.proofs.Touching.{Same, others_unchanged}
use Rattle.demands.specs.Shown.{AskedAlike, shown_by, value_set, HeldWhole, showing}
use Rattle.demands.specs.Shown.{of_channels, asks_second, changes, after_all, none_changes}

-- ---- a request shows the value set

-- a byte of a message, shown again
byte_shown : (at : ℕ) (p : List ℕ) → at < length p → all_bytes p → bytes 1 (get_or p at 0) ≡ take 1 (drop at p)
byte_shown at p room h =
    let small : get_or p at 0 % 256 ≡ get_or p at 0 = omega (arith, byte_at p h at) in
    rw (drop-cons p at 0 room, small)

-- what an item shows after a set that was allowed, beside a channel byte that the set covers
abbrev Shows : ℕ → Item → Type 0
Shows code i =
    (size : ℕ) → is_total i.on_set size ≡ true → (s : Settings) (p : List ℕ) → size ≤ 4 + length p → all_bytes p → i.rule.settable p ≡ true
    → s.running && i.rule.locked s p ≡ false
    → (q : List ℕ) → covers_asked s.setup i.echoed (get_or p 0 0) (get_or q 0 0) ≡ true
    → i.rule.value (i.rule.stored s p) q ≡ shown_by code s p

-- a run that is accepted while running has the mode that the box has
state_shows : Shows 0x0018 state
unfolding shown_by
state_shows size long s p room b may free q covered =
    state_ways
    (λ (t : Settings).
    state.rule.value t q ≡ pick (eqb (run_byte p) idle) (state_bytes idle s.mode) (state_bytes run (mode_byte p)))
    (run_byte p) (mode_byte p) s
    (λ i. rw i)
    (λ i w. rw (i, w, same_mode i w))
    (λ i w. rw i)
  where
    runs : eqb (run_byte p) idle ≡ false → eqb (run_byte p) run ≡ true
    runs i =
        let may_run = and_left (eqb (run_byte p) run && eqb (get_or p 0 0) 0x80) (is_mode (mode_byte p)) (rw i at may) in
        and_left (eqb (run_byte p) run) (eqb (get_or p 0 0) 0x80) may_run

    same_mode : eqb (run_byte p) idle ≡ false → s.running ≡ true → s.mode ≡ mode_byte p
    same_mode i w = sym (eqb-true (mode_byte p) s.mode (not-false (eqb (mode_byte p) s.mode) (rw (w, runs i) at free)))

show : Each Shows items
unfolding shown_by
show =
    (λ size long. never long)
    then (λ size long. never long)
    then (λ size long. never long)
    then (λ size long. never long)
    then (λ size long. never long)
    then state_shows
    then (λ size long s p room b may free q covered. byte_shown 0 p (omega (arith, eqb-true size 5 long)) b)
    then (λ size long s p room b may free q covered.
    ap (λ (c : Channel). bytes 5 c.frequency) (channel_covered s (get_or p 0 0) (get_or q 0 0) (tuned_to (field 1 5 p) s.clock) covered)
    ∙ field_bytes_lem 1 5 p (byte_at p b) (omega (arith, eqb-true size 10 long)))
    then (λ size long s p room b may free q covered.
    ap (λ (c : Channel). bytes 1 c.gain) (channel_covered s (get_or p 0 0) (get_or q 0 0) (gained_to (get_or p 1 0)) covered)
    ∙ byte_shown 1 p (omega (arith, eqb-true size 6 long)) b)
    then (λ size long s p room b may free q covered. field_bytes_lem 1 4 p (byte_at p b) (omega (arith, eqb-true size 9 long)))
    then (λ size long s p room b may free q covered. rw (nearest_d (field 1 4 p) may) refl)
    then (λ size long s p room b may free q covered. byte_shown 0 p (omega (arith, eqb-true size 5 long)) b)
    then tt

-- ---- replies

-- an accepted message that asks for no range is answered with the value that its item has then
answers : (s : Settings) (m : Message) → code_of s m ≡ 1 → eqb m.type type_range ≡ false
    → reply_of s m ≡ showing m ((row m).rule.value (settings_after s m) (parameters m))
unfolding reply_of
answers s m h kind = rw (h, kind, row_code (item_in m) (is_listed s m h))

-- a request stores nothing
asked_leaves : (s : Settings) (q : Message) → q.type ≡ type_request → settings_after s q ≡ s
asked_leaves s q kind =
    left_alone s q (and_not_right (eqb (code_of s q) 1) (eqb q.type type_set) (ap (λ (k : ℕ). eqb k type_set) kind))

-- of its channel byte 0019's value decides only where it is 02
channel_alike : (e : Echoed) (kind setup other byte : ℕ) → (kind ≡ type_set → ⊥) → (of_channels e && eqb byte 0x02 ≡ true → other ≡ setup)
    → channel_allowed other e kind byte ≡ channel_allowed setup e kind byte
channel_alike no_byte kind setup other byte asked same = refl
channel_alike an_id kind setup other byte asked same = refl
channel_alike any_channel kind setup other byte asked same = refl
channel_alike a_channel kind setup other byte asked same =
    rw (ne_eqb kind type_set asked)
    (by_test (eqb byte 0x02) (λ second. rw (same second) refl) (λ not_second. open_alike other setup byte not_second))

pub asked_alike : AskedAlike
unfolding code_of
asked_alike s t q asked same =
    rw (
      channel_alike (row q).echoed q.type s.setup t.setup (get_or (parameters q) 0 0) asked same,
      ne_eqb q.type type_set asked,
    ) refl

-- and its reply shows the value that its item has
pub asked_shows : (s : Settings) (q : Message) → q.type ≡ type_request → code_of s q ≡ 1
    → reply_of s q ≡ showing q ((row q).rule.value s (parameters q))
asked_shows s q kind h =
    answers s q h (rw kind refl) ∙ ap (λ (t : Settings). showing q ((row q).rule.value t (parameters q))) (asked_leaves s q kind)

-- ---- messages

-- a message leaves what is shown of what it does not change
pub message_leaves : (item : ℕ) (q : List ℕ) (s : Settings) (m : Message) → changes (naming item q) s m ≡ false
    → Same (row_of item) q s (settings_after s m)
message_leaves item q s m h =
    after_ways (Same (row_of item) q s) s m (λ e kind. others_unchanged (item_in m) item s (parameters m) q (rw (e, kind) at h)) refl

messages_leave : (item : ℕ) (q : List ℕ) (s : Settings) (ms : List Message) → none_changes (naming item q) s ms
    → Same (row_of item) q s (after_all s ms)
messages_leave item q s [] h = refl
messages_leave item q s (m ∷ ms) h = messages_leave item q (settings_after s m) ms h.1 ∙ message_leaves item q s m h.0

-- an accepted set stores
stores : (s : Settings) (m : Message) → code_of s m ≡ 1 → m.type ≡ type_set → settings_after s m ≡ (row m).rule.stored s (parameters m)
stores s m h kind = accepted_set s m (and_both (eqb (code_of s m) 1) (eqb m.type type_set) (eq-eqb _ _ h) (eq-eqb _ _ kind))

-- after it, its item has the value set, beside each channel byte that it covers
pub has_value_set : (s : Settings) (m : Message) → code_of s m ≡ 1 → m.type ≡ type_set → HeldWhole m
    → (q : List ℕ) → covers_asked s.setup (row m).echoed (get_or (parameters m) 0 0) (get_or q 0 0) ≡ true
    → (row m).rule.value (settings_after s m) q ≡ value_set s m
has_value_set s m h kind held q covered =
    rw (stores s m h kind)
    (found_at Shows (λ code size long. never long) show (item_in m) m.size (rw kind at (has_length s m h)) s
    (parameters m) (rw length-drop (omega (arith, held.whole))) (bytes_drop 4 m.bytes held.are_bytes) (rw kind at (has_value s m h))
    (rw kind at (is_free s m h)) q covered)

-- an accepted set covers what its own channel byte shows
own_covered : (e : Echoed) (setup byte : ℕ) → channel_allowed setup e type_set byte ≡ true → covers_asked setup e byte byte ≡ true
own_covered no_byte setup byte h = refl
own_covered an_id setup byte h = refl
own_covered any_channel setup byte h = refl
own_covered a_channel setup byte h = covers_own setup byte h

-- "is echoed": the reply to an accepted set has the value set
pub set_replies : (s : Settings) (m : Message) → code_of s m ≡ 1 → m.type ≡ type_set → HeldWhole m
    → reply_of s m ≡ showing m (value_set s m)
set_replies s m h kind held =
    answers s m h (rw kind refl)
    ∙ ap (showing m)
    (has_value_set s m h kind held (parameters m)
    (own_covered (row m).echoed s.setup (get_or (parameters m) 0 0) (rw kind at (has_channel s m h))))

-- what the set covers has its item
pub covered_item : (setup : ℕ) (set asked : Named) → covering setup set asked ≡ true → asked.item ≡ set.item
covered_item setup set asked h =
    sym (eqb-true set.item asked.item
    (and_left (eqb set.item asked.item) (covers_asked setup (row_of set.item).echoed set.byte asked.byte) h))

pub covered_byte : (setup : ℕ) (set asked : Named) → covering setup set asked ≡ true
    → covers_asked setup (row_of set.item).echoed set.byte asked.byte ≡ true
covered_byte setup set asked h =
    and_right (eqb set.item asked.item) (covers_asked setup (row_of set.item).echoed set.byte asked.byte) h

-- "later requests show the setting": after an accepted set, and any messages that do not change what is shown of what it covers, an
-- accepted request of that shows the value set
pub set_shows_later : (s : Settings) (m : Message) (ms : List Message) (q : Message)
    → code_of s m ≡ 1 → m.type ≡ type_set → HeldWhole m
    → none_changes (named q) (settings_after s m) ms
    → q.type ≡ type_request → covering s.setup (named m) (named q) ≡ true → code_of (after_all (settings_after s m) ms) q ≡ 1
    → reply_of (after_all (settings_after s m) ms) q ≡ showing q (value_set s m)
set_shows_later s m ms q h kind held none asked covered answered =
    let same = covered_item s.setup (named m) (named q) covered in
    let byte = covered_byte s.setup (named m) (named q) covered in
    asked_shows (after_all (settings_after s m) ms) q asked answered
    ∙ ap (showing q)
    (messages_leave (item_in q) (parameters q) (settings_after s m) ms none
    ∙ ap (λ (code : ℕ). (row_of code).rule.value (settings_after s m) (parameters q)) same
    ∙ has_value_set s m h kind held (parameters q) byte)

not_set : {n : ℕ} → n ≡ type_request → n ≡ type_set → ⊥
not_set asked set = omega (arith, asked, set)

-- a request that shows the same is answered alike, accepted or not
pub answered_alike : (s t : Settings) (q : Message) → q.type ≡ type_request → (asks_second (named q) ≡ true → t.setup ≡ s.setup)
    → Same (row q) (parameters q) s t → reply_of t q ≡ reply_of s q
unfolding reply_of
answered_alike s t q asked setup same =
    rw (asked_leaves t q asked, asked_leaves s q asked, asked_alike s t q (not_set asked) setup, asked, same)

-- The one exception: after an accepted set of the state, and any messages that do not change what the status shows, an
-- accepted request of the status shows it, "0B idle, 0C running".
pub status_value : (s : Settings) (m : Message) → code_of s m ≡ 1 → m.type ≡ type_set → item_in m ≡ state.code
    → (q : List ℕ) → (row_of status.code).rule.value (settings_after s m) q ≡ pick (eqb (run_byte (parameters m)) idle) 0x0B 0x0C ∷ []
unfolding row_of
status_value s m h kind item q =
    rw (stores s m h kind ∙ ap (λ (code : ℕ). (row_of code).rule.stored s (parameters m)) item)
    (state_ways (λ (t : Settings). status.rule.value t q ≡ pick (eqb (run_byte (parameters m)) idle) 0x0B 0x0C ∷ [])
    (run_byte (parameters m)) (mode_byte (parameters m)) s (λ i. rw i) (λ i w. rw (i, w)) (λ i w. rw i))

pub status_shows : (s : Settings) (m : Message) (ms : List Message) (q : Message)
    → code_of s m ≡ 1 → m.type ≡ type_set → item_in m ≡ state.code
    → none_changes (named q) (settings_after s m) ms
    → q.type ≡ type_request → item_in q ≡ status.code → code_of (after_all (settings_after s m) ms) q ≡ 1
    → reply_of (after_all (settings_after s m) ms) q ≡ showing q (pick (eqb (run_byte (parameters m)) idle) 0x0B 0x0C ∷ [])
status_shows s m ms q h kind item none asked same answered =
    asked_shows (after_all (settings_after s m) ms) q asked answered
    ∙ ap (showing q)
    (messages_leave (item_in q) (parameters q) (settings_after s m) ms none
    ∙ rw same (status_value s m h kind item (parameters q)))
