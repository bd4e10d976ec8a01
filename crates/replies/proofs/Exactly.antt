-- "exactly those further replies that some valid box could give to it": what a valid box says to a wish is read as what it
-- says, and of every reply that is accepted there is a valid box that gives it.
use Prim.Native.Nat.{ℕ, zero, suc, ◌+◌, ◌/◌, ◌%◌, ◌^◌, ◌<◌}
use mathlib.Core.Path.{◌≡◌, refl, sym, ap, subst, ◌∙◌}
use mathlib.Core.Bool.{Bool, true, false, ◌&&◌, ◌||◌, not}
use mathlib.Core.List.{List, [], ◌∷◌, ◌++◌}
use mathlib.Core.Logic.{◌⊎◌, inl, inr}
use native.Mathlib.Omega.{arith}
use lib.Dec.{eqb, ltb}
use lib.IntN.{ℤ}
use lib.ListN.{length, get_or, replicate}
use borrow.Author.Tests.{eqb-true, eq-eqb, lt-ltb, ltb-true, not-false}
use Rattle.wire.specs.Choice.{pick, one_of, within}
use Rattle.wire.specs.Number.{number, bytes}
use Rattle.wire.specs.Signed.{coded}
use Rattle.wire.specs.Header.{nak, header_of, type_range}
use Rattle.wire.proofs.Laws.{and_left, and_right, and_both, or_left, or_right, within_low, within_high, pick_true, pick_same, pick_keeps}
use Rattle.wire.proofs.Numbers.{bytes_number, number_bytes, number_below}
use Rattle.rates.specs.Rate.{rate_of, nearest_of, is_d}
use Rattle.rates.specs.Table.{d_of}
use Rattle.rates.proofs.Rates.{d_of_rate, rate_listed, listed_d}
use Rattle.tuning.specs.Bands.{bands, in_bands, range_bytes}
use Rattle.tuning.specs.Word.{is_clock, word_of}
use Rattle.layouts.specs.declared.Layout.{Layout}
use Rattle.layouts.specs.Layouts.{echo_bytes, parameters_of, size_of, laid}
use Rattle.layouts.proofs.Sizes.{length_laid}
use Rattle.items.proofs.States.{status_bytes}
use Rattle.items.specs.declared.Settings.{Settings}
use Rattle.items.specs.declared.Channel.{Channel}
use Rattle.items.specs.Settings.{is_mode, is_gain, is_serial_byte, all_serial, is_serial, holds_serial, in_range, fresh_of, fresh_channel, dual}
use Rattle.items.specs.Settings.{with_clock, with_divisor, with_running, with_mode, with_size, with_setup, with_count}
use Rattle.items.specs.Settings.{channel_at, on_channels, open_channels, tuned_to, gained_to}
use Rattle.items.specs.Items.{name_bytes, version_table, run, idle, achieved_rate}
use Rattle.wire.specs.Codes.{box_writes}
use Rattle.items.specs.Answer.{code_of, settings_after, reply_due, reply_of, reply_to, framed, parameters}
use Rattle.station.proofs.Kept.{Ranges, ranges, message_keeps}
use Rattle.items.proofs.Versions.{version_has}
use Rattle.wishes.specs.declared.StateFields.{StateFields}
use Rattle.wishes.specs.declared.Wish.{Wish}
use Rattle.wishes.specs.declared.Wish.TheVariants.{AskName, AskSerial, AskInterface, AskVersion, AskStatus, SetState, AskState}
use Rattle.wishes.specs.declared.Wish.TheVariants.{SetChannelSetup, AskChannelSetup, SetFrequency, AskFrequency, AskFrequencyRange}
use Rattle.wishes.specs.declared.Wish.TheVariants.{SetGain, AskGain, SetClock, AskClock}
use Rattle.wishes.specs.declared.Wish.TheVariants.{SetRate, AskRate, SetPacketSize, AskPacketSize}
use Rattle.wishes.specs.Wishes.{asking, layout_of, open_at, open_wish, allowed_wish, granted, closed_now, not_now, refused_now}
use Rattle.wishes.specs.Wishes.{message_of, as_message}
use Rattle.wishes.proofs.Rows.{by_wish}
use Rattle.wishes.proofs.Open.{open_dual, open_here}
use Rattle.wishes.proofs.Allowed.{state_has}
use Rattle.wire.proofs.Laws.{never, by_or, one_has}
use Rattle.wishes.proofs.Understood.{code_of_wish, row_of_wish, settings_of_wish}
use Rattle.replies.specs.declared.Reply.TheVariants.{Nak, Status, State}
use Rattle.replies.specs.Awaited.{awaited, idle_shown, run_shown, is_state, state_shown}
use Rattle.replies.specs.Awaited.{says_state, reply_type, reply_layout, reply_bytes, number_in}
use Rattle.replies.specs.Reading.{is_reply, is_nak, reply_code, reply_says, reply_reader_says}
use Rattle.replies.specs.Saying.{says_of, said_by}
use Rattle.replies.specs.Exactly.{ReadAsSaid, Given, Exactly}
use Rattle.wire.proofs.Lists.{same_eq, eq_same}
use Rattle.replies.proofs.Answers.{read_nak}
use Rattle.replies.proofs.Recognised.{reply_read, reply_is_reply, is_reply_bytes, code_accepted, accepted_code}

-- ---- the value that a box shows

-- the value's bytes in a box's reply
abbrev shown : Wish → Settings → List ℕ
shown w s =
    pick (eqb (asking w).kind type_range) (0x02 ∷ range_bytes bands) ((asking w).item.rule.value s (parameters (as_message w)))

-- the state of a box that runs, or not, in a mode
abbrev state_of : Bool → ℕ → ℕ
state_of t m = state_shown (pick t run idle) m

-- the number that they hold
abbrev number_of : Wish → Settings → ℕ
number_of AskName s = number name_bytes
number_of AskSerial s = number s.serial
number_of AskInterface s = 105
number_of (AskVersion id) s = number (get_or version_table id [])
number_of AskStatus s = pick s.running 0x0C 0x0B
number_of (SetState f) s = state_of s.running s.mode
number_of AskState s = state_of s.running s.mode
number_of (SetChannelSetup n) s = s.setup
number_of AskChannelSetup s = s.setup
number_of (SetFrequency c hz) s = (channel_at c s).frequency
number_of (AskFrequency c) s = (channel_at c s).frequency
number_of (AskFrequencyRange c) s = number (0x02 ∷ range_bytes bands)
number_of (SetGain c g) s = (channel_at c s).gain
number_of (AskGain c) s = (channel_at c s).gain
number_of (SetClock c hz) s = s.clock
number_of (AskClock c) s = s.clock
number_of (SetRate c hz) s = rate_of s.divisor
number_of (AskRate c) s = rate_of s.divisor
number_of (SetPacketSize n) s = s.size
number_of AskPacketSize s = s.size

-- a reply around a value's bytes
abbrev around : Wish → List ℕ → List ℕ
around w v =
    framed (reply_type (asking w).kind) (bytes 2 (asking w).item.code ++ (echo_bytes (layout_of w).echo ++ v))

-- a header of the true length before item code and parameters is a message as it is laid out
framed_laid : (a : Layout) → framed a.kind (bytes 2 a.item ++ parameters_of a) ≡ laid a
framed_laid a =
    let size : 2 + length (bytes 2 a.item ++ parameters_of a) ≡ size_of a = omega (arith, length_laid a) in
    ap (λ (n : ℕ). bytes 2 (header_of a.kind n) ++ (bytes 2 a.item ++ parameters_of a)) size

-- the box lays its reply out as the harvester waits for it
abbrev LaidOut : Wish → Type 0
LaidOut w = (s : Settings) → reply_to (asking w).item (asking w).kind s (parameters (as_message w)) ≡ around w (shown w s)

reply_around : (w : Wish) → LaidOut w
unfolding message_of
reply_around w = search (by_wish LaidOut)

-- A serial's characters are bytes.
serial_byte : (b : ℕ) → is_serial_byte b ≡ true → b < 256
serial_byte b = by_or (within 0x41 0x5A b) (within 0x30 0x39 b) letter digit
  where
    letter : within 0x41 0x5A b ≡ true → b < 256
    letter is = omega (arith, within_high 0x41 0x5A b is)

    digit : within 0x30 0x39 b ≡ true → b < 256
    digit is = omega (arith, within_high 0x30 0x39 b is)

serial_bytes : (l : List ℕ) → all_serial l ≡ true → (k : ℕ) → get_or l k 0 < 256
serial_bytes [] e k = omega arith
serial_bytes (b ∷ l) e zero = serial_byte b (and_left (is_serial_byte b) (all_serial l) e)
serial_bytes (b ∷ l) e (suc k) = serial_bytes l (and_right (is_serial_byte b) (all_serial l) e) k

-- a byte more than is needed is zero
bytes_zero : (n v : ℕ) → v < 256 ^ n → bytes (suc n) v ≡ bytes n v ++ 0 ∷ []
bytes_zero zero v h = let none : v % 256 ≡ 0 = omega arith in rw none
bytes_zero (suc n) v h = ap (λ (l : List ℕ). v % 256 ∷ l) (bytes_zero n (v / 256) (omega arith))

-- a serial as a number, and back
module _ (l : List ℕ) (is : is_serial l ≡ true) where
  eight : length l ≡ 8
  eight = eqb-true (length l) 8 (and_left (eqb (length l) 8) (all_serial l) is)

  characters : all_serial l ≡ true
  characters = and_right (eqb (length l) 8) (all_serial l) is

  serial_back : bytes 8 (number l) ≡ l
  serial_back = rw eight at (bytes_number l (serial_bytes l characters))

  serial_fits : number l < 256 ^ 8
  serial_fits = rw eight at (number_below l (serial_bytes l characters))

  serial_shown : l ++ 0 ∷ [] ≡ bytes 9 (number l)
  serial_shown = sym (bytes_zero 8 (number l) serial_fits ∙ ap (λ (m : List ℕ). m ++ 0 ∷ []) serial_back)

  serial_could : holds_serial (number l) ≡ true
  serial_could =
      and_both (all_serial (bytes 8 (number l))) (ltb (number l) (256 ^ 8)) (ap all_serial serial_back ∙ characters)
      (lt-ltb (number l) (256 ^ 8) serial_fits)

-- what holds of the states that a box can be in
box_has : (P : Bool → ℕ → Type 0) → P false 0x80 → P false 0x00 → P true 0x80 → P true 0x00 → (t : Bool) (m : ℕ) → is_mode m ≡ true → P t m
box_has P a b c d false m e = one_has (P false) m (0x80 ∷ 0x00 ∷ []) (a, (b, tt)) e
box_has P a b c d true m e = one_has (P true) m (0x80 ∷ 0x00 ∷ []) (c, (d, tt)) e

state_bytes_lem : (t : Bool) (m : ℕ) → is_mode m ≡ true → 0x80 ∷ pick t run idle ∷ m ∷ 0x00 ∷ [] ≡ bytes 4 (state_of t m)
state_bytes_lem = box_has (λ t m. 0x80 ∷ pick t run idle ∷ m ∷ 0x00 ∷ [] ≡ bytes 4 (state_of t m)) refl refl refl refl

rate_shown : (d : ℕ) → is_d d ≡ true → bytes 4 (achieved_rate d) ≡ bytes 4 (rate_of d)
rate_shown d is = ap (bytes 4) (pick_true (is_d d) (rate_of d) 0 is)

-- the bytes are those of the number
shown_number : (w : Wish) (s : Settings) → allowed_wish w ≡ true → Ranges s → shown w s ≡ bytes (awaited w).width (number_of w s)
unfolding message_of
shown_number AskName s e r = refl
shown_number AskSerial s e r = serial_shown s.serial r.serial
shown_number AskInterface s e r = refl
shown_number (AskVersion id) s e r =
    version_has (λ id. shown (AskVersion id) s ≡ bytes 2 (number_of (AskVersion id) s)) refl refl refl refl id e
shown_number AskStatus s e r = status_bytes s.running
shown_number (SetState f) s e r = state_bytes_lem s.running s.mode r.mode
shown_number AskState s e r = state_bytes_lem s.running s.mode r.mode
shown_number (SetChannelSetup n) s e r = refl
shown_number AskChannelSetup s e r = refl
shown_number (SetFrequency c hz) s e r = refl
shown_number (AskFrequency c) s e r = refl
shown_number (AskFrequencyRange c) s e r = refl
shown_number (SetGain c g) s e r = refl
shown_number (AskGain c) s e r = refl
shown_number (SetClock c hz) s e r = refl
shown_number (AskClock c) s e r = refl
shown_number (SetRate c hz) s e r = rate_shown s.divisor r.divisor
shown_number (AskRate c) s e r = rate_shown s.divisor r.divisor
shown_number (SetPacketSize n) s e r = refl
shown_number AskPacketSize s e r = refl

status_could : (t : Bool) → one_of (pick t 0x0C 0x0B) (0x0B ∷ 0x0C ∷ []) ≡ true
status_could false = refl
status_could true = refl

status_said : (t : Bool) → Status (eqb (pick t 0x0C 0x0B) 0x0C) ≡ Status t
status_said false = refl
status_said true = refl

abbrev SaysState : Bool → ℕ → Type 0
SaysState t m = says_state (state_of t m) ≡ State (record { run = pick t run idle; mode = m })

state_said : (t : Bool) (m : ℕ) → is_mode m ≡ true → SaysState t m
state_said = box_has SaysState refl refl refl refl

some_d : (d : ℕ) → is_d d ≡ true → 0 < d
some_d d is = omega (arith, within_low 10 625 d is)

-- what run in a mode comes to: a box that is running stays as it is
abbrev started : ℕ → Settings → Settings
started m s = with_count 0 (with_mode m (with_running true s))

abbrev run_in : ℕ → Settings → Settings
run_in m s = pick s.running s (started m s)

-- a box that starts, or runs already in this mode, is running in this mode
running_in : (m : ℕ) (s : Settings) → s.running && not (eqb m s.mode) ≡ false → ((run_in m s).running ≡ true) × ((run_in m s).mode ≡ m)
running_in m s h = go s.running refl h
  where
    new : Settings
    new = started m s

    go : (t : Bool) → s.running ≡ t → t && not (eqb m s.mode) ≡ false → ((pick t s new).running ≡ true) × ((pick t s new).mode ≡ m)
    go true q h = (q, sym (eqb-true m s.mode (not-false (eqb m s.mode) h)))
    go false q h = (refl, refl)

idle_could : (m : ℕ) → is_mode m ≡ true → one_of (state_shown idle m) idle_shown ≡ true
idle_could m = one_has (λ (m : ℕ). one_of (state_shown idle m) idle_shown ≡ true) m (0x80 ∷ 0x00 ∷ []) (refl, (refl, tt))

run_could : (m : ℕ) (s : Settings) → s.running && not (eqb m s.mode) ≡ false
    → eqb (state_of (run_in m s).running (run_in m s).mode) (state_shown run m) ≡ true
run_could m s h = rw ((running_in m s h).0, (running_in m s h).1) (eq-eqb (state_shown run m) (state_shown run m) refl)

-- what both channels have, the one that a byte names has
at_channel : (P : Channel → Type 0) (c : ℕ) (s : Settings) → P s.first → P s.second → P (channel_at c s)
at_channel P c s first second = pick_keeps P (eqb c 0x02) s.second s.first (λ is. second) (λ is. first)

-- channel 00 is open in every box
first_open : (setup : ℕ) → one_of 0x00 (open_channels setup) ≡ true
first_open setup = go (eqb setup dual)
  where
    go : (two : Bool) → one_of 0x00 (pick two (0x00 ∷ 0x02 ∷ []) (0x00 ∷ [])) ≡ true
    go true = refl
    go false = refl

-- a set covers the channel that a request with the same byte would show
set_shows : (change : Channel → Channel) (s : Settings) (c : ℕ) → one_of c (0xFF ∷ 0x00 ∷ 0x02 ∷ []) ≡ true
    → channel_at c (on_channels c change s) ≡ change (channel_at c s)
set_shows change s c =
    one_has (λ (c : ℕ). channel_at c (on_channels c change s) ≡ change (channel_at c s)) c (0xFF ∷ 0x00 ∷ 0x02 ∷ [])
    (pick_true _ (change s.first) s.first (first_open s.setup), (refl, (refl, tt)))

tuned : (c hz : ℕ) (s : Settings) → one_of c (0xFF ∷ 0x00 ∷ 0x02 ∷ []) ≡ true
    → number_of (SetFrequency c hz) (granted (SetFrequency c hz) s) ≡ hz
tuned c hz s is = ap (λ (k : Channel). k.frequency) (set_shows (tuned_to hz s.clock) s c is)

gained : (c : ℕ) (g : ℤ) (s : Settings) → one_of c (0xFF ∷ 0x00 ∷ 0x02 ∷ []) ≡ true
    → number_of (SetGain c g) (granted (SetGain c g) s) ≡ coded 8 g
gained c g s is = ap (λ (k : Channel). k.gain) (set_shows (gained_to (coded 8 g)) s c is)

-- where the wish's channel is open in this box, it is so in one with two channels
open_there : (w : Wish) (s : Settings) → closed_now w s ≡ false → open_at w dual ≡ true
open_there w s here = sym (open_dual w) ∙ open_here w s.setup (not-false (open_at w s.setup) here)

-- a valid box could give the value that a valid box shows
abbrev CouldShow : Wish → Settings → Type 0
CouldShow w s = closed_now w s ≡ false → not_now w s ≡ false → (awaited w).could (number_of w (granted w s)) ≡ true

could_shown : (w : Wish) (s : Settings) → allowed_wish w ≡ true → Ranges s → CouldShow w s
could_shown AskName s e r here now = refl
could_shown AskSerial s e r here now = serial_could s.serial r.serial
could_shown AskInterface s e r here now = refl
could_shown (AskVersion id) s e r here now = eq-eqb (number (get_or version_table id [])) (number (get_or version_table id [])) refl
could_shown AskStatus s e r here now = status_could s.running
could_shown (SetState f) s e r here now =
    state_has (λ f. CouldShow (SetState f) s) (λ m here now. idle_could s.mode r.mode)
    (λ here. run_could 0x80 s) (λ here. run_could 0x00 s) f e here now
could_shown AskState s e r here now =
    box_has (λ t m. is_state (state_of t m) ≡ true) refl refl refl refl s.running s.mode r.mode
could_shown (SetChannelSetup n) s e r here now = eq-eqb n n refl
could_shown AskChannelSetup s e r here now = r.setup
could_shown (SetFrequency c hz) s e r here now =
    eq-eqb (number_of (SetFrequency c hz) (granted (SetFrequency c hz) s)) hz (tuned c hz s (open_there (SetFrequency c hz) s here))
could_shown (AskFrequency c) s e r here now =
    at_channel (λ (c : Channel). in_bands c.frequency ≡ true) c s r.first.frequency r.second.frequency
could_shown (AskFrequencyRange c) s e r here now = refl
could_shown (SetGain c g) s e r here now =
    eq-eqb (number_of (SetGain c g) (granted (SetGain c g) s)) (coded 8 g) (gained c g s (open_there (SetGain c g) s here))
could_shown (AskGain c) s e r here now = at_channel (λ (c : Channel). is_gain c.gain ≡ true) c s r.first.gain r.second.gain
could_shown (SetClock c hz) s e r here now = eq-eqb hz hz refl
could_shown (AskClock c) s e r here now = r.clock
could_shown (SetRate c hz) s e r here now = eq-eqb (rate_of (nearest_of hz)) (rate_of (nearest_of hz)) refl
could_shown (AskRate c) s e r here now =
    let d = s.divisor in
    sym (rate_listed (rate_of d)) ∙ lt-ltb 0 (d_of (rate_of d)) (rw (d_of_rate d r.divisor) (some_d d r.divisor))
could_shown (SetPacketSize n) s e r here now = eq-eqb n n refl
could_shown AskPacketSize s e r here now = r.size

-- and it says what the box says
says_shown : (w : Wish) (s : Settings) → Ranges s → (awaited w).says (number_of w s) ≡ says_of w s
says_shown AskName s r = refl
says_shown AskSerial s r = refl
says_shown AskInterface s r = refl
says_shown (AskVersion id) s r = refl
says_shown AskStatus s r = status_said s.running
says_shown (SetState f) s r = state_said s.running s.mode r.mode
says_shown AskState s r = state_said s.running s.mode r.mode
says_shown (SetChannelSetup n) s r = refl
says_shown AskChannelSetup s r = refl
says_shown (SetFrequency c hz) s r = refl
says_shown (AskFrequency c) s r = refl
says_shown (AskFrequencyRange c) s r = refl
says_shown (SetGain c g) s r = refl
says_shown (AskGain c) s r = refl
says_shown (SetClock c hz) s r = refl
says_shown (AskClock c) s r = refl
says_shown (SetRate c hz) s r = refl
says_shown (AskRate c) s r = refl
says_shown (SetPacketSize n) s r = refl
says_shown AskPacketSize s r = refl

-- ---- what a valid box says is read

neither : (a b : Bool) → a || b ≡ false → (a ≡ false) × (b ≡ false)
neither false false h = (refl, refl)
neither false true h = never (sym h)
neither true b h = never (sym h)

module _ (w : Wish) (s : Settings) (e : allowed_wish w ≡ true) (valid : in_range s ≡ true) where
  -- where the box cannot grant the wish now
  refused_nak : refused_now w s ≡ true → reply_of s (as_message w) ≡ nak
  unfolding reply_of
  refused_nak = by_or (closed_now w s) (not_now w s) (λ shut. rw (code_of_wish w s e, shut)) later
    where
      by : (t : Bool) → box_writes (pick t 15 17) (reply_due s (as_message w)) ≡ nak
      by true = refl
      by false = refl

      later : not_now w s ≡ true → box_writes (code_of s (as_message w)) (reply_due s (as_message w)) ≡ nak
      later is = rw (code_of_wish w s e, is) (by (closed_now w s))

  module _ (here : closed_now w s ≡ false) (now : not_now w s ≡ false) where
    after : settings_after s (as_message w) ≡ granted w s
    after = settings_of_wish w s e ∙ rw (here, now)

    granted_valid : in_range (granted w s) ≡ true
    granted_valid = rw after at (message_keeps s (as_message w) valid)

    reply_shown : reply_of s (as_message w) ≡ reply_bytes w (number_of w (granted w s))
    unfolding reply_of reply_bytes
    reply_shown =
        rw (code_of_wish w s e, here, now, row_of_wish w, after)
        (reply_around w (granted w s)
        ∙ ap (around w) (shown_number w (granted w s) e (ranges (granted w s) granted_valid))
        ∙ framed_laid (reply_layout w (number_of w (granted w s))))

  -- the two ways: the box refuses, or it grants
  abbrev ways : (P : Bool → Type 0) → (refused_now w s ≡ true → P true)
      → (closed_now w s ≡ false → not_now w s ≡ false → P false) → P (refused_now w s)
  ways P refuses grants = go (refused_now w s) refl
    where
      go : (t : Bool) → refused_now w s ≡ t → P t
      go true is = refuses is
      go false is = let none = neither (closed_now w s) (not_now w s) is in grants none.0 none.1

  -- what the box says is accepted
  box_reply_accepted : is_nak (reply_of s (as_message w)) || is_reply w (reply_of s (as_message w)) ≡ true
  box_reply_accepted =
      ways (λ t. is_nak (reply_of s (as_message w)) || is_reply w (reply_of s (as_message w)) ≡ true) (λ is. rw (refused_nak is))
      (λ here now. rw (reply_shown here now)
      (or_right (is_nak (reply_bytes w (number_of w (granted w s)))) (is_reply w (reply_bytes w (number_of w (granted w s))))
      (reply_is_reply w (number_of w (granted w s)) e (could_shown w s e (ranges s valid) here now))))

  -- and read as what it says
  read_as_said : open_wish w ≡ true → reply_reader_says w (reply_of s (as_message w)) ≡ reply_says (said_by w s)
  read_as_said o =
      ways (λ t. reply_reader_says w (reply_of s (as_message w)) ≡ reply_says (pick t Nak (says_of w (granted w s))))
      (λ is. rw (refused_nak is) (sym (read_nak w nak o e refl)))
      (λ here now. rw (reply_shown here now)
      (sym (reply_read w (number_of w (granted w s)) o e (could_shown w s e (ranges s valid) here now))
      ∙ ap reply_says (says_shown w (granted w s) (ranges (granted w s) (granted_valid here now)))))

pub box_reply_is_read : ReadAsSaid
box_reply_is_read w s o e valid = read_as_said w s e valid o

-- ---- what is read, a valid box says

-- run byte and mode in a state's number
abbrev run_byte : ℕ → ℕ
run_byte n = get_or (bytes 4 n) 1 0

abbrev mode_byte : ℕ → ℕ
mode_byte n = get_or (bytes 4 n) 2 0

abbrev mode_in : ℕ → Type 0
mode_in n = is_mode (mode_byte n) ≡ true

-- fresh, but for two channels
abbrev fresh : Settings
fresh = with_setup dual (fresh_of (replicate 8 0x30))

-- a valid box, fresh but for that and the value that a reply holds, which both channels have
abbrev box_with : Wish → ℕ → Settings
box_with AskName n = fresh
box_with AskSerial n = with_setup dual (fresh_of (bytes 8 n))
box_with AskInterface n = fresh
box_with (AskVersion id) n = fresh
box_with AskStatus n = with_running (eqb n 0x0C) fresh
box_with (SetState f) n = with_mode (mode_byte n) fresh
box_with AskState n = with_mode (mode_byte n) (with_running (eqb (run_byte n) run) fresh)
box_with (SetChannelSetup m) n = fresh
box_with AskChannelSetup n = with_setup n fresh
box_with (SetFrequency c hz) n = fresh
box_with (AskFrequency c) n = on_channels 0xFF (tuned_to n 80_000_000) fresh
box_with (AskFrequencyRange c) n = fresh
box_with (SetGain c g) n = fresh
box_with (AskGain c) n = on_channels 0xFF (gained_to n) fresh
box_with (SetClock c hz) n = fresh
box_with (AskClock c) n = with_clock n fresh
box_with (SetRate c hz) n = fresh
box_with (AskRate c) n = with_divisor (d_of n) fresh
box_with (SetPacketSize m) n = fresh
box_with AskPacketSize n = with_size n fresh

run_mode : (m n : ℕ) → mode_in (state_shown run m) → eqb n (state_shown run m) ≡ true → mode_in n
run_mode m n h is = rw (eqb-true n (state_shown run m) is) h

-- the mode that a state's reply holds
state_mode : (f : StateFields) (n : ℕ) → allowed_wish (SetState f) ≡ true → (awaited (SetState f)).could n ≡ true → mode_in n
state_mode f n e h =
    state_has (λ f. (awaited (SetState f)).could n ≡ true → mode_in n) (λ m. one_has mode_in n idle_shown (refl, (refl, tt)))
    (run_mode 0x80 n refl) (run_mode 0x00 n refl) f e h

-- a fresh box but for its frequency, or its clock, keeps the word of both
tuned_valid : (n : ℕ) → in_bands n ≡ true → in_range (on_channels 0xFF (tuned_to n 80_000_000) fresh) ≡ true
unfolding in_range
tuned_valid n h = rw (h, eq-eqb (word_of n 80_000_000) (word_of n 80_000_000) refl)

clocked_valid : (n : ℕ) → is_clock n ≡ true → in_range (with_clock n fresh) ≡ true
unfolding in_range
clocked_valid n h = rw (h, eq-eqb (word_of 10_000_000 n) (word_of 10_000_000 n) refl)

box_valid : (w : Wish) (n : ℕ) → allowed_wish w ≡ true → (awaited w).could n ≡ true → in_range (box_with w n) ≡ true
unfolding in_range word_of
box_valid AskName n e h = refl
box_valid AskSerial n e h = rw (and_left (all_serial (bytes 8 n)) (ltb n (256 ^ 8)) h)
box_valid AskInterface n e h = refl
box_valid (AskVersion id) n e h = refl
box_valid AskStatus n e h = refl
box_valid (SetState f) n e h = rw (state_mode f n e h)
box_valid AskState n e h = rw (one_has mode_in n (idle_shown ++ run_shown) (refl, (refl, (refl, (refl, tt)))) h)
box_valid (SetChannelSetup m) n e h = refl
box_valid AskChannelSetup n e h = rw h
box_valid (SetFrequency c hz) n e h = refl
box_valid (AskFrequency c) n e h = tuned_valid n h
box_valid (AskFrequencyRange c) n e h = refl
box_valid (SetGain c g) n e h = refl
box_valid (AskGain c) n e h = rw h
box_valid (SetClock c hz) n e h = refl
box_valid (AskClock c) n e h = clocked_valid n h
box_valid (SetRate c hz) n e h = refl
box_valid (AskRate c) n e h = rw (listed_d n h).0
box_valid (SetPacketSize m) n e h = refl
box_valid AskPacketSize n e h = rw h

-- it has two channels, but where the reply holds 0019's value
box_dual : (w : Wish) (n : ℕ) → open_at w (box_with w n).setup ≡ open_at w dual
box_dual w = search (by_wish (λ w. (n : ℕ) → open_at w (box_with w n).setup ≡ open_at w dual))

box_here : (w : Wish) (n : ℕ) → open_wish w ≡ true → closed_now w (box_with w n) ≡ false
box_here w n o = ap not (box_dual w n ∙ sym (open_dual w) ∙ o)

box_now : (w : Wish) (n : ℕ) → not_now w (box_with w n) ≡ false
box_now w = search (by_wish (λ w. (n : ℕ) → not_now w (box_with w n) ≡ false))

-- and it shows the value
abbrev Shows : ℕ → Wish → Type 0
Shows n w = open_wish w ≡ true → (awaited w).could n ≡ true → number_of w (granted w (box_with w n)) ≡ n

box_shows : (w : Wish) (n : ℕ) → allowed_wish w ≡ true → Shows n w
box_shows AskName n e o h = sym (eqb-true n (number name_bytes) h)
box_shows AskSerial n e o h = number_bytes 8 n (ltb-true n (256 ^ 8) (and_right (all_serial (bytes 8 n)) (ltb n (256 ^ 8)) h))
box_shows AskInterface n e o h = sym (eqb-true n 105 h)
box_shows (AskVersion id) n e o h = sym (eqb-true n (number (get_or version_table id [])) h)
box_shows AskStatus n e o h = one_has (λ n. pick (eqb n 0x0C) 0x0C 0x0B ≡ n) n (0x0B ∷ 0x0C ∷ []) (refl, (refl, tt)) h
box_shows (SetState f) n e o h =
    state_has (λ f. Shows n (SetState f)) (λ m o. one_has (λ n. state_shown idle (mode_byte n) ≡ n) n idle_shown (refl, (refl, tt)))
    (λ o is. sym (eqb-true n (state_shown run 0x80) is)) (λ o is. sym (eqb-true n (state_shown run 0x00) is)) f e o h
box_shows AskState n e o h =
    one_has (λ n. state_of (eqb (run_byte n) run) (mode_byte n) ≡ n) n (idle_shown ++ run_shown) (refl, (refl, (refl, (refl, tt)))) h
box_shows (SetChannelSetup m) n e o h = sym (eqb-true n m h)
box_shows AskChannelSetup n e o h = refl
box_shows (SetFrequency c hz) n e o h =
    tuned c hz fresh (sym (open_dual (SetFrequency c hz)) ∙ o) ∙ sym (eqb-true n hz h)
box_shows (AskFrequency c) n e o h = ap (λ (c : Channel). c.frequency) (pick_same (eqb c 0x02) (tuned_to n 80_000_000 fresh_channel))
box_shows (AskFrequencyRange c) n e o h = sym (eqb-true n (number (0x02 ∷ range_bytes bands)) h)
box_shows (SetGain c g) n e o h =
    gained c g fresh (sym (open_dual (SetGain c g)) ∙ o) ∙ sym (eqb-true n (coded 8 g) h)
box_shows (AskGain c) n e o h = ap (λ (c : Channel). c.gain) (pick_same (eqb c 0x02) (gained_to n fresh_channel))
box_shows (SetClock c hz) n e o h = sym (eqb-true n hz h)
box_shows (AskClock c) n e o h = refl
box_shows (SetRate c hz) n e o h = sym (eqb-true n (rate_of (nearest_of hz)) h)
box_shows (AskRate c) n e o h = (listed_d n h).1
box_shows (SetPacketSize m) n e o h = sym (eqb-true n m h)
box_shows AskPacketSize n e o h = refl

pub read_has_box : (w : Wish) (bs : List ℕ) → open_wish w ≡ true → allowed_wish w ≡ true → is_reply w bs ≡ true → Given w bs
read_has_box w bs o e h =
    let n = number_in w bs in
    let could = (is_reply_bytes w bs h).0 in
    let s = box_with w n in
    let valid = box_valid w n e could in
    let shows = ap (reply_bytes w) (box_shows w n e o could) in
    record {
      settings = s;
      valid = valid;
      gives = reply_shown w s e valid (box_here w n o) (box_now w n) ∙ shows ∙ sym (is_reply_bytes w bs h).1;
    }

pub exactly : Exactly
exactly w bs o e = (into, from)
  where
    into : reply_code w bs ≡ 1 → (bs ≡ nak) ⊎ Given w bs
    into h =
        by_or (is_nak bs) (is_reply w bs) (λ (is : is_nak bs ≡ true). inl (same_eq bs nak is))
        (λ (is : is_reply w bs ≡ true). inr (read_has_box w bs o e is)) (code_accepted w bs o e h)

    from : (bs ≡ nak) ⊎ Given w bs → reply_code w bs ≡ 1
    from (inl is) = accepted_code w bs o e (or_left (is_nak bs) (is_reply w bs) (eq_same bs nak is))
    from (inr g) =
        subst (λ (l : List ℕ). reply_code w l ≡ 1) g.gives
        (accepted_code w (reply_of g.settings (as_message w)) o e (box_reply_accepted w g.settings e g.valid))
