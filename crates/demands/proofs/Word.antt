-- The tuning word that a box keeps: it is true after every message, a box with another is broken, and no reply looks at it.
-- Assumes nothing.
use Prim.Native.Nat.{ℕ}
use mathlib.Core.Path.{◌≡◌, refl, sym, ap, ◌∙◌}
use mathlib.Core.Bool.{Bool, true, false, ◌&&◌}
use mathlib.Core.List.{List, ◌++◌}
use native.Mathlib.Omega.{arith}
use lib.Dec.{eqb}
use lib.ListN.{get_or, take}
use Rattle.wire.specs.Choice.{pick, Check, first_of}
use Rattle.wire.specs.Codes.{box_writes}
use Rattle.wire.specs.Number.{bytes, field}
use Rattle.wire.specs.Header.{type_set, type_range, type_reply, type_range_reply}
use Rattle.wire.proofs.Laws.{and_not_left}
use Rattle.framing.specs.Framing.{could_be_left}
use Rattle.items.specs.declared.Channel.{Channel}
use Rattle.items.specs.declared.Settings.{Settings}
use Rattle.items.specs.Settings.{in_range, with_count, with_running, with_mode, with_tuning, covers, channel_at, on_channels, tuned_to, gained_to}
use Rattle.items.specs.Items.{frequency, gain, echoes, Item, items, idle, run_byte, mode_byte, state_to, row_of}
use Rattle.items.specs.Header.{header_checks}
use Rattle.items.specs.Table.{table_checks}
use Rattle.items.specs.Answer.{Message, item_in, row, parameters, item_checks, reply_to, code_of, settings_after, reply_due, reply_of}
use Rattle.items.specs.Answer.{framed, range_body}
use Rattle.items.proofs.Rows.{all_have, ◌then◌, found}
use Rattle.station.specs.declared.Station.{Station}
use Rattle.station.specs.Station.{valid, word_code, tuning_told}
use Rattle.station.proofs.Kept.{ranges, message_keeps}
use Rattle.station.proofs.Valid.{valid_settings, feeding_broken}
use Rattle.station.proofs.Words.{told_as_kept}
use Rattle.cutting.proofs.Codes.{code_21, refuses}
use Rattle.demands.specs.Word.{TrueWord, TrueAfterEveryMessage, WordAtHand, BrokenBox, AnotherWordIsBroken}
use Rattle.demands.specs.Word.{worded, with_words, RepliesIgnoreTheWord}
use Rattle.demands.proofs.Reached.{never_out_of_range}

-- ---- the word is true

-- of settings within their ranges
true_word : (s : Settings) → in_range s ≡ true → TrueWord s
true_word s h = ((ranges s h).first.word, (ranges s h).second.word)

-- "true after every message, refused ones too"
pub word_true_after_every_message : TrueAfterEveryMessage
word_true_after_every_message s m h = true_word (settings_after s m) (message_keeps s m h)

-- a fresh box comes to no other
pub word_at_hand : WordAtHand
unfolding word_code
word_at_hand s r =
    let v = never_out_of_range s r in
    record {
      kept = true_word s.settings (valid_settings s.settings s.store v);
      told = λ channel is_open. told_as_kept s channel ∙ rw (v, is_open) refl;
    }

-- ---- a box with another word is broken

not_in_range : (s : Settings) → (TrueWord s → ⊥) → in_range s ≡ false
not_in_range s other = go (in_range s) refl
  where
    go : (b : Bool) → in_range s ≡ b → b ≡ false
    go true q = absurd (other (true_word s q))
    go false q = refl

pub broken_box : (s : Station) → valid s ≡ false → BrokenBox s
unfolding tuning_told word_code
broken_box s v =
    record {
      feeding = λ host room. feeding_broken s host room v;
      cutting = λ samples room. sym (refuses s samples room 21 (code_21 s samples room v) (λ e. omega arith));
      asking = λ channel. rw v refl;
    }

-- "A box whose stored word disagrees with its frequency and clock is broken (21)."
pub another_word_is_broken : AnotherWordIsBroken
unfolding valid
another_word_is_broken s other =
    let out = not_in_range s other in
    (out, λ store. broken_box _ (and_not_left (in_range s) (could_be_left store) out))

-- ---- no message looks at the word

-- An item checks and shows the same whatever the words, and what a set of it leaves differs in the words at most.
record Blind (i : Item) : Type 0 where
  checked : (v w kind : ℕ) (s : Settings) (p : List ℕ) → item_checks i kind (with_words v w s) p ≡ item_checks i kind s p
  stored : (x y v w : ℕ) (s : Settings) (p : List ℕ)
      → with_words x y (i.rule.stored (with_words v w s) p) ≡ with_words x y (i.rule.stored s p)
  replied : (v w kind : ℕ) (s : Settings) (p : List ℕ) → reply_to i kind (with_words v w s) p ≡ reply_to i kind s p

-- idle, run while running, and run from idle
state_blind : (x y v w byte mode : ℕ) (s : Settings)
    → with_words x y (state_to byte mode (with_words v w s)) ≡ with_words x y (state_to byte mode s)
state_blind x y v w byte mode s = go (eqb byte idle) s.running
  where
    to : Bool → Bool → Settings → Settings
    to stop running t = pick stop (with_running false t) (pick running t (with_count 0 (with_mode mode (with_running true t))))

    go : (stop running : Bool) → with_words x y (to stop running (with_words v w s)) ≡ with_words x y (to stop running s)
    go true running = refl
    go false true = refl
    go false false = refl

-- a change of the channels that a set covers, that differs in the word at most where the channel does
channels_blind : (x y v w byte : ℕ) (change : Channel → Channel) (s : Settings)
    → ((z u : ℕ) (c : Channel) → worded z (change (worded u c)) ≡ worded z (change c))
    → with_words x y (on_channels byte change (with_words v w s)) ≡ with_words x y (on_channels byte change s)
channels_blind x y v w byte change s blind =
    go (covers s.setup byte 0x00) (covers s.setup byte 0x02)
  where
    at : Bool → Channel → Channel
    at covered c = pick covered (change c) c

    to : Bool → Bool → Settings → Settings
    to a b t = with_tuning (at a t.first) (at b t.second) t.clock t

    one : (z u : ℕ) (covered : Bool) (c : Channel) → worded z (at covered (worded u c)) ≡ worded z (at covered c)
    one z u true c = blind z u c
    one z u false c = refl

    go : (a b : Bool) → with_words x y (to a b (with_words v w s)) ≡ with_words x y (to a b s)
    go a b =
        ap (λ (c : Channel). with_tuning c (worded y (at b (worded w s.second))) s.clock s) (one x v a s.first)
        ∙ ap (λ (c : Channel). with_tuning (worded x (at a s.first)) c s.clock s) (one y w b s.second)

-- the reply of an item that shows something of a channel, but for its word
reply_blind : (i : Item) (shown : Channel → List ℕ) (v w kind : ℕ) (s : Settings) (p : List ℕ)
    → ((t : Settings) → i.rule.value t p ≡ shown (channel_at (get_or p 0 0) t)) → ((u : ℕ) (c : Channel) → shown (worded u c) ≡ shown c)
    → reply_to i kind (with_words v w s) p ≡ reply_to i kind s p
reply_blind i shown v w kind s p is blind =
    ap (λ (bs : List ℕ). replying (eqb kind type_range) bs)
    (is (with_words v w s) ∙ go (eqb (get_or p 0 0) 0x02) ∙ sym (is s))
  where
    replying : Bool → List ℕ → List ℕ
    replying range bs =
        pick range (framed type_range_reply (range_body i p)) (framed type_reply (bytes 2 i.code ++ take (echoes i.echoed) p ++ bs))

    go : (second : Bool)
        → shown (pick second (worded w s.second) (worded v s.first)) ≡ shown (pick second s.second s.first)
    go true = blind w s.second
    go false = blind v s.first

items_blind : all_have Blind items
items_blind =
    record { checked = λ v w k s p. refl; stored = λ x y v w s p. refl; replied = λ v w k s p. refl }
    then record { checked = λ v w k s p. refl; stored = λ x y v w s p. refl; replied = λ v w k s p. refl }
    then record { checked = λ v w k s p. refl; stored = λ x y v w s p. refl; replied = λ v w k s p. refl }
    then record { checked = λ v w k s p. refl; stored = λ x y v w s p. refl; replied = λ v w k s p. refl }
    then record { checked = λ v w k s p. refl; stored = λ x y v w s p. refl; replied = λ v w k s p. refl }
    then record {
      checked = λ v w k s p. refl;
      stored = λ x y v w s p. state_blind x y v w (run_byte p) (mode_byte p) s;
      replied = λ v w k s p. refl;
    }
    then record { checked = λ v w k s p. refl; stored = λ x y v w s p. refl; replied = λ v w k s p. refl }
    then record {
      checked = λ v w k s p. refl;
      stored = λ x y v w s p. channels_blind x y v w (get_or p 0 0) (tuned_to (field 1 5 p) s.clock) s (λ z u c. refl);
      replied = λ v w k s p. reply_blind frequency (λ c. bytes 5 c.frequency) v w k s p (λ t. refl) (λ u c. refl);
    }
    then record {
      checked = λ v w k s p. refl;
      stored = λ x y v w s p. channels_blind x y v w (get_or p 0 0) (gained_to (get_or p 1 0)) s (λ z u c. refl);
      replied = λ v w k s p. reply_blind gain (λ c. bytes 1 c.gain) v w k s p (λ t. refl) (λ u c. refl);
    }
    then record { checked = λ v w k s p. refl; stored = λ x y v w s p. refl; replied = λ v w k s p. refl }
    then record { checked = λ v w k s p. refl; stored = λ x y v w s p. refl; replied = λ v w k s p. refl }
    then record { checked = λ v w k s p. refl; stored = λ x y v w s p. refl; replied = λ v w k s p. refl }
    then tt

row_blind : (code : ℕ) → Blind (row_of code)
row_blind =
    found Blind (record { checked = λ v w k s p. refl; stored = λ x y v w s p. refl; replied = λ v w k s p. refl }) items_blind

module _ (v w : ℕ) (s : Settings) (m : Message) where
  abbrev p : List ℕ
  p = parameters m

  abbrev other : Settings
  other = with_words v w s

  abbrev blind : Blind (row m)
  blind = row_blind (item_in m)

  same_code : code_of other m ≡ code_of s m
  unfolding code_of
  same_code =
      ap (λ (cs : List Check).
      first_of (header_checks m.type m.size (get_or m.bytes 2 0) ++ table_checks (item_in m) m.type m.size ++ cs) 1)
      (blind.checked v w m.type s p)

  same_after : (x y : ℕ) → with_words x y (settings_after other m) ≡ with_words x y (settings_after s m)
  unfolding settings_after
  same_after x y = rw same_code (go (eqb (code_of s m) 1 && eqb m.type type_set))
    where
      go : (b : Bool) → with_words x y (pick b ((row m).rule.stored other p) other) ≡ with_words x y (pick b ((row m).rule.stored s p) s)
      go true = blind.stored x y v w s p
      go false = refl

  -- the reply shows the settings after the message, which differ in the words at most
  same_due : reply_due other m ≡ reply_due s m
  same_due =
      sym (blind.replied 0 0 m.type (settings_after other m) p)
      ∙ ap (λ (t : Settings). reply_to (row m) m.type t p) (same_after 0 0)
      ∙ blind.replied 0 0 m.type (settings_after s m) p

  same_reply : reply_of other m ≡ reply_of s m
  unfolding reply_of
  same_reply = ap (λ (k : ℕ). box_writes k (reply_due other m)) same_code ∙ ap (box_writes (code_of s m)) same_due

-- "Replies do not change."
pub replies_ignore_the_word : RepliesIgnoreTheWord
replies_ignore_the_word v w s m = record { code = same_code v w s m; reply = same_reply v w s m; after = same_after v w s m }
