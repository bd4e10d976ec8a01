-- Two settings, either order: the law of rows, and the fifteen pairs of items of which it holds.
-- Assumes nothing.
use Prim.Native.Nat.{ℕ}
use mathlib.Core.Path.{◌≡◌, refl, sym, ap, ◌∙◌}
use mathlib.Core.Bool.{Bool, true, false, ◌||◌, and-true, or-false}
use mathlib.Core.List.{List, [], ◌∷◌, ◌++◌}
use mathlib.Core.Logic.{◌⊎◌, inl, inr}
use native.Mathlib.Omega.{arith}
use lib.Dec.{eqb}
use lib.ListN.{get_or, take}
use borrow.Author.Tests.{eqb-true, eq-eqb, ne_eqb}
use Rattle.wire.specs.Choice.{pick, Check, first_of, one_of}
use Rattle.wire.specs.Codes.{box_writes}
use Rattle.wire.specs.Header.{type_set, type_range, type_reply, type_range_reply}
use Rattle.wire.specs.Number.{bytes, field}
use Rattle.wire.proofs.Laws.{true_not_false, never, or_neither, either_made, by_two_tests, by_or, one_has}
use Rattle.wire.specs.Lists.{each}
use Rattle.items.specs.declared.Channel.{Channel}
use Rattle.items.specs.declared.Settings.{Settings}
use Rattle.items.specs.Settings.{covers, on_channels, with_tuning, with_setup, tuned_to, gained_to}
use Rattle.items.specs.Items.{Item, a_channel, row_of, echoes}
use Rattle.items.specs.Header.{header_checks}
use Rattle.items.specs.Table.{table_checks}
use Rattle.items.specs.Answer.{Message, item_in, row, parameters, channel_allowed, item_checks, range_body, framed, reply_due}
use Rattle.items.specs.Answer.{code_of, settings_after, reply_of}
use Rattle.items.specs.Touching.{Named, naming, named, touches}
use Rattle.items.specs.EitherOrder.{LeavesAlone, Commute, RowsInEitherOrder, six_items, channel_items, excepted, Apart}
use Rattle.items.specs.EitherOrder.{OnBothChannels, Exchangeable, SetsInEitherOrder}
use Rattle.items.proofs.Channels.{open_alike}
use Rattle.items.proofs.Judging.{after_ways}
use Rattle.items.proofs.Rows.{◌then◌}
use Rattle.items.proofs.Touching.{others_unchanged}

-- ---- the law of rows

-- a message's code, where its item's checks are the same
checked_alike : (s t : Settings) (n : Message)
    → item_checks (row n) n.type t (parameters n) ≡ item_checks (row n) n.type s (parameters n) → code_of t n ≡ code_of s n
unfolding code_of
checked_alike s t n =
    ap (λ (cs : List Check).
    first_of (header_checks n.type n.size (get_or n.bytes 2 0) ++ table_checks (item_in n) n.type n.size ++ cs) 1)

module _ (m n : Message) (set : n.type ≡ type_set) (alone : LeavesAlone (row m) (parameters m) (row n) (parameters n)) where
  -- after the other a set is judged as before it
  code_alike : (s : Settings) → code_of (settings_after s m) n ≡ code_of s n
  code_alike s =
      after_ways (λ t. code_of t n ≡ code_of s n) s m
      (λ e kind. checked_alike s ((row m).rule.stored s (parameters m)) n (rw set (alone.looked s))) refl

  -- and the other leaves what it shows
  shown_alike : (s : Settings) → (row n).rule.value (settings_after s m) (parameters n) ≡ (row n).rule.value s (parameters n)
  shown_alike s =
      after_ways (λ t. (row n).rule.value t (parameters n) ≡ (row n).rule.value s (parameters n)) s m (λ e kind. alone.shown s) refl

  -- so it is answered as before it, where what both leave is the same
  reply_alike : (s : Settings) → settings_after (settings_after s m) n ≡ settings_after (settings_after s n) m
      → reply_of (settings_after s m) n ≡ reply_of s n
  unfolding reply_of
  reply_alike s same =
      let q = parameters n in
      ap (λ (code : ℕ). box_writes code (reply_due (settings_after s m) n)) (code_alike s)
      ∙ ap (λ (value : List ℕ).
      box_writes (code_of s n)
      (pick (eqb n.type type_range) (framed type_range_reply (range_body (row n) q))
      (framed type_reply (bytes 2 (row n).code ++ take (echoes (row n).echoed) q ++ value))))
      (ap (λ (t : Settings). (row n).rule.value t q) same ∙ shown_alike (settings_after s n))

-- what a set leaves
set_leaves : (s : Settings) (m : Message) → m.type ≡ type_set
    → settings_after s m ≡ pick (eqb (code_of s m) 1) ((row m).rule.stored s (parameters m)) s
unfolding settings_after
set_leaves s m set = rw (set, and-true) refl

pub rows_in_either_order : RowsInEitherOrder
rows_in_either_order m n set_m set_n c s =
    record {
      settings = same;
      codes = (code_alike n m set_m c.leaves_a s, code_alike m n set_n c.leaves_b s);
      replies = (reply_alike n m set_m c.leaves_a s (sym same), reply_alike m n set_n c.leaves_b s same);
    }
  where
    stores : Message → Settings → Settings
    stores x t = (row x).rule.stored t (parameters x)

    after_both : (x y : Message) → y.type ≡ type_set → code_of (settings_after s x) y ≡ code_of s y
        → settings_after (settings_after s x) y ≡ pick (eqb (code_of s y) 1) (stores y (settings_after s x)) (settings_after s x)
    after_both x y set code = set_leaves (settings_after s x) y set ∙ rw code refl

    same : settings_after (settings_after s m) n ≡ settings_after (settings_after s n) m
    same =
        after_both m n set_n (code_alike m n set_n c.leaves_b s)
        ∙ ap (λ (t : Settings). pick (eqb (code_of s n) 1) (stores n t) t) (set_leaves s m set_m)
        ∙ either_made (eqb (code_of s m) 1) (eqb (code_of s n) 1) (stores m) (stores n) s (λ e k. c.stored s)
        ∙ sym (after_both n m set_m (code_alike n m set_m c.leaves_a s)
        ∙ ap (λ (t : Settings). pick (eqb (code_of s m) 1) (stores m t) t) (set_leaves s n set_n))

-- ---- two rows of the table

-- what sets of two items store, and what each looks at, in either order
abbrev Meet : ℕ → List ℕ → ℕ → List ℕ → Type 0
Meet i p j q =
    (s : Settings)
    → ((row_of j).rule.stored ((row_of i).rule.stored s p) q ≡ (row_of i).rule.stored ((row_of j).rule.stored s q) p)
    × (item_checks (row_of i) type_set ((row_of j).rule.stored s q) p ≡ item_checks (row_of i) type_set s p)
    × (item_checks (row_of j) type_set ((row_of i).rule.stored s p) q ≡ item_checks (row_of j) type_set s q)

-- neither touches what the other shows
abbrev Untouched : Named → Named → Type 0
Untouched a b = (setup : ℕ) → (touches setup a b ≡ false) × (touches setup b a ≡ false)

commute : (i j : ℕ) (p q : List ℕ) → Meet i p j q → Untouched (naming i p) (naming j q) → Commute (row_of i) p (row_of j) q
commute i j p q meet none =
    record {
      stored = λ s. (meet s).0;
      leaves_a = record { looked = λ s. (meet s).1; shown = λ s. others_unchanged j i s q p (none s.setup).1 };
      leaves_b = record { looked = λ s. (meet s).2; shown = λ s. others_unchanged i j s p q (none s.setup).0 };
    }

-- ---- channels

-- Two sets of channels' items, whose changes commute where both cover a channel.
channels_commute : (s : Settings) (byte other : ℕ) (f g : Channel → Channel)
    → ((channel : ℕ) (c : Channel) → covers s.setup byte channel ≡ true → covers s.setup other channel ≡ true → g (f c) ≡ f (g c))
    → on_channels other g (on_channels byte f s) ≡ on_channels byte f (on_channels other g s)
channels_commute s byte other f g h =
    ap (λ (c : Channel). with_tuning c (both 0x02 s.second) s.clock s) (made 0x00 s.first)
    ∙ ap (λ (c : Channel). with_tuning (back 0x00 s.first) c s.clock s) (made 0x02 s.second)
  where
    covered : ℕ → ℕ → Bool
    covered = covers s.setup

    one : ℕ → Channel → Channel
    one channel c = pick (covered byte channel) (f c) c

    two : ℕ → Channel → Channel
    two channel c = pick (covered other channel) (g c) c

    both : ℕ → Channel → Channel
    both channel c = two channel (one channel c)

    back : ℕ → Channel → Channel
    back channel c = one channel (two channel c)

    made : (channel : ℕ) (c : Channel) → both channel c ≡ back channel c
    made channel c = either_made (covered byte channel) (covered other channel) f g c (h channel c)

-- With another channel byte than FF and 02, 0019's value decides neither what a set covers nor whether its channel is allowed.
module _ (byte : ℕ) (other : one_of byte (0xFF ∷ 0x02 ∷ []) || false ≡ false) where
  neither : (eqb byte 0xFF ≡ false) × (eqb byte 0x02 || false ≡ false)
  neither = or_neither (eqb byte 0xFF) (eqb byte 0x02 || false) (or_neither (one_of byte (0xFF ∷ 0x02 ∷ [])) false other).0

  covers_alike : (setup now channel : ℕ) → covers setup byte channel ≡ covers now byte channel
  covers_alike setup now channel = rw neither.0 refl

  setup_commutes : (s : Settings) (setup : ℕ) (change : Channel → Channel)
      → on_channels byte change (with_setup setup s) ≡ with_setup setup (on_channels byte change s)
  setup_commutes s setup change = rw (covers_alike setup s.setup 0x00, covers_alike setup s.setup 0x02) refl

  allowed_alike : (setup now : ℕ) → channel_allowed setup a_channel type_set byte ≡ channel_allowed now a_channel type_set byte
  allowed_alike setup now =
      ap (λ (opened : Bool). eqb byte 0xFF || opened) (open_alike setup now byte (or_neither (eqb byte 0x02) false neither.1).0)

-- ---- the pairs of different items

-- every two of a list that stand at different places
abbrev pairwise : (ℕ → ℕ → Type 0) → List ℕ → Type 0
pairwise P [] = Unit {0}
pairwise P (i ∷ is) = each (P i) is × pairwise P is

-- so of two different numbers of the list, in one order or in the other
pair_has : (P : ℕ → ℕ → Type 0) (i j : ℕ) (is : List ℕ) → pairwise P is → one_of i is ≡ true → one_of j is ≡ true → eqb i j ≡ false
    → P i j ⊎ P j i
pair_has P i j [] h a b w = never a
pair_has P i j (k ∷ is) h a b w =
    by_or (eqb i k) (one_of i is)
    (λ (i_first : eqb i k ≡ true).
    by_or (eqb j k) (one_of j is) (λ (j_first : eqb j k ≡ true). absurd (both i_first j_first))
    (λ rest. inl (rw (eqb-true i k i_first) (one_has (P k) j is h.0 rest))) b)
    (λ i_later.
    by_or (eqb j k) (one_of j is) (λ (j_first : eqb j k ≡ true). inr (rw (eqb-true j k j_first) (one_has (P k) i is h.0 i_later)))
    (λ j_later. pair_has P i j is h.1 i_later j_later w) b)
    a
  where
    both : eqb i k ≡ true → eqb j k ≡ true → ⊥
    both p q = true_not_false (sym (eq-eqb i j (eqb-true i k p ∙ sym (eqb-true j k q))) ∙ w)

-- of two sets that are no exception
abbrev Pair : ℕ → ℕ → Type 0
Pair i j =
    (p q : List ℕ) → excepted (naming i p) (naming j q) || excepted (naming j q) (naming i p) ≡ false → Meet i p j q

setup_and_frequency : Pair 0x0019 0x0020
unfolding row_of
setup_and_frequency p q other s = (
  setup_commutes (get_or q 0 0) other s (get_or p 0 0) (tuned_to (field 1 5 q) s.clock),
  refl,
  rw (allowed_alike (get_or q 0 0) other (get_or p 0 0) s.setup) refl,
)

setup_and_gain : Pair 0x0019 0x0038
unfolding row_of
setup_and_gain p q other s = (
  setup_commutes (get_or q 0 0) other s (get_or p 0 0) (gained_to (get_or q 1 0)),
  refl,
  rw (allowed_alike (get_or q 0 0) other (get_or p 0 0) s.setup) refl,
)

frequency_and_gain : Pair 0x0020 0x0038
unfolding row_of
frequency_and_gain p q other s = (
  channels_commute s (get_or p 0 0) (get_or q 0 0) (tuned_to (field 1 5 p) s.clock) (gained_to (get_or q 1 0)) (λ channel c b d. refl),
  refl,
  refl,
)

-- whichever channels the set of frequency or gain covers
frequency_and_clock : Pair 0x0020 0x00B0
unfolding row_of
frequency_and_clock p q other s = (
  by_two_tests (covers s.setup (get_or p 0 0) 0x00) (covers s.setup (get_or p 0 0) 0x02) (λ a b. rw (a, b) refl) (λ a b. rw (a, b) refl)
      (λ a b. rw (a, b) refl) (λ a b. rw (a, b) refl),
  refl,
  refl,
)

gain_and_clock : Pair 0x0038 0x00B0
unfolding row_of
gain_and_clock p q other s = (
  by_two_tests (covers s.setup (get_or p 0 0) 0x00) (covers s.setup (get_or p 0 0) 0x02) (λ a b. rw (a, b) refl) (λ a b. rw (a, b) refl)
      (λ a b. rw (a, b) refl) (λ a b. rw (a, b) refl),
  refl,
  refl,
)

-- The table of the fifteen pairs: of the other ten both orders compute to the same.
pairs : pairwise Pair six_items
unfolding row_of
pairs =
    search (setup_and_frequency, setup_and_gain) depth 30
    then search (frequency_and_gain, frequency_and_clock) depth 30
    then search gain_and_clock depth 30
    then search depth 30
    then search depth 30
    then tt
    then tt

-- ---- two sets of different items

-- none is of the state, so it touches no other
leaves_others : (i j : ℕ) (p q : List ℕ) → one_of i six_items ≡ true → eqb i j ≡ false
    → (setup : ℕ) → touches setup (naming i p) (naming j q) ≡ false
leaves_others i j p q among different setup =
    rw (different, one_has (λ k. eqb k 0x0018 ≡ false) i six_items (search depth 10) among) refl

-- the same of the pair turned round
other_way : {a b : Item} {p q : List ℕ} → Commute a p b q → Commute b q a p
other_way c = record { stored = λ s. sym (c.stored s); leaves_a = c.leaves_b; leaves_b = c.leaves_a }

apart_back : (a b : Named) → Apart a b → Apart b a
apart_back a b apart =
    let none = or_neither (excepted a b) (excepted b a) apart.unexcepted in
    record {
      among = (apart.among.1, apart.among.0);
      different = ne_eqb b.item a.item (λ e. true_not_false (sym (eq-eqb a.item b.item (sym e)) ∙ apart.different));
      unexcepted = rw (none.0, none.1) refl;
    }

-- two sets of a pair of the table
pair_commutes : (i j : ℕ) (p q : List ℕ) → Pair i j → Apart (naming i p) (naming j q) → Commute (row_of i) p (row_of j) q
pair_commutes i j p q pair apart =
    let back = apart_back (naming i p) (naming j q) apart in
    commute i j p q (pair p q apart.unexcepted)
    (λ setup. (
      leaves_others i j p q apart.among.0 apart.different setup,
      leaves_others j i q p back.among.0 back.different setup,
    ))

apart_commute : (m n : Message) → Apart (named m) (named n) → Commute (row m) (parameters m) (row n) (parameters n)
apart_commute m n apart =
    elim (pair_has Pair (item_in m) (item_in n) six_items pairs apart.among.0 apart.among.1 apart.different) [
      | inl pair ↦ pair_commutes (item_in m) (item_in n) (parameters m) (parameters n) pair apart
      | inr pair ↦
          other_way (pair_commutes (item_in n) (item_in m) (parameters n) (parameters m) pair (apart_back (named m) (named n) apart))
    ]

-- ---- two sets of one item, on channels 00 and 02

-- no channel is both
not_both : (channel : ℕ) → eqb 0x00 channel || false ≡ true → eqb 0x02 channel || false ≡ true → ⊥
not_both channel first second =
    let zero = eqb-true 0x00 channel (sym (or-false (eqb 0x00 channel)) ∙ first) in
    let two = eqb-true 0x02 channel (sym (or-false (eqb 0x02 channel)) ∙ second) in
    omega (arith, zero, two)

module _ (p q : List ℕ) (first : get_or p 0 0 ≡ 0x00) (second : get_or q 0 0 ≡ 0x02) where
  either_channel : (s : Settings) (f g : Channel → Channel)
      → on_channels (get_or q 0 0) g (on_channels (get_or p 0 0) f s) ≡ on_channels (get_or p 0 0) f (on_channels (get_or q 0 0) g s)
  either_channel s f g =
      rw (first, second) (channels_commute s 0x00 0x02 f g (λ channel c one two. absurd (not_both channel one two)))

  OnBoth : ℕ → Type 0
  OnBoth i = Meet i p i q × Untouched (naming i p) (naming i q)

  frequency_on_both : OnBoth 0x0020
  unfolding row_of OnBoth
  frequency_on_both = (
    λ s. (either_channel s (tuned_to (field 1 5 p) s.clock) (tuned_to (field 1 5 q) s.clock), refl, refl),
    λ setup. rw (first, second) (refl, refl),
  )

  gain_on_both : OnBoth 0x0038
  unfolding row_of OnBoth
  gain_on_both = (
    λ s. (either_channel s (gained_to (get_or p 1 0)) (gained_to (get_or q 1 0)), refl, refl),
    λ setup. rw (first, second) (refl, refl),
  )

  on_both : (i : ℕ) → one_of i channel_items ≡ true → Commute (row_of i) p (row_of i) q
  unfolding OnBoth
  on_both i among =
      let is = one_has OnBoth i channel_items (frequency_on_both, (gain_on_both, tt)) among in
      commute i i p q is.0 is.1

channels_exchange : (m n : Message) → OnBothChannels (named m) (named n) → Commute (row m) (parameters m) (row n) (parameters n)
channels_exchange m n both =
    let i = item_in m in
    rw (← both.alike)
    (elim both.channels [
      | inl forth ↦ on_both (parameters m) (parameters n) forth.0 forth.1 i both.among
      | inr back ↦ other_way (on_both (parameters n) (parameters m) back.1 back.0 i both.among)
    ])

pub sets_in_either_order : SetsInEitherOrder
sets_in_either_order s m n set_m set_n pair =
    rows_in_either_order m n set_m set_n
    (elim pair [ inl apart ↦ apart_commute m n apart | inr both ↦ channels_exchange m n both ]) s

-- and the pair turned round is such a pair too
pub exchangeable_back : (a b : Named) → Exchangeable a b → Exchangeable b a
exchangeable_back a b (inl apart) = inl (apart_back a b apart)
exchangeable_back a b (inr both) =
    inr (record {
      among = rw (← both.alike) both.among;
      alike = sym both.alike;
      channels = elim both.channels [ inl forth ↦ inr (forth.1, forth.0) | inr back ↦ inl (back.1, back.0) ];
    })
