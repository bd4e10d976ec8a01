-- What a set with a channel byte leaves of the channel that is shown beside another.
-- Assumes nothing.
use Prim.Native.Nat.{ℕ}
use mathlib.Core.Path.{◌≡◌, refl, sym, ap, ◌∙◌}
use mathlib.Core.Bool.{Bool, true, false, ◌||◌, or-false}
use mathlib.Core.List.{List, [], ◌∷◌}
use lib.Dec.{eqb}
use lib.ListN.{length}
use borrow.Author.Tests.{eqb-true}
use Rattle.wire.specs.Choice.{pick, one_of}
use Rattle.wire.specs.Header.{type_set}
use Rattle.wire.proofs.Laws.{by_test, or_rest, pick_keeps}
use Rattle.packets.specs.Channels.{is_count}
use Rattle.items.specs.declared.Channel.{Channel}
use Rattle.items.specs.declared.Settings.{Settings}
use Rattle.items.specs.Settings.{dual, open_channels, channels_of, covers, channel_shown, channel_at, on_channels}
use Rattle.items.specs.Items.{a_channel}
use Rattle.items.specs.Answer.{channel_allowed}

module _ (s : Settings) (byte asked : ℕ) (change : Channel → Channel) where
  -- it is changed exactly where the set covers it
  pub on_channels_lem :
      channel_at asked (on_channels byte change s)
      ≡ pick (covers s.setup byte (channel_shown asked)) (change (channel_at asked s)) (channel_at asked s)
  on_channels_lem = go (eqb asked 0x02)
    where
      covered : ℕ → Bool
      covered = covers s.setup byte

      go : (second : Bool)
          → pick second (pick (covered 0x02) (change s.second) s.second) (pick (covered 0x00) (change s.first) s.first)
          ≡ pick (covered (pick second 0x02 0x00)) (change (pick second s.second s.first)) (pick second s.second s.first)
      go true = refl
      go false = refl

  pub channel_covered : covers s.setup byte (channel_shown asked) ≡ true
      → channel_at asked (on_channels byte change s) ≡ change (channel_at asked s)
  channel_covered h = on_channels_lem ∙ rw h refl

  pub channel_left : covers s.setup byte (channel_shown asked) ≡ false → channel_at asked (on_channels byte change s) ≡ channel_at asked s
  channel_left h = on_channels_lem ∙ rw h refl

  -- what no change touches stays, whichever channel the set covers
  pub channel_keeps : (get : Channel → ℕ) → ((c : Channel) → get (change c) ≡ get c)
      → get (channel_at asked (on_channels byte change s)) ≡ get (channel_at asked s)
  channel_keeps get keeps = ap get on_channels_lem ∙ go (covers s.setup byte (channel_shown asked))
    where
      go : (covered : Bool) → get (pick covered (change (channel_at asked s)) (channel_at asked s)) ≡ get (channel_at asked s)
      go true = keeps (channel_at asked s)
      go false = refl

-- what either channel keeps, the channel keeps that is shown beside a byte
pub either_keeps : (s t : Settings) (asked : ℕ) (get : Channel → ℕ) → get t.first ≡ get s.first → get t.second ≡ get s.second
    → get (channel_at asked t) ≡ get (channel_at asked s)
either_keeps s t asked get first second = go (eqb asked 0x02)
  where
    go : (b : Bool) → get (pick b t.second t.first) ≡ get (pick b s.second s.first)
    go true = second
    go false = first

-- a box's packets hold one channel or two
pub box_count : (s : Settings) → is_count (channels_of s) ≡ true
box_count s = pick_keeps (λ (l : List ℕ). is_count (length l) ≡ true) (eqb s.setup dual) _ _ (λ e. refl) (λ e. refl)

-- channel 00 is open whatever 0019's value is
pub first_open : (setup : ℕ) → one_of 0x00 (open_channels setup) ≡ true
first_open setup = go (eqb setup dual)
  where
    go : (two : Bool) → one_of 0x00 (pick two (0x00 ∷ 0x02 ∷ []) (0x00 ∷ [])) ≡ true
    go true = refl
    go false = refl

-- a byte other than 02 is open or not whatever 0019's value is
pub open_alike : (setup other byte : ℕ) → eqb byte 0x02 ≡ false → one_of byte (open_channels setup) ≡ one_of byte (open_channels other)
open_alike setup other byte h = only setup ∙ sym (only other)
  where
    go : (two : Bool) → one_of byte (pick two (0x00 ∷ 0x02 ∷ []) (0x00 ∷ [])) ≡ eqb byte 0x00 || false
    go true = rw h refl
    go false = refl

    only : (n : ℕ) → one_of byte (open_channels n) ≡ eqb byte 0x00 || false
    only n = go (eqb n dual)

-- a channel byte that is allowed on set covers the channel that is shown beside it
pub covers_own : (setup byte : ℕ) → channel_allowed setup a_channel type_set byte ≡ true → covers setup byte (channel_shown byte) ≡ true
covers_own setup byte allowed =
    by_test (eqb byte 0xFF) (λ all. rw (eqb-true byte 0xFF all) (first_open setup))
    (λ one.
    by_test (eqb byte 0x02) (λ second. rw (eqb-true byte 0x02 second) refl)
    (λ other.
    let first : eqb byte 0x00 || false ≡ true =
    sym (open_alike setup 0 byte other) ∙ or_rest (eqb byte 0xFF) (one_of byte (open_channels setup)) allowed one in
    rw (eqb-true byte 0x00 (sym (or-false (eqb byte 0x00)) ∙ first)) refl))
