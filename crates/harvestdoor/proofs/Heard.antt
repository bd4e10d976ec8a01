-- What reading over the door comes to, from the tests that led there.
use Prim.Native.Nat.{ℕ}
use mathlib.Core.Bool.{Bool, true, false}
use mathlib.Core.Path.{◌≡◌, refl, sym, ap, ◌∙◌}
use mathlib.Core.List.{List}
use borrow.Author.Tests.{eqb-true, eq-eqb, ne_eqb}
use native.Mathlib.Omega.{arith}
use lib.Dec.{eqb}
use lib.ListN.{length}
use Rattle.wire.specs.Choice.{pick}
use Rattle.packets.specs.Channels.{is_count}
use Rattle.packets.proofs.Channels.{by_count}
use Rattle.reader.specs.Answers.{Heard}
use Rattle.reader.specs.Reading.{silent, unheard, reading_of}
use Rattle.harvestdoor.specs.States.{reader_in, reader_bytes}
use Rattle.wire.specs.Refusal.{refusal_code}
use Rattle.wire.specs.declared.refusal.Refusal.{Refusal}
use Rattle.wire.proofs.Refusals.{not_done}
use Rattle.harvestdoor.specs.Inside.{reading_in}
use Rattle.harvestdoor.specs.Reading.{silent_over, SilentIsRead, read_leaving, heard_over, read_over}

-- ---- a reader made

pub made_short : (channels : ℕ) (state : List ℕ) → (length state ≡ 34 → ⊥) → record { code = 21; state = state } ≡ silent_over channels state
unfolding silent_over
made_short channels state other = rw (ne_eqb (length state) 34 other)

pub made_by : (channels : ℕ) (state : List ℕ) {told : Bool} → length state ≡ 34 → is_count channels ≡ told
    → silent_over channels state
    ≡ pick told (record { code = 1; state = reader_bytes (silent channels) }) (record { code = 21; state = state })
unfolding silent_over
made_by channels state long is = rw (eq-eqb (length state) 34 long, is)

pub silent_is_read : SilentIsRead
unfolding reader_in reader_bytes
silent_is_read channels = by_count (λ n. reader_in (reader_bytes (silent n)) ≡ silent n) channels refl refl

-- ---- a packet read

module _ (state packet : List ℕ) where
  -- what reading says, and the reader written back where a packet was heard
  pub read_says : (h : Heard) (after : List ℕ) → h ≡ reading_in state packet → after ≡ pick (eqb h.code 1) (reader_bytes h.reader) state
      → read_leaving h after ≡ read_over state packet
  unfolding heard_over read_over reading_in
  read_says h after is left = by (eqb (length state) 34) refl
    where
      by : (long : Bool) → eqb (length state) 34 ≡ long → read_leaving h after ≡ read_over state packet
      by true long = rw (left, is, long)
      by false other = rw (left, is, other)

  -- a packet is heard by bytes of a reader alone
  module _ (h : Heard) (is : h ≡ reading_in state packet) (done : h.code ≡ 1) where
    pub heard_whole : length state ≡ 34
    unfolding reading_in
    heard_whole = by (eqb (length state) 34) refl
      where
        by : (long : Bool) → eqb (length state) 34 ≡ long → length state ≡ 34
        by true long = eqb-true (length state) 34 long
        by false other =
            let refused : h ≡ unheard 21 (reader_in state) = rw other at is in
            let broken : ◌≡◌ {A = ℕ} 21 1 = sym (ap (λ (g : Heard). g.code) refused) ∙ done in
            absurd (omega arith)

    pub heard_reading : h ≡ reading_of (reader_in state) packet
    unfolding reading_in
    heard_reading = rw (eq-eqb (length state) 34 heard_whole) at is

  pub heard_says_so : (h : Heard) → h ≡ reading_in state packet → (done : h.code ≡ 1) → (after : List ℕ) → after ≡ reader_bytes h.reader
      → read_leaving h after ≡ read_over state packet
  heard_says_so h is done after left = read_says h after is (rw (eq-eqb h.code 1 done) left)

  pub refused_says_so : (e : Refusal) → unheard (refusal_code e) (reader_in state) ≡ reading_in state packet
      → read_leaving (unheard (refusal_code e) (reader_in state)) state ≡ read_over state packet
  refused_says_so e is = read_says (unheard (refusal_code e) (reader_in state)) state is (rw (not_done e))
