-- Demand 2: the samples the box packs are those the harvester unpacks, by one statement over width and pair count.
-- Assumes nothing.
use Prim.Native.Nat.{ℕ, zero, suc, ◌*◌, ◌≤◌, ◌<◌}
use mathlib.Core.Path.{◌≡◌, refl, ap, ◌∙◌}
use mathlib.Core.Bool.{true}
use mathlib.Core.List.{List, [], ◌∷◌, map}
use native.Mathlib.Omega.{arith}
use borrow.Author.Tests.{le-ltb}
use lib.IntN.{ℤ, pos}
use lib.ListN.{length, get_or}
use Rattle.packets.specs.declared.Form.{Form}
use Rattle.packets.specs.Forms.{listed_form, whole_of}
use Rattle.packets.specs.Samples.{all_samples, narrowed}
use Rattle.packets.specs.Channels.{place_of}
use Rattle.packets.proofs.Channels.{channels_in_turn}
use Rattle.items.specs.Settings.{channels_of}
use Rattle.items.proofs.Channels.{box_count}
use Rattle.samples.proofs.RoundTrip.{round_trip_form}
use Rattle.cutting.specs.Cutting.{Cutting, packet_of, form_now, cutting_of}
use Rattle.cutting.proofs.Formed.{valid_form}
use Rattle.cutting.proofs.Packets.{packet_whole}
use Rattle.cutting.proofs.Ways.{cut_is}
use Rattle.reader.specs.Reading.{unpack_code, numbers_written}
use Rattle.demands.specs.Packed.{WhatIsPackedIsUnpacked, ChannelByChannel}

module _ (f : Form) (position : ℕ) (samples : List ℤ) (out : ℕ)
    (l : listed_form f ≡ true) (n : length samples ≡ 2 * f.pairs) (a : all_samples samples ≡ true) (enough : length samples ≤ out) where
  whole : whole_of (packet_of f position samples) ≡ f
  whole = packet_whole f position samples l n

  code : unpack_code (packet_of f position samples) out ≡ 1
  unfolding unpack_code
  code = rw (whole, l, le-ltb out (2 * f.pairs) (rw n at enough))

  numbers : numbers_written (packet_of f position samples) out ≡ map (narrowed f.bits) samples
  unfolding numbers_written
  numbers = rw (code, whole, ← n) (round_trip_form f l samples a)

pub what_is_packed_is_unpacked : WhatIsPackedIsUnpacked
what_is_packed_is_unpacked s samples room out e enough =
    let made = cut_is s samples room e in
    let l = valid_form s made.0.sound in
    let f = form_now s.settings in
    let at = s.settings.count in
    let cut : (cutting_of s samples room).bytes ≡ packet_of f at samples = ap (λ (c : Cutting). c.bytes) made.1 in
    record {
      code = ap (λ (p : List ℕ). unpack_code p out) cut ∙ code f at samples out l made.0.enough made.0.fits enough;
      numbers = ap (λ (p : List ℕ). numbers_written p out) cut ∙ numbers f at samples out l made.0.enough made.0.fits enough;
    }

-- ---- channel by channel

map_at : {A B : Type 0} (f : A → B) (xs : List A) (i : ℕ) (a : A) (b : B) → i < length xs → get_or (map f xs) i b ≡ f (get_or xs i a)
map_at f [] i a b h = absurd (omega arith)
map_at f (x ∷ xs) zero a b h = refl
map_at f (x ∷ xs) (suc i) a b h = map_at f xs i a b (omega arith)

pub channel_by_channel : ChannelByChannel
channel_by_channel s samples room out e enough stream holds k c j number =
    let made = cut_is s samples room e in
    let f = form_now s.settings in
    let n = channels_of s.settings in
    let place = place_of n k c j in
    let within = (channels_in_turn n f (box_count s.settings) (valid_form s made.0.sound)).within k c j number in
    let there : place < length samples = rw made.0.enough within in
    ap (λ (l : List ℤ). get_or l place (pos 0)) (what_is_packed_is_unpacked s samples room out e enough).numbers
    ∙ map_at (narrowed f.bits) samples place (pos 0) (pos 0) there
    ∙ ap (narrowed f.bits) (holds k c j number)
