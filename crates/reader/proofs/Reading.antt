-- Reading by its checks: what each refusal and each acceptance says, in the order of checking, and what a packet's form bounds.
use Prim.Native.Nat.{ℕ, ◌+◌, ◌-◌, ◌≤◌, ◌<◌}
use mathlib.Core.Path.{◌≡◌, refl, sym, ap, ◌∙◌}
use mathlib.Core.Bool.{Bool, true, false, ◌&&◌, not}
use mathlib.Core.Logic.{⊎_elim}
use mathlib.Core.List.{List}
use native.Mathlib.Omega.{arith}
use borrow.Author.Tests.{leb-true, eq-eqb, ne_eqb, lt-ltb, le-ltb}
use lib.Dec.{eqb, leb, ltb}
use lib.ListN.{length, take, drop, length-drop}
use lib.Seq.{take_all}
use Rattle.wire.proofs.Laws.{and_left, and_right, and_not_left}
use Rattle.packets.specs.declared.Form.{Form}
use Rattle.packets.specs.Forms.{no_form, same_form, listed_form, whole_of, is_packet, total_of}
use Rattle.packets.specs.Channels.{is_count}
use Rattle.packets.specs.Numbers.{number_at, step_of, number_in, last}
use Rattle.packets.proofs.Forms.{is_listed_form, Whole, whole_is, packet_is}
use Rattle.reader.specs.declared.Reader.{Reader}
use Rattle.packets.specs.Missed.{missed_in, steps_give}
use Rattle.reader.specs.Reading.{heard_well, sound, step_to, position_after, reading_checks, reading_code, reading_of}
use Rattle.reader.specs.Reading.{heard_at, heard_with, unheard, sample_bytes_of}
use Rattle.wire.proofs.Checks.{clear}

-- a slice is a packet where the form found has pairs
pub no_packet : (p : List ℕ) → (whole_of p).pairs ≡ 0 → is_packet p ≡ false
no_packet p z =
    ⊎_elim (λ (e : whole_of p ≡ no_form). rw e)
    (λ (w : Whole p (whole_of p)). absurd (omega (arith, (is_listed_form (whole_of p) w.form).some)))
    (whole_is p)

pub a_packet : (p : List ℕ) → ((whole_of p).pairs ≡ 0 → ⊥) → is_packet p ≡ true
a_packet p z =
    ⊎_elim (λ (e : whole_of p ≡ no_form). absurd (z (ap (λ (f : Form). f.pairs) e)))
    (λ (w : Whole p (whole_of p)). w.form)
    (whole_is p)

-- a packet's form has at most 256 pairs
pub pairs_few : (p : List ℕ) → (whole_of p).pairs < 257
pairs_few p =
    ⊎_elim (λ (e : whole_of p ≡ no_form). rw e (omega arith))
    (λ (w : Whole p (whole_of p)). omega (arith, (is_listed_form (whole_of p) w.form).few))
    (whole_is p)

-- the sample bytes are what stands after the first four, of which a packet has at least as many
pub four_there : (p : List ℕ) → is_packet p ≡ true → 4 ≤ length p
four_there p is = let long : length p ≡ total_of (whole_of p) = (packet_is p is).long in omega arith

pub samples_there : (p : List ℕ) → is_packet p ≡ true → take (length p - 4) (drop 4 p) ≡ sample_bytes_of p
samples_there p is = rw is (take_all (length p - 4) (drop 4 p) (simp length-drop (omega arith)))

-- a sound reader was told a count
pub sound_count : (r : Reader) → sound r ≡ true → is_count r.channels ≡ true
sound_count r fine = and_left (is_count r.channels) (heard_well r) fine

-- soundness, of a reader that was told none; of one that was, and has heard a packet, by what its tests come to, and that has not
pub untold_broken : (r : Reader) → is_count r.channels ≡ false → sound r ≡ false
untold_broken r none = and_not_left (is_count r.channels) (heard_well r) none

pub heard_sound : (r : Reader) {a b : Bool} → is_count r.channels ≡ true → r.heard ≡ true
    → (leb r.position last && steps_give r.position r.total) ≡ a → listed_form r.form ≡ b → sound r ≡ (a && b)
heard_sound r n h p q = rw (n, h, p, q)

pub unheard_sound : (r : Reader) {a b c : Bool} → is_count r.channels ≡ true → r.heard ≡ false → eqb r.position 0 ≡ a
    → eqb r.total 0 ≡ b → same_form r.form no_form ≡ c → sound r ≡ (a && b && c)
unheard_sound r n h p q t = rw (n, h, p, q, t)

-- "A reader that has heard a packet holds its position (at most 3,999,999,999) and a listed form"
pub heard_within : (r : Reader) → sound r ≡ true → r.heard ≡ true
    → (r.position ≤ last) × (steps_give r.position r.total ≡ true)
heard_within r fine begun =
    let near = leb r.position last in
    let steps = steps_give r.position r.total in
    let held = and_left (near && steps) (listed_form r.form) (sym (heard_sound r (sound_count r fine) begun refl refl) ∙ fine) in
    (leb-true r.position last (and_left near steps held), and_right near steps held)

module _ (r : Reader) (p : List ℕ) where
  refusal : (c : ℕ) → (c ≡ 1 → ⊥) → reading_code r p ≡ c → unheard c r ≡ reading_of r p
  unfolding reading_of
  refusal c other e = rw (e, ne_eqb c 1 other)

  -- none of the five refusals
  packet_taken : sound r ≡ true → is_packet p ≡ true → not (eqb (number_in p) 0) && not r.heard ≡ false
      → not (eqb (number_in p) 0) && not (same_form (whole_of p) r.form) ≡ false
      → ltb last (position_after r (number_in p)) ≡ false
      → reading_of r p ≡ heard_with r (number_in p) (whole_of p)
  unfolding reading_code reading_of
  packet_taken a b c d e =
      let one : reading_code r p ≡ 1 = clear (reading_checks r p) 1 (ap not a, (ap not b, (c, (d, (e, tt))))) in
      rw (eq-eqb (reading_code r p) 1 one)

  pub broken : sound r ≡ false → unheard 21 r ≡ reading_of r p
  unfolding reading_code
  broken e = refusal 21 (omega arith) (rw e)

  module _ (fine : sound r ≡ true) where
    pub no_slice : is_packet p ≡ false → unheard 30 r ≡ reading_of r p
    unfolding reading_code
    no_slice none = refusal 30 (omega arith) (rw (fine, none))

    module _ (packet : is_packet p ≡ true) where
      pub first : number_in p ≡ 0 → heard_at r.channels 0 0 0 (whole_of p) ≡ reading_of r p
      first z =
          let zeroth : eqb (number_in p) 0 ≡ true = eq-eqb _ _ z in
          sym (packet_taken fine packet (rw zeroth) (rw zeroth) (rw zeroth) ∙ rw zeroth)

      module _ (later : number_in p ≡ 0 → ⊥) where
        pub unbegun : r.heard ≡ false → unheard 31 r ≡ reading_of r p
        unfolding reading_code
        unbegun e = refusal 31 (omega arith) (rw (fine, packet, ne_eqb _ _ later, e))

        module _ (begun : r.heard ≡ true) where
          pub changed : same_form (whole_of p) r.form ≡ false → unheard 32 r ≡ reading_of r p
          unfolding reading_code
          changed e = refusal 32 (omega arith) (rw (fine, packet, ne_eqb _ _ later, begun, e))

          module _
              (same : same_form (whole_of p) r.form ≡ true) (n : ℕ)
              (leads : n ≡ r.position + step_of (number_at r.position) (number_in p)) where
            pub past : last < n → unheard 33 r ≡ reading_of r p
            unfolding reading_code
            past l = refusal 33 (omega arith) (rw (fine, packet, ne_eqb _ _ later, begun, same, ← leads, lt-ltb last n l))

            pub next : n ≤ last → (missed : ℕ) → missed ≡ n - r.position - 1
                → heard_at r.channels n missed (r.total + missed) (whole_of p) ≡ reading_of r p
            next l missed over =
                let nonzero : eqb (number_in p) 0 ≡ false = ne_eqb _ _ later in
                let there : position_after r (number_in p) ≡ n = rw nonzero (sym leads) in
                let less : missed_in (step_to r (number_in p)) ≡ missed = omega arith in
                sym (packet_taken fine packet (rw (nonzero, begun)) (rw (nonzero, same)) (rw there (le-ltb last n l))
                ∙ rw (nonzero, ← leads, less))
