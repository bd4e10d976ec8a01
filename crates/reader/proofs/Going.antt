-- A packet that goes on in the reader's capture: by its tests, and what it has.
use Prim.Native.Nat.{ℕ, ◌+◌, ◌≤◌, ◌<◌}
use native.Mathlib.Omega.{arith}
use mathlib.Core.Path.{◌≡◌, refl, sym, ap, ◌∙◌}
use mathlib.Core.Bool.{Bool, true, false, ◌&&◌, not}
use mathlib.Core.List.{List}
use Rattle.std.specs.Prelude.{Some, None}
use lib.Dec.{eqb, leb}
use borrow.Author.Tests.{eqb-true, eqb-false, ne_eqb, not-true, not-false}
use Rattle.wire.proofs.Laws.{true_not_false, and_left, and_right}
use Rattle.wire.proofs.Checks.{absent}
use Rattle.packets.specs.declared.Form.{Form}
use Rattle.packets.specs.Forms.{same_form, listed_form, found, whole_of, is_packet}
use Rattle.packets.specs.Channels.{is_count}
use Rattle.packets.specs.Numbers.{number_at, step_of, number_in, last}
use Rattle.packets.specs.Missed.{steps_give}
use Rattle.packets.proofs.Forms.{same_is, found_some, found_none}
use Rattle.reader.specs.declared.Reader.{Reader}
use Rattle.reader.specs.Inside.{goes_on}
use Rattle.reader.specs.Reading.{sound, reading_checks, reading_code, reading_of, heard_with}
use Rattle.packets.proofs.Missed.{step_from, steps_give_within}
use Rattle.reader.proofs.Reading.{no_packet, a_packet, heard_sound, heard_within, sound_count}

-- position and total are those of a capture
abbrev pub held : Reader → Bool
held r = leb r.position last && steps_give r.position r.total

-- a reader that has gone on in its capture: count and form are as they were
abbrev pub gone_on : Reader → ℕ → ℕ → Reader
gone_on r position total = record { heard = true; channels = r.channels; position = position; total = total; form = r.form }

module _ (r : Reader) (p : List ℕ) where
  abbrev formed : Bool
  formed = same_form (whole_of p) r.form

  abbrev numbered : Bool
  numbered = not (eqb (number_in p) 0)

  -- what a packet that goes on has
  pub record Going : Type 0 where
    pub fine : sound r ≡ true
    pub begun : r.heard ≡ true
    pub some : (whole_of p).pairs ≡ 0 → ⊥
    pub same : formed ≡ true
    pub later : number_in p ≡ 0 → ⊥

  pub going : goes_on r p ≡ true → Going
  unfolding goes_on
  going is =
      let up_to4 = and_left (sound r && r.heard && is_packet p && formed) numbered is in
      let up_to3 = and_left (sound r && r.heard && is_packet p) formed up_to4 in
      let up_to2 = and_left (sound r && r.heard) (is_packet p) up_to3 in
      let packet = and_right (sound r && r.heard) (is_packet p) up_to3 in
      record {
        fine = and_left (sound r) r.heard up_to2;
        begun = and_right (sound r) r.heard up_to2;
        some = λ z. true_not_false (sym packet ∙ no_packet p z);
        same = and_right (sound r && r.heard && is_packet p) formed up_to4;
        later = eqb-false (number_in p) 0 (not-true _ (and_right (sound r && r.heard && is_packet p && formed) numbered is));
      }

  pub stops : (Going → ⊥) → goes_on r p ≡ false
  stops never = go (goes_on r p) refl
    where
      go : (t : Bool) → goes_on r p ≡ t → goes_on r p ≡ false
      go true is = absurd (never (going is))
      go false is = is

  -- what is no packet does not go on
  pub none_goes_on : None ≡ found (whole_of p) → goes_on r p ≡ false
  unfolding goes_on
  none_goes_on none = rw (found_none (whole_of p) none) (any_false (sound r && r.heard))
    where
      any_false : (t : Bool) → (t && false && formed && numbered) ≡ false
      any_false true = refl
      any_false false = refl

  -- The few tests that tell it of a packet of a form: such a form is a listed one, so the reader's own need not be looked up.
  pub by_form : (f : Form) → Some f ≡ found (whole_of p)
      → goes_on r p ≡ (same_form f r.form && r.heard && numbered && is_count r.channels && held r)
  unfolding goes_on
  by_form f is =
      let it = found_some (whole_of p) f is in
      rw (it.1, it.0) (by (sound r) r.heard formed numbered (is_count r.channels) (held r) (fine it.0))
    where
      -- the reader's own form is listed where it is the packet's
      fine : is_packet p ≡ true → formed ≡ true → r.heard ≡ true → sound r ≡ (is_count r.channels && held r)
      fine packet same begun =
          let listed : listed_form r.form ≡ true = ap listed_form (sym (same_is (whole_of p) r.form same)) ∙ packet in
          rw (begun, listed) (last_true (is_count r.channels) (held r))
        where
          last_true : (n h : Bool) → (n && (h && true)) ≡ (n && h)
          last_true true true = refl
          last_true true false = refl
          last_true false h = refl

      order : (c l n : Bool) → (c && l && true && true && true && n) ≡ (n && c && l)
      order true true true = refl
      order true true false = refl
      order true false true = refl
      order true false false = refl
      order false l true = refl
      order false l false = refl

      by : (s h t n c l : Bool) → (t ≡ true → h ≡ true → s ≡ (c && l)) → (s && h && true && t && n) ≡ (t && h && n && c && l)
      by true true false n c l is = refl
      by true false false n c l is = refl
      by false h false n c l is = refl
      by true false true n c l is = refl
      by false false true n c l is = refl
      by s true true n c l is = rw (is refl refl) (order c l n)

  -- The few tests that tell it: a form that a packet has is a listed one, so the reader's own need not be looked up.
  pub by_tests : {e f : Bool} → ((whole_of p).pairs ≡ 0 → ⊥) → formed ≡ true → r.heard ≡ true → (number_in p ≡ 0 → ⊥)
      → is_count r.channels ≡ e → held r ≡ f → goes_on r p ≡ (e && f)
  unfolding goes_on
  by_tests {e} {f} some same begun later count steps =
      let listed : listed_form r.form ≡ true = ap listed_form (sym (same_is (whole_of p) r.form same)) ∙ a_packet p some in
      rw (count, begun, steps, listed, a_packet p some, same, ne_eqb (number_in p) 0 later) (shorter e f)
    where
      shorter : (e f : Bool) → (e && (f && true) && true && true && true && true) ≡ (e && f)
      shorter true true = refl
      shorter true false = refl
      shorter false f = refl

  -- where only the form is not known to be the reader's, it is not
  pub other_form : goes_on r p ≡ false → sound r ≡ true → ((whole_of p).pairs ≡ 0 → ⊥) → (number_in p ≡ 0 → ⊥) → r.heard ≡ true
      → same_form (whole_of p) r.form ≡ false
  other_form not_so fine some later begun =
      let count = sound_count r fine in
      let steps = and_left (held r) (listed_form r.form) (sym (heard_sound r count begun refl refl) ∙ fine) in
      other formed refl (λ same. by_tests some same begun later count steps)
    where
      other : (t : Bool) → formed ≡ t → (formed ≡ true → goes_on r p ≡ true) → formed ≡ false
      other true is goes = absurd (true_not_false (sym (goes is) ∙ not_so))
      other false is goes = is

  -- ---- what reading makes of the reader where it answers another position than 0

  taken : eqb (reading_code r p) 1 ≡ true → reading_of r p ≡ heard_with r (number_in p) (whole_of p)
  unfolding reading_of
  taken is = rw is

  not_taken : eqb (reading_code r p) 1 ≡ false → (reading_of r p).position ≡ 0
  unfolding reading_of
  not_taken is = rw is

  form_kept : eqb (reading_code r p) 1 ≡ true → eqb (number_in p) 0 ≡ false → same_form (whole_of p) r.form ≡ true
  unfolding reading_code
  form_kept done later = not-false _ (rw later at (absent (reading_checks r p) 1 refl (eqb-true _ 1 done)).1.1.1.0)

  pub gone_on_lem : ((reading_of r p).position ≡ 0 → ⊥) → (reading_of r p).reader ≡ gone_on r (reading_of r p).position (reading_of r p).total
  gone_on_lem moved = by_code (eqb (reading_code r p) 1) refl
    where
      by_number : eqb (reading_code r p) 1 ≡ true → (t : Bool) → eqb (number_in p) 0 ≡ t
          → (reading_of r p).reader ≡ gone_on r (reading_of r p).position (reading_of r p).total
      by_number done true zeroth = absurd (moved (rw (taken done, zeroth)))
      by_number done false later = rw (taken done, same_is (whole_of p) r.form (form_kept done later))

      by_code : (t : Bool) → eqb (reading_code r p) 1 ≡ t
          → (reading_of r p).reader ≡ gone_on r (reading_of r p).position (reading_of r p).total
      by_code true done = by_number done (eqb (number_in p) 0) refl
      by_code false refused = absurd (moved (not_taken refused))

-- The position that the step of a packet that goes on leads to: above the last packet's, and by no more than a turn.
pub record Further (r : Reader) (p : List ℕ) (q : ℕ) : Type 0 where
  pub leads : q ≡ r.position + step_of (number_at r.position) (number_in p)
  pub above : r.position < q
  pub near : q ≤ r.position + 65_535
  pub few : r.total ≤ r.position
  pub within : r.position ≤ last

pub further : (r : Reader) (p : List ℕ) (n q : ℕ) → Going r p → n ≡ number_in p → q ≡ r.position + step_of (number_at r.position) n → Further r p q
further r p n q g carries to =
    let some : 0 < number_in p = omega (arith, g.later) in
    let step = step_from r.position (number_in p) some (omega arith) in
    let leads : q ≡ r.position + step_of (number_at r.position) (number_in p) = to ∙ ap (λ (m : ℕ). r.position + step_of (number_at r.position) m) carries in
    let held = heard_within r g.fine g.begun in
    record {
      leads = leads;
      above = omega (arith, leads, step.0);
      near = omega (arith, leads, step.1);
      few = (steps_give_within r.position r.total held.1).0;
      within = held.0;
    }
