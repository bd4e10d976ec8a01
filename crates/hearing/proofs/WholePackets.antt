-- Whole packets, one behind the other, that bring no line: what holds from packet to packet.
use Prim.Native.Nat.{ℕ, ◌+◌, ◌*◌, ◌-◌, ◌≤◌, ◌<◌}
use mathlib.Core.Path.{◌≡◌, refl, sym, ap, ◌∙◌}
use mathlib.Core.Bool.{true}
use mathlib.Core.List.{List}
use native.Mathlib.Omega.{arith}
use lib.ListN.{length, drop}
use Rattle.wire.specs.Header.{header_of, type_data}
use Rattle.packets.specs.declared.Form.{Form}
use Rattle.packets.specs.Forms.{total_of, listed_form, form_with_header}
use Rattle.packets.specs.Numbers.{number_at, step_of, last}
use Rattle.packets.proofs.Numbers.{number_step}
use Rattle.packets.proofs.Missed.{step_from}
use Rattle.hearing.specs.declared.Tally.{Tally}
use Rattle.hearing.specs.Hearing.{Reach}
use Rattle.hearing.specs.Hearing.{reaching}
use Rattle.hearing.specs.Inside.{goes_on, Sane, Goes, Between, Follows, two_at}
use Rattle.hearing.proofs.Reaches.{followed, reach_follows, form_with_own, total_least}

-- the tally between two of them
abbrev pub tally_at : Tally → ℕ → ℕ → ℕ → ℕ → Tally
tally_at t from at heard position =
    record {
      begins = t.begins + (at - from);
      came = 0;
      header = 0;
      number = 0;
      captures = t.captures;
      heard = heard;
      position = position;
    }

same_tally : (t : Tally) {a b c d : ℕ} → a ≡ t.begins → b ≡ t.came → c ≡ t.header → d ≡ t.number
    → record { begins = a; came = b; header = c; number = d; captures = t.captures; heard = t.heard; position = t.position } ≡ t
same_tally t p q r s = rw (p, q, r, s)

-- which is the one that was given, but for three fields
pub tally_there : (t : Tally) (from at heard position : ℕ) → Between t
    → tally_at t from at heard position
    ≡ record {
      begins = t.begins + (at - from);
      came = t.came;
      header = t.header;
      number = t.number;
      captures = t.captures;
      heard = heard;
      position = position;
    }
tally_there t from at heard position b = rw (b.came, b.header, b.number)

-- What holds between two of them. The form is known by the header.
pub record Onward (t : Tally) (piece : List ℕ) (from front at heard position number : ℕ) : Type 0 where
  pub low : from ≤ at
  pub inside : at ≤ length piece
  pub some : 0 < heard
  pub few : heard ≤ t.begins + (at - from)
  pub allowed : position ≤ last
  pub least : heard ≤ position + 1
  pub most : position ≤ 65_535 * (heard - 1)
  pub numbered : number ≡ number_at position
  pub same :
      reaching at (form_with_header front) (tally_at t from at heard position) (drop at piece)
      ≡ reaching from (form_with_header front) t (drop from piece)

module _
    (f : Form) (t : Tally) (piece : List ℕ) (from total front : ℕ)
    (ok : listed_form f ≡ true) (long : total ≡ total_of f) (is_front : front ≡ header_of type_data (total_of f)) where
  pub form_is : form_with_header front ≡ f
  form_is = ap form_with_header is_front ∙ form_with_own f ok

  pub onward_turn : (at heard position number next after : ℕ)
      → Onward t piece from front at heard position number → Follows piece at front total number position next
      → after ≡ two_at piece (at + 2) → after ≤ 65_535
      → Onward t piece from front (at + total) (heard + 1) next after
  onward_turn at heard position number next after r x is small =
      let least = total_least f ok in
      let go : next ≡ position + step_of (number_at position) after = x.here ∙ rw (r.numbered, is) in
      let packet : Follows piece at (header_of type_data (total_of f)) total (number_at position) position next
      = rw (is_front, r.numbered) at x in
      let stepped = step_from position after (omega (arith, is, x.above)) small in
      let now : Tally = tally_at t from at heard position in
      let ahead : Tally → Reach = λ u. reaching (at + total) (form_with_header front) u (drop (at + total) piece) in
      let step : reaching at (form_with_header front) now (drop at piece) ≡ ahead (followed now total next)
      = rw form_is (reach_follows f now piece at total next ok refl r.some long packet) in
      let on : t.begins + (at - from) + total ≡ t.begins + (at + total - from) = omega (arith, r.low) in
      record {
        low = omega (arith, r.low);
        inside = x.room;
        some = omega arith;
        few = omega (arith, r.few, r.low, long, least);
        allowed = x.fits;
        least = omega (arith, r.least, go, stepped.0);
        most = omega (arith, r.most, r.some, go, stepped.1);
        numbered = sym (ap number_at go ∙ number_step position after (omega (arith, is, x.above)) small);
        same = ap ahead (same_tally (followed now total next) (sym on) refl refl refl) ∙ sym step ∙ r.same;
      }

  pub onward_end : (at heard position number : ℕ)
      → Onward t piece from front at heard position number → Sane (length piece - from) t
      → Goes f t piece from (record { at = at; code = 0; tally = tally_at t from at heard position })
  unfolding goes_on
  onward_end at heard position number r s =
      record {
        same = rw form_is at r.same;
        inside = r.inside;
        sane =
            record {
              room = omega (arith, r.low, r.inside, s.room);
              counted =
                  record {
                    heard = r.few;
                    captures = omega (arith, s.counted.captures);
                    position = r.allowed;
                    number = omega arith;
                    least = r.least;
                    most = r.most;
                  };
            };
      }
