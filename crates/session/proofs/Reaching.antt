-- Boxes that pieces of an input have left: the fresh one is such a box, and a piece more leaves another.
-- Assumes nothing.
use Prim.Native.Nat.{ℕ, ◌+◌}
use native.Mathlib.Omega.{arith}
use mathlib.Core.Path.{◌≡◌, refl, sym, ap, ◌∙◌}
use mathlib.Core.List.{List, [], ◌∷◌, ◌++◌}
use lib.ListN.{length, length-append}
use Rattle.station.specs.declared.Station.{Station}
use Rattle.station.specs.Station.{fresh_box, fresh_station, session_serial}
use Rattle.station.specs.Serving.{joined}
use Rattle.session.specs.Session.{HandedOver, ReadSoFar, pieces, handed, handed_all}
use Rattle.station.proofs.FreshBoxes.{fresh_box_valid}

-- before the first piece
pub none_read : ReadSoFar (fresh_box session_serial).station 0
unfolding handed_all
none_read = record { parts = []; count = refl; box = refl; valid = fresh_box_valid session_serial }

handed_last : (s : Station) (ps : List (List ℕ)) (p : List ℕ)
    → (handed_all s (ps ++ p ∷ [])).station ≡ (handed (handed_all s ps).station p).station
unfolding handed_all
handed_last s [] p = refl
handed_last s (q ∷ qs) p = handed_last (handed s q).station qs p

count_last : (ps : List (List ℕ)) (p : List ℕ) → length (joined (pieces (ps ++ p ∷ []))) ≡ length (joined (pieces ps)) + length p
count_last [] p = simp length-append (omega arith)
count_last (q ∷ qs) p = simp length-append (omega (arith, count_last qs p))

-- a piece more, and its bytes are counted
pub piece_read : (s after : Station) (read n : ℕ) (p : List ℕ) → ReadSoFar s read → length p ≡ n → HandedOver s p after
    → ReadSoFar after (read + n)
piece_read s after read n p r long h =
    record {
      parts = r.parts ++ p ∷ [];
      count = omega (arith, count_last r.parts p, r.count);
      box = h.box ∙ ap (λ (b : Station). (handed b p).station) r.box ∙ sym (handed_last (fresh_station session_serial) r.parts p);
      valid = h.valid;
    }
