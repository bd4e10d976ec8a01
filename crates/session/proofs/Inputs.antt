-- Piece after piece as the program hands them over is serving of station/specs/Serving, so it makes no difference into which
-- pieces the reads cut the input.
-- Assumes nothing.
use Prim.Native.Nat.{ℕ, zero, suc}
use native.Mathlib.Nat.{le_refl}
use mathlib.Core.Path.{◌≡◌, refl, sym, ap, ◌∙◌}
use mathlib.Core.Bool.{true}
use mathlib.Core.List.{List, [], ◌∷◌, ◌++◌, append-nil, append_assoc}
use lib.ListN.{length, drop}
use Rattle.station.specs.declared.Station.{Station}
use Rattle.station.specs.Station.{valid}
use Rattle.station.specs.Feeding.{feeding_of}
use Rattle.station.specs.Serving.{Served, unserved, noting, called, calling, Piece, serving, joined, roomy}
use Rattle.station.proofs.Serving.{cuts_do_not_matter}
use Rattle.session.specs.Session.{pieces, handed, handed_all, following}

-- replies noted before stay, and change nothing else: in one call, in a piece, in all of them
noting_follows : (before replies : List (List ℕ)) (reply : List ℕ) → noting (before ++ replies) reply ≡ before ++ noting replies reply
noting_follows before replies [] = refl
noting_follows before replies (b ∷ bs) = append_assoc before replies ((b ∷ bs) ∷ [])

calling_follows : (rooms : ℕ → ℕ) (calls : ℕ) (before : List (List ℕ)) (r : Served) (host : List ℕ)
    → calling rooms calls (following before r) host ≡ following before (calling rooms calls r host)
unfolding calling
calling_follows rooms zero before r host = refl
calling_follows rooms (suc calls) before r [] = refl
calling_follows rooms (suc calls) before r (b ∷ bs) =
    rw (noting_follows before r.replies (feeding_of r.station (b ∷ bs) (rooms calls)).bytes)
    (calling_follows rooms calls before (called (rooms calls) r (b ∷ bs))
    (drop (feeding_of r.station (b ∷ bs) (rooms calls)).fed.consumed (b ∷ bs)))

serving_follows : (before : List (List ℕ)) (r : Served) (ps : List Piece)
    → serving (following before r) ps ≡ following before (serving r ps)
unfolding serving
serving_follows before r [] = refl
serving_follows before r (p ∷ ps) =
    rw (calling_follows p.rooms (length p.host) before r p.host)
    (serving_follows before (calling p.rooms (length p.host) r p.host) ps)

follows_none : (r : Served) → following r.replies (unserved r.station) ≡ r
follows_none r = ap (λ (l : List (List ℕ)). record { station = r.station; replies = l }) (append-nil r.replies)

pub handed_all_lem : (s : Station) (ps : List (List ℕ)) → handed_all s ps ≡ serving (unserved s) (pieces ps)
unfolding handed_all serving
handed_all_lem s [] = refl
handed_all_lem s (p ∷ ps) =
    ap (following (handed s p).replies) (handed_all_lem (handed s p).station ps)
    ∙ sym (serving_follows (handed s p).replies (unserved (handed s p).station) (pieces ps))
    ∙ ap (λ (r : Served). serving r (pieces ps)) (follows_none (handed s p))

all_roomy : (ps : List (List ℕ)) → roomy (pieces ps)
all_roomy [] = tt
all_roomy (p ∷ ps) = (λ calls. le_refl 64, all_roomy ps)

-- the same input in other pieces: the same replies, and the same box
pub pieces_do_not_matter : (s : Station) (ps qs : List (List ℕ)) → valid s ≡ true → joined (pieces ps) ≡ joined (pieces qs)
    → handed_all s ps ≡ handed_all s qs
pieces_do_not_matter s ps qs v e =
    handed_all_lem s ps
    ∙ cuts_do_not_matter s (pieces ps) (pieces qs) v (all_roomy ps) (all_roomy qs) e
    ∙ sym (handed_all_lem s qs)
