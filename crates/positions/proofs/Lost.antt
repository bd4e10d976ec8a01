-- How much was lost: what is heard of a capture, of which demand 3 takes the positions, says it.
use Prim.Native.Nat.{ℕ, ◌+◌}
use mathlib.Core.Path.{◌≡◌, refl, ap, ◌∙◌}
use mathlib.Core.List.{List, [], ◌∷◌, map}
use Rattle.packets.specs.declared.Form.{Form}
use Rattle.cutting.specs.Cutting.{form_now}
use Rattle.reader.specs.Reading.{silent, after_slices}
use Rattle.positions.specs.Losses.{Fate, arrives, lost}
use Rattle.positions.specs.Lost.{loss_in, losses_before, LossesCounted, LossesCountedAfterAnything}
use Rattle.positions.proofs.Demand.{heards_from, hears, from_start, never_broken}

-- what is said to be lost up to packets that are heard so
loss_heard : (c : ℕ) (f : Form) (fs : List Fate) (ps : List (List ℕ)) (k t n : ℕ)
    → map loss_in (heards_from c f k t n fs ps) ≡ losses_before k t fs ps
loss_heard c f [] ps k t n = refl
loss_heard c f (arrives ∷ fs) [] k t n = refl
loss_heard c f (arrives ∷ fs) (p ∷ ps) k t n = ap (λ l. record { before = k; in_all = t } ∷ l) (loss_heard c f fs ps 0 t (n + 1))
loss_heard c f (lost ∷ fs) [] k t n = refl
loss_heard c f (lost ∷ fs) (p ∷ ps) k t n = loss_heard c f fs ps (k + 1) (t + 1) (n + 1)

pub losses_counted : LossesCounted
losses_counted r fine s packets c fates b =
    let f = form_now s.settings in
    ap (map loss_in) (hears f fates packets (from_start c) b r fine) ∙ loss_heard r.channels f fates packets 0 0 0

pub losses_counted_after_anything : LossesCountedAfterAnything
losses_counted_after_anything n count before = losses_counted (after_slices (silent n) before) (never_broken n count before)
