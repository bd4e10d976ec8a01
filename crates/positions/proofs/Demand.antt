-- Demand 3. What the box cuts is numbered from 0 on in one form; a reader that has heard a position takes each later packet
-- within a turn at its own, and misses what was lost between; and a list of numbers leaves one list of positions, which leaves
-- one choice of what was lost.
use Prim.Native.Nat.{ℕ, ◌+◌, ◌≤◌, ◌<◌}
use mathlib.Core.Path.{◌≡◌, refl, sym, ap, subst, ◌∙◌}
use mathlib.Core.Bool.{true, false}
use mathlib.Core.List.{List, [], ◌∷◌, map}
use native.Mathlib.Omega.{arith}
use lib.IntN.{ℤ}
use lib.ListN.{length}
use Rattle.packets.specs.declared.Form.{Form}
use Rattle.packets.specs.Numbers.{number_at, number_in, step_of}
use Rattle.items.specs.Settings.{channels_of}
use Rattle.items.proofs.Channels.{box_count}
use Rattle.station.specs.declared.Station.{Station}
use Rattle.station.specs.Feeding.{feeding_of}
use Rattle.cutting.specs.Cutting.{Cutting, form_now, cutting_of}
use Rattle.reader.specs.declared.Reader.{Reader}
use Rattle.reader.specs.Answers.{Heard}
use Rattle.reader.specs.Reading.{silent, sound, reading_of, heard_at, after_slices}
use Rattle.reader.proofs.Sound.{silent_sound, reading_keeps_sound, slices_keep_sound, keeps_its_count}
use Rattle.positions.specs.Captures.{Cuts, ends, cuts, feeds, Capture, EachBox, OneCountACapture}
use Rattle.positions.specs.Losses.{Fate, arrives, lost, arriving, bounded, allowed_losses, positions_from, answers_by}
use Rattle.positions.specs.Demand.{said_in, taken_at, ExactPositions, NeverBroken, ExactAfterAnything, NoTwoAlike}
use Rattle.positions.proofs.Steps.{position_is_exact}
use Rattle.cutting.proofs.Formed.{valid_form}
use Rattle.cutting.proofs.Packets.{packet_whole, packet_number}
use Rattle.cutting.proofs.Ways.{cut_is}
use Rattle.positions.proofs.Boxes.{Next, feeding_leaves, feeding_starts}
use Rattle.positions.proofs.Readings.{At, has_heard, reads_first, reads_next}

-- the packets of a capture of form f from position n on
abbrev pub Numbered : Form → ℕ → List (List ℕ) → Type 0
Numbered f n [] = Unit {0}
Numbered f n (p ∷ ps) = At f n p × Numbered f (n + 1) ps

-- the packet of one cut
cut_at : (s : Station) (samples : List ℤ) (room : ℕ) → (cutting_of s samples room).cut.code ≡ 1
    → At (form_now s.settings) s.settings.count (cutting_of s samples room).bytes
cut_at s samples room e =
    let is = cut_is s samples room e in
    let fine = valid_form s is.0.sound in
    rw is.1
    (record {
      fine = fine;
      form = packet_whole (form_now s.settings) s.settings.count samples fine is.0.enough;
      number = packet_number (form_now s.settings) s.settings.count samples;
      below = is.0.below;
    })

cuts_numbered : {s : Station} {packets : List (List ℕ)} → s.settings.running ≡ true → Cuts s packets
    → Numbered (form_now s.settings) s.settings.count packets
cuts_numbered r ends = tt
cuts_numbered {s} r (cuts {packets = ps} samples room e later) =
    let is = cut_is s samples room e in
    let kept : (cutting_of s samples room).cut.station.settings.running ≡ true = rw is.1 r in (
      cut_at s samples room e,
      subst (λ (x : Cutting). Numbered (form_now x.cut.station.settings) x.cut.station.settings.count ps) is.1
          (cuts_numbered kept later),
    )
cuts_numbered {s} r (feeds {packets = ps} host room on later) =
    subst (λ (x : Next). Numbered x.form x.position ps) (feeding_leaves s host room r on) (cuts_numbered on later)

-- What a reader of c channels answers to those that arrive of a capture of form f, from position n on: k have been lost since the last
-- that arrived, and t in all.
abbrev pub heards_from : ℕ → Form → ℕ → ℕ → ℕ → List Fate → List (List ℕ) → List Heard
heards_from c f k t n [] ps = []
heards_from c f k t n (arrives ∷ fs) [] = []
heards_from c f k t n (arrives ∷ fs) (p ∷ ps) = heard_at c n k t f ∷ heards_from c f 0 t (n + 1) fs ps
heards_from c f k t n (lost ∷ fs) [] = []
heards_from c f k t n (lost ∷ fs) (p ∷ ps) = heards_from c f (k + 1) (t + 1) (n + 1) fs ps

-- after position m with a total of u, and k lost since
hears_after : (c : ℕ) (f : Form) (fs : List Fate) (ps : List (List ℕ)) (m u k t n : ℕ) → sound (has_heard c f m u) ≡ true
    → n ≡ m + k + 1 → u + k ≡ t → Numbered f n ps → bounded k fs
    → answers_by reading_of (has_heard c f m u) (arriving fs ps) ≡ heards_from c f k t n fs ps
hears_after c f [] ps m u k t n fine e d all b = refl
hears_after c f (arrives ∷ fs) [] m u k t n fine e d all b = refl
hears_after c f (arrives ∷ fs) (p ∷ ps) m u k t n fine e d all b =
    let here : reading_of (has_heard c f m u) p ≡ heard_at c n k t f =
    reads_next c f p m u k n all.0 fine e b.0 ∙ ap (λ (x : ℕ). heard_at c n k x f) d in
    let stays : sound (has_heard c f n t) ≡ true = rw here at (reading_keeps_sound (has_heard c f m u) p fine) in
    rw here (ap (λ l. heard_at c n k t f ∷ l) (hears_after c f fs ps n t 0 t (n + 1) stays (omega arith) (omega arith) all.1 b.1))
hears_after c f (lost ∷ fs) [] m u k t n fine e d all b = refl
hears_after c f (lost ∷ fs) (p ∷ ps) m u k t n fine e d all b =
    hears_after c f fs ps m u (k + 1) (t + 1) (n + 1) fine (omega arith) (omega arith) all.1 b

pub hears : (f : Form) (fs : List Fate) (ps : List (List ℕ)) → Numbered f 0 ps → allowed_losses fs → (r : Reader) → sound r ≡ true
    → answers_by reading_of r (arriving fs ps) ≡ heards_from r.channels f 0 0 0 fs ps
hears f [] ps all b r fine = refl
hears f (arrives ∷ fs) [] all b r fine = refl
hears f (arrives ∷ fs) (p ∷ ps) all b r fine =
    let c = r.channels in
    let here = reads_first f p r all.0 fine in
    let stays : sound (has_heard c f 0 0) ≡ true = rw here at (reading_keeps_sound r p fine) in
    rw here (ap (λ l. heard_at c 0 0 0 f ∷ l) (hears_after c f fs ps 0 0 0 0 1 stays (omega arith) (omega arith) all.1 b))
hears f (lost ∷ fs) ps all b r fine = absurd b

-- a box that a call of feeding finds idle and leaves running begins a capture
pub begins : (s : Station) (host : List ℕ) (room : ℕ) (packets : List (List ℕ)) → s.settings.running ≡ false
    → (feeding_of s host room).fed.station.settings.running ≡ true
    → Cuts (feeding_of s host room).fed.station packets
    → Capture (feeding_of s host room).fed.station packets
begins s host room packets idle on calls = record { running = on; fresh = feeding_starts s host room idle on; calls = calls }

-- what a cut and what feeding leave of the count, from box to box
counts_stay : (n : ℕ) {s : Station} {packets : List (List ℕ)} → s.settings.running ≡ true → channels_of s.settings ≡ n
    → (calls : Cuts s packets) → EachBox (λ t. channels_of t.settings ≡ n) calls
counts_stay n r e ends = e
counts_stay n {s} r e (cuts samples room taken later) =
    let is = cut_is s samples room taken in
    let kept : (cutting_of s samples room).cut.station.settings.running ≡ true = rw is.1 r in
    let same : channels_of (cutting_of s samples room).cut.station.settings ≡ n = rw is.1 e in
    (e, counts_stay n kept same later)
counts_stay n {s} r e (feeds host room on later) =
    (e, counts_stay n on (ap (λ (x : Next). x.channels) (feeding_leaves s host room r on) ∙ e) later)

pub one_count_a_capture : OneCountACapture
one_count_a_capture s packets c = counts_stay (channels_of s.settings) c.running refl c.calls

-- a capture's packets are numbered from 0 on
pub from_start : {s : Station} {packets : List (List ℕ)} → Capture s packets → Numbered (form_now s.settings) 0 packets
from_start c = rw c.fresh at (cuts_numbered c.running c.calls)

-- what is said of packets that are heard so
said_heard : (c : ℕ) (f : Form) (fs : List Fate) (ps : List (List ℕ)) (k t n : ℕ)
    → map said_in (heards_from c f k t n fs ps) ≡ map (taken_at c f) (arriving fs (positions_from n ps))
said_heard c f [] ps k t n = refl
said_heard c f (arrives ∷ fs) [] k t n = refl
said_heard c f (arrives ∷ fs) (p ∷ ps) k t n = ap (λ l. taken_at c f n ∷ l) (said_heard c f fs ps 0 t (n + 1))
said_heard c f (lost ∷ fs) [] k t n = refl
said_heard c f (lost ∷ fs) (p ∷ ps) k t n = said_heard c f fs ps (k + 1) (t + 1) (n + 1)

pub exact_positions : ExactPositions
exact_positions r g s packets c told fates b =
    let f = form_now s.settings in
    ap (map said_in) (hears f fates packets (from_start c) b r g)
    ∙ said_heard r.channels f fates packets 0 0 0
    ∙ ap (λ (n : ℕ). map (taken_at n f) (arriving fates (positions_from 0 packets))) told

pub never_broken : NeverBroken
never_broken n count slices = slices_keep_sound (silent n) slices (silent_sound n count)

pub exact_after_anything : ExactAfterAnything
exact_after_anything before s packets c =
    let n = channels_of s.settings in
    let r : Reader = after_slices (silent n) before in
    exact_positions r (never_broken n (box_count s.settings) before) s packets c (keeps_its_count (silent n) before)

-- Positions after m that rise by at most 65,535 at a time: up to 65,534 lost between two.
abbrev pub Rising : ℕ → List ℕ → Type 0
Rising m [] = Unit {0}
Rising m (p ∷ ps) = (m < p) × (p ≤ m + 65_535) × Rising p ps

-- the same numbers after the same position: the same positions
pub same_positions : (m : ℕ) (ps qs : List ℕ) → Rising m ps → Rising m qs → map number_at ps ≡ map number_at qs → ps ≡ qs
same_positions m [] [] a b e = refl
same_positions m [] (q ∷ qs) a b e = absurd (let z : ◌≡◌ {A = ℕ} 0 1 = cc in omega arith)
same_positions m (p ∷ ps) [] a b e = absurd (let z : ◌≡◌ {A = ℕ} 0 1 = cc in omega arith)
same_positions m (p ∷ ps) (q ∷ qs) a b e =
    let number : number_at p ≡ number_at q = cc in
    let numbers : map number_at ps ≡ map number_at qs = cc in
    let here : p ≡ q =
    sym (position_is_exact m p a.0 a.1) ∙ ap (λ n. m + step_of (number_at m) n) number ∙ position_is_exact m q b.0 b.1 in
    let rest : ps ≡ qs = same_positions p ps qs a.2 (rw (← here) at b.2) numbers in
    cc

-- the positions that arrive rise so
arriving_rises : (fs : List Fate) (ps : List (List ℕ)) (m k n : ℕ) → n ≡ m + k + 1 → bounded k fs
    → Rising m (arriving fs (positions_from n ps))
arriving_rises [] ps m k n e b = tt
arriving_rises (arrives ∷ fs) [] m k n e b = tt
arriving_rises (arrives ∷ fs) (p ∷ ps) m k n e b = (omega arith, omega arith, arriving_rises fs ps n 0 (n + 1) (omega arith) b.1)
arriving_rises (lost ∷ fs) [] m k n e b = tt
arriving_rises (lost ∷ fs) (p ∷ ps) m k n e b = arriving_rises fs ps m (k + 1) (n + 1) (omega arith) b

-- the numbers that arrive are those of the positions that arrive
pub arriving_numbers : (f : Form) (fs : List Fate) (ps : List (List ℕ)) (n : ℕ) → Numbered f n ps
    → map number_in (arriving fs ps) ≡ map number_at (arriving fs (positions_from n ps))
arriving_numbers f [] ps n all = refl
arriving_numbers f (arrives ∷ fs) [] n all = refl
arriving_numbers f (arrives ∷ fs) (p ∷ ps) n all =
    rw all.0.number (ap (λ l. number_at n ∷ l) (arriving_numbers f fs ps (n + 1) all.1))
arriving_numbers f (lost ∷ fs) [] n all = refl
arriving_numbers f (lost ∷ fs) (p ∷ ps) n all = arriving_numbers f fs ps (n + 1) all.1

-- what arrives of the positions from n on lies there
arriving_lies : (fs : List Fate) (ps : List (List ℕ)) (n q : ℕ) (qs : List ℕ) → q ∷ qs ≡ arriving fs (positions_from n ps) → n ≤ q
arriving_lies [] ps n q qs e = absurd (let z : ◌≡◌ {A = ℕ} 0 1 = cc in omega arith)
arriving_lies (arrives ∷ fs) [] n q qs e = absurd (let z : ◌≡◌ {A = ℕ} 0 1 = cc in omega arith)
arriving_lies (arrives ∷ fs) (p ∷ ps) n q qs e = let here : q ≡ n = cc in omega arith
arriving_lies (lost ∷ fs) [] n q qs e = absurd (let z : ◌≡◌ {A = ℕ} 0 1 = cc in omega arith)
arriving_lies (lost ∷ fs) (p ∷ ps) n q qs e = omega (arith, arriving_lies fs ps (n + 1) q qs e)

-- the same positions arrive: the same fates
same_fates : (fs gs : List Fate) (ps : List (List ℕ)) (n : ℕ) → length fs ≡ length ps → length gs ≡ length ps
    → arriving fs (positions_from n ps) ≡ arriving gs (positions_from n ps) → fs ≡ gs
same_fates [] [] ps n a b e = refl
same_fates [] (g ∷ gs) ps n a b e = absurd (omega arith)
same_fates (f ∷ fs) [] ps n a b e = absurd (omega arith)
same_fates (f ∷ fs) (g ∷ gs) [] n a b e = absurd (omega arith)
same_fates (arrives ∷ fs) (arrives ∷ gs) (p ∷ ps) n a b e =
    let tails : arriving fs (positions_from (n + 1) ps) ≡ arriving gs (positions_from (n + 1) ps) = cc in
    ap (λ l. arrives ∷ l) (same_fates fs gs ps (n + 1) (omega arith) (omega arith) tails)
same_fates (arrives ∷ fs) (lost ∷ gs) (p ∷ ps) n a b e = absurd (omega (arith, arriving_lies gs ps (n + 1) n _ e))
same_fates (lost ∷ fs) (arrives ∷ gs) (p ∷ ps) n a b e = absurd (omega (arith, arriving_lies fs ps (n + 1) n _ (sym e)))
same_fates (lost ∷ fs) (lost ∷ gs) (p ∷ ps) n a b e = ap (λ l. lost ∷ l) (same_fates fs gs ps (n + 1) (omega arith) (omega arith) e)

same_arriving : (f : Form) (fs gs : List Fate) (ps : List (List ℕ)) → Numbered f 0 ps → length fs ≡ length gs
    → allowed_losses fs → allowed_losses gs
    → map number_in (arriving fs ps) ≡ map number_in (arriving gs ps) → arriving fs (positions_from 0 ps) ≡ arriving gs (positions_from 0 ps)
same_arriving f [] [] ps all l a b e = refl
same_arriving f [] (g ∷ gs) ps all l a b e = absurd (omega arith)
same_arriving f (arrives ∷ fs) [] ps all l a b e = absurd (omega arith)
same_arriving f (arrives ∷ fs) (arrives ∷ gs) [] all l a b e = refl
same_arriving f (arrives ∷ fs) (arrives ∷ gs) (p ∷ ps) all l a b e =
    let tails : map number_in (arriving fs ps) ≡ map number_in (arriving gs ps) = cc in
    let numbers : map number_at (arriving fs (positions_from 1 ps)) ≡ map number_at (arriving gs (positions_from 1 ps)) =
    sym (arriving_numbers f fs ps 1 all.1) ∙ tails ∙ arriving_numbers f gs ps 1 all.1 in
    ap (λ l. 0 ∷ l) (same_positions 0 _ _ (arriving_rises fs ps 0 0 1 refl a) (arriving_rises gs ps 0 0 1 refl b) numbers)
same_arriving f (arrives ∷ fs) (lost ∷ gs) ps all l a b e = absurd b
same_arriving f (lost ∷ fs) gs ps all l a b e = absurd a

pub no_two_alike : NoTwoAlike
no_two_alike s packets c fates others la lb a b e =
    same_fates fates others packets 0 la lb
    (same_arriving (form_now s.settings) fates others packets (from_start c) (la ∙ sym lb) a b e)
