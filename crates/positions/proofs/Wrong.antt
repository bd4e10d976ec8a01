-- The wrong readers do not meet demand 3. Where every packet arrives, the one that always says 0 misses position 1, and the one that
-- is right for one turn says 1 at position 65,536. The one that never moves says the same of the second packet, and of the third
-- where the second is lost. Those that miscount do not tell how much was lost, where it is the second of four packets. The one that goes
-- by all pairs is 120 samples too far at the second packet of two channels.
use Prim.Native.Nat.{ℕ, zero, suc, ◌+◌, ◌*◌, ◌<◌}
use mathlib.Core.Path.{◌≡◌, refl, sym, ap, ◌∙◌}
use mathlib.Core.List.{List, [], ◌∷◌, map}
use native.Mathlib.Omega.{arith}
use lib.ListN.{length}
use Rattle.wire.specs.Codes as Code
use Rattle.packets.specs.declared.Form.{Form}
use Rattle.packets.specs.Forms.{whole_of}
use Rattle.packets.specs.Numbers.{number_at, number_in}
use Rattle.packets.proofs.Missed.{step_from}
use Rattle.items.specs.Settings.{single, dual}
use Rattle.cutting.specs.Cutting.{form_now}
use Rattle.reader.specs.declared.Reader.{Reader}
use Rattle.reader.specs.Reading.{silent, reading_of}
use Rattle.reader.proofs.Sound.{silent_sound}
use Rattle.positions.specs.Captures.{Capture}
use Rattle.positions.specs.Losses.{Fate, arrives, lost, arriving, bounded, allowed_losses, positions_from, WayToRead, answers_by}
use Rattle.positions.specs.Demand.{Said, said_in, taken_at, GivesExactPositions, CountIsNeeded}
use Rattle.positions.specs.Lost.{Loss, loss_in, CountsLosses}
use Rattle.positions.specs.Wrong.{PositionsBy, always_zero, never_moving, one_turn_only, read_by}
use Rattle.positions.specs.Wrong.{MissedBy, step_for_missed, TotalOfOne, saying_lost, missing_by, totalling_one}
use Rattle.positions.specs.Wrong.{SamplesByAllPairs, by_all_pairs}
use Rattle.positions.proofs.Demand.{hears, from_start, arriving_numbers, exact_positions}
use Rattle.positions.proofs.Exist.{running, captures_exist}

-- every packet arrives
abbrev every : {A : Type 0} → List A → List Fate
every [] = []
every (x ∷ xs) = arrives ∷ every xs

every_bounded : {A : Type 0} (xs : List A) → bounded 0 (every xs)
every_bounded [] = tt
every_bounded (x ∷ xs) = (omega arith, every_bounded xs)

every_allowed : {A : Type 0} (xs : List A) → allowed_losses (every xs)
every_allowed [] = tt
every_allowed (x ∷ xs) = every_bounded xs

every_arriving : {A : Type 0} (n : ℕ) (xs : List A) → arriving (every xs) (positions_from n xs) ≡ positions_from n xs
every_arriving n [] = refl
every_arriving n (x ∷ xs) = ap (λ l. n ∷ l) (every_arriving (n + 1) xs)

-- the positions that are said
abbrev positions_said : List Said → List ℕ
positions_said = map (λ (x : Said). x.position)

said_taken : (n : ℕ) (f : Form) (ps : List ℕ) → positions_said (map (taken_at n f) ps) ≡ ps
said_taken n f [] = refl
said_taken n f (p ∷ ps) = ap (λ l. p ∷ l) (said_taken n f ps)

-- of a capture the positions of those that arrive
said_exact : (read : WayToRead) → GivesExactPositions read
    → (packets : List (List ℕ)) → Capture (running single 0) packets → (fates : List Fate) → allowed_losses fates
    → positions_said (map said_in (answers_by read (silent 1) (arriving fates packets))) ≡ arriving fates (positions_from 0 packets)
said_exact read exact packets c fates b =
    ap positions_said (exact (silent 1) (silent_sound 1 refl) (running single 0) packets c refl fates b)
    ∙ said_taken 1 (form_now (running single 0).settings) (arriving fates (positions_from 0 packets))

-- where what a reader says depends on the number alone
said_by_lem : (g : ℕ → ℕ) (read : WayToRead) → PositionsBy (λ held number. g number) read → (r : Reader) (ps : List (List ℕ))
    → positions_said (map said_in (answers_by read r ps)) ≡ map g (map number_in ps)
said_by_lem g read follows r [] = refl
said_by_lem g read follows r (p ∷ ps) = rw (follows r p, said_by_lem g read follows (read r p).reader ps)

-- of positions that a rule leaves as they are, it leaves each one
each_stays : {A : Type 0} (g : ℕ → ℕ) (n : ℕ) (xs : List A) → map g (map number_at (positions_from n xs)) ≡ positions_from n xs
    → (k : ℕ) → k < length xs → g (number_at (n + k)) ≡ n + k
each_stays g n [] e k h = absurd (omega arith)
each_stays g n (x ∷ xs) e zero h =
    let here : g (number_at n) ≡ n = cc in
    let same : n + 0 ≡ n = omega arith in
    rw same here
each_stays g n (x ∷ xs) e (suc k) h =
    let tails : map g (map number_at (positions_from (n + 1) xs)) ≡ positions_from (n + 1) xs = cc in
    let next : n + suc k ≡ n + 1 + k = omega arith in
    rw next (each_stays g (n + 1) xs tails k (omega arith))

-- a reader that goes by the number alone says position k by k's number
by_number : (g : ℕ → ℕ) (read : WayToRead) → PositionsBy (λ held number. g number) read → GivesExactPositions read
    → (packets : List (List ℕ)) → Capture (running single 0) packets → (k : ℕ) → k < length packets → g (number_at k) ≡ k
by_number g read follows exact packets c k h =
    let start : 0 + k ≡ k = omega arith in
    let f = form_now (running single 0).settings in
    let fates = every packets in
    let arrived = arriving fates (positions_from 0 packets) in
    let all : arrived ≡ positions_from 0 packets = every_arriving 0 packets in
    let says : map g (map number_in (arriving fates packets)) ≡ arrived =
    sym (said_by_lem g read follows (silent 1) (arriving fates packets)) ∙ said_exact read exact packets c fates (every_allowed packets) in
    let numbers : map number_in (arriving fates packets) ≡ map number_at arrived = arriving_numbers f fates packets 0 (from_start c) in
    rw start at (each_stays g 0 packets (rw (← all) (ap (map g) (sym numbers) ∙ says)) k h)

-- "a reader that always says 0"
pub always_zero_fails : (read : WayToRead) → PositionsBy always_zero read → GivesExactPositions read → ⊥
always_zero_fails read follows exact =
    let c = captures_exist single refl 2 (omega arith) in
    omega (arith, by_number (λ n. 0) read follows exact c.0 c.1 1 (omega (arith, c.2)))

-- "or never moves": after the first packet it gives the second the position that it would give the third
pub never_moving_fails : (read : WayToRead) → PositionsBy never_moving read → GivesExactPositions read → ⊥
never_moving_fails read follows exact = let c = captures_exist single refl 3 (omega arith) in three c.0 c.1 c.2
  where
    three : (packets : List (List ℕ)) → Capture (running single 0) packets → length packets ≡ 3 → ⊥
    three [] c l = omega arith
    three (p ∷ []) c l = omega arith
    three (p ∷ q ∷ []) c l = omega arith
    three (p ∷ q ∷ x ∷ ps) c l =
        let next = said_exact read exact (p ∷ q ∷ x ∷ ps) c (arrives ∷ arrives ∷ []) (omega arith, tt) in
        let later = said_exact read exact (p ∷ q ∷ x ∷ ps) c (arrives ∷ lost ∷ arrives ∷ []) (omega arith, tt) in
        let one : (read (read (silent 1) p).reader q).position ≡ 1 = cc in
        let two : (read (read (silent 1) p).reader x).position ≡ 2 = cc in
        omega (arith, follows (read (silent 1) p).reader q, follows (read (silent 1) p).reader x, one, two)

-- "a reader right for one turn only (demand 3, position 65,536)"
pub one_turn_only_fails : (read : WayToRead) → PositionsBy one_turn_only read → GivesExactPositions read → ⊥
one_turn_only_fails read follows exact =
    let c = captures_exist single refl 65_537 (omega arith) in
    omega (arith, by_number (λ n. n) read follows exact c.0 c.1 65_536 (omega (arith, c.2)))

-- there are such readers
pub rules_followed : (rule : ℕ → ℕ → ℕ) → PositionsBy rule (read_by rule)
rules_followed rule r packet = refl

-- so many lost just before, and so many in all
abbrev loss_of : ℕ → ℕ → Loss
loss_of k t = record { before = k; in_all = t }

-- What a reader that meets demand 3 and counts says where the second of four packets is lost: at the third, that one was missed; at
-- the fourth, none, and one in all.
record SecondLost (read : WayToRead) : Type 0 where
  before_third : Reader
  third : List ℕ
  before_fourth : Reader
  fourth : List ℕ
  third_taken : (read before_third third).code ≡ Code.done
  at_third : loss_in (read before_third third) ≡ loss_of 1 1
  fourth_taken : (read before_fourth fourth).code ≡ Code.done
  at_fourth : loss_in (read before_fourth fourth) ≡ loss_of 0 1
  number : number_in fourth ≡ 3

second_lost : (read : WayToRead) → GivesExactPositions read → CountsLosses read → SecondLost read
second_lost read exact counts = let c = captures_exist single refl 4 (omega arith) in four c.0 c.1 c.2
  where
    four : (packets : List (List ℕ)) → Capture (running single 0) packets → length packets ≡ 4 → SecondLost read
    four [] c l = absurd (omega arith)
    four (p ∷ []) c l = absurd (omega arith)
    four (p ∷ q ∷ []) c l = absurd (omega arith)
    four (p ∷ q ∷ x ∷ []) c l = absurd (omega arith)
    four (p ∷ q ∷ x ∷ y ∷ ps) c l =
        let fates = arrives ∷ lost ∷ arrives ∷ arrives ∷ [] in
        let f = form_now (running single 0).settings in
        let few : allowed_losses fates = (omega arith, (omega arith, tt)) in
        let taken : map said_in (answers_by read (silent 1) (p ∷ x ∷ y ∷ [])) ≡ taken_at 1 f 0 ∷ taken_at 1 f 2 ∷ taken_at 1 f 3 ∷ [] =
        exact (silent 1) (silent_sound 1 refl) (running single 0) (p ∷ q ∷ x ∷ y ∷ ps) c refl fates few in
        let says : map loss_in (answers_by read (silent 1) (p ∷ x ∷ y ∷ [])) ≡ loss_of 0 0 ∷ loss_of 1 1 ∷ loss_of 0 1 ∷ [] =
        counts (silent 1) (silent_sound 1 refl) (running single 0) (p ∷ q ∷ x ∷ y ∷ ps) c fates few in
        let third : said_in (read (read (silent 1) p).reader x) ≡ taken_at 1 f 2 = cc in
        let fourth : said_in (read (read (read (silent 1) p).reader x).reader y) ≡ taken_at 1 f 3 = cc in
        record {
          before_third = (read (silent 1) p).reader;
          third = x;
          before_fourth = (read (read (silent 1) p).reader x).reader;
          fourth = y;
          third_taken = ap (λ (s : Said). s.code) third;
          at_third = cc;
          fourth_taken = ap (λ (s : Said). s.code) fourth;
          at_fourth = cc;
          number = (from_start c).1.1.1.0.number;
        }

-- a reader that always says that none was missed
pub none_missed_fails : (read : WayToRead) → MissedBy always_zero read → GivesExactPositions read → CountsLosses read → ⊥
none_missed_fails read follows exact counts =
    let w = second_lost read exact counts in
    omega (arith, follows w.before_third w.third w.third_taken, ap (λ (l : Loss). l.before) w.at_third)

-- a reader that says the step, which is never 0
pub step_for_missed_fails : (read : WayToRead) → MissedBy step_for_missed read → GivesExactPositions read → CountsLosses read → ⊥
step_for_missed_fails read follows exact counts =
    let w = second_lost read exact counts in
    let r = w.before_fourth in
    let says = rw w.number at (follows r w.fourth w.fourth_taken) in
    omega (arith, says, ap (λ (l : Loss). l.before) w.at_fourth, (step_from r.position 3 (omega arith) (omega arith)).0)

-- a reader whose total is of this packet only
pub total_of_one_fails : (read : WayToRead) → TotalOfOne read → GivesExactPositions read → CountsLosses read → ⊥
total_of_one_fails read follows exact counts =
    let w = second_lost read exact counts in
    let same = follows w.before_fourth w.fourth w.fourth_taken in
    let says = w.at_fourth in
    omega (arith, same, ap (λ (l : Loss). l.before) says, ap (λ (l : Loss). l.in_all) says)

-- There are such readers, and demand 3 does not reject them: whatever is said to be lost, the positions are exact.
pub missed_rules_followed : (rule : ℕ → ℕ → ℕ) → MissedBy rule (missing_by rule)
missed_rules_followed rule r packet taken = refl

pub total_of_one_said : TotalOfOne totalling_one
total_of_one_said r packet taken = refl

said_alike : (says : Reader → List ℕ → Loss) (r : Reader) (ps : List (List ℕ))
    → map said_in (answers_by (saying_lost says) r ps) ≡ map said_in (answers_by reading_of r ps)
said_alike says r [] = refl
said_alike says r (p ∷ ps) = ap (λ l. said_in (reading_of r p) ∷ l) (said_alike says (reading_of r p).reader ps)

pub exact_whatever_is_lost : (says : Reader → List ℕ → Loss) → GivesExactPositions (saying_lost says)
exact_whatever_is_lost says r fine s packets c told fates b =
    said_alike says r (arriving fates packets) ∙ exact_positions r fine s packets c told fates b

-- ---- two channels

-- What a reader that meets demand 3 says of the second packet of a capture of two channels.
record SecondOfTwo (read : WayToRead) : Type 0 where
  before : Reader
  second : List ℕ
  pairs : (whole_of second).pairs ≡ 240
  said : said_in (read before second) ≡ record { code = Code.done; position = 1; sample = 120 }

second_of_two : (read : WayToRead) → GivesExactPositions read → SecondOfTwo read
second_of_two read exact = let c = captures_exist dual refl 2 (omega arith) in two c.0 c.1 c.2
  where
    two : (packets : List (List ℕ)) → Capture (running dual 0) packets → length packets ≡ 2 → SecondOfTwo read
    two [] c l = absurd (omega arith)
    two (p ∷ []) c l = absurd (omega arith)
    two (p ∷ q ∷ ps) c l =
        let f = form_now (running dual 0).settings in
        let taken : map said_in (answers_by read (silent 2) (p ∷ q ∷ [])) ≡ taken_at 2 f 0 ∷ taken_at 2 f 1 ∷ [] =
        exact (silent 2) (silent_sound 2 refl) (running dual 0) (p ∷ q ∷ ps) c refl (arrives ∷ arrives ∷ []) (omega arith, tt) in
        let here : said_in (read (read (silent 2) p).reader q) ≡ taken_at 2 f 1 = cc in
        record {
          before = (read (silent 2) p).reader;
          second = q;
          pairs = ap (λ (g : Form). g.pairs) (from_start c).1.0.form;
          said = here;
        }

-- a reader that goes by all pairs of a packet
pub all_pairs_fails : (read : WayToRead) → SamplesByAllPairs read → GivesExactPositions read → ⊥
all_pairs_fails read follows exact =
    let w = second_of_two read exact in
    let says = follows w.before w.second (ap (λ (x : Said). x.code) w.said) in
    let position : (read w.before w.second).position ≡ 1 = ap (λ (x : Said). x.position) w.said in
    let sample : (read w.before w.second).sample ≡ 120 = ap (λ (x : Said). x.sample) w.said in
    let all : (read w.before w.second).sample ≡ 1 * 240 = rw (w.pairs, position) at says in
    omega (arith, sample, all)

-- there is such a reader
pub all_pairs_said : SamplesByAllPairs by_all_pairs
all_pairs_said r packet taken = refl

-- what is said of the second packet
abbrev second_sample : List Said → ℕ
second_sample [] = 0
second_sample (x ∷ []) = 0
second_sample (x ∷ y ∷ ys) = y.sample

-- the harvester's, told the other count: at the second packet it says 240
pub count_is_needed : CountIsNeeded
count_is_needed exact = let c = captures_exist dual refl 2 (omega arith) in two c.0 c.1 c.2
  where
    two : (packets : List (List ℕ)) → Capture (running dual 0) packets → length packets ≡ 2 → ⊥
    two [] c l = omega arith
    two (p ∷ []) c l = omega arith
    two (p ∷ q ∷ ps) c l =
        let f = form_now (running dual 0).settings in
        let both = arrives ∷ arrives ∷ [] in
        let says = exact (silent 1) (silent_sound 1 refl) (running dual 0) (p ∷ q ∷ ps) c both (omega arith, tt) in
        let said = hears f both (p ∷ q ∷ ps) (from_start c) (omega arith, tt) (silent 1) (silent_sound 1 refl) in
        let same : taken_at 1 f 0 ∷ taken_at 1 f 1 ∷ [] ≡ taken_at 2 f 0 ∷ taken_at 2 f 1 ∷ [] = sym (ap (map said_in) said) ∙ says in
        let z : ◌≡◌ {A = ℕ} 240 120 = ap second_sample same in
        omega arith
