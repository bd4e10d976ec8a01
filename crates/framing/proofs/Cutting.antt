-- Cutting the host's bytes differently: a call over some bytes and then others goes on where the call over the first stopped.
-- Assumes nothing.
use Prim.Native.Nat.{ℕ, ◌+◌, ◌≤◌}
use mathlib.Core.Path.{◌≡◌, refl, sym, ap, ◌∙◌}
use mathlib.Core.Bool.{Bool, true, false}
use mathlib.Core.List.{List, [], ◌∷◌, ◌++◌}
use native.Mathlib.Decide.{dec_lt}
use native.Mathlib.Nat.{add_assoc}
use native.Mathlib.Omega.{arith}
use borrow.Author.Tests.{leb-true}
use lib.Dec.{leb}
use lib.ListN.{length, set, drop, length-set}
use Rattle.wire.specs.Choice.{pick}
use Rattle.wire.specs.Header.{type_in, length_in}
use Rattle.wire.proofs.Laws.{true_not_false, and_left, and_right}
use Rattle.framing.specs.declared.Store.{Store}
use Rattle.framing.specs.Framing.{Taking, announced_by, header_in, announced, pushed, finished, zeros, could_be_left, stopped, taking}
use Rattle.framing.specs.Framing.{call_takes}
use Rattle.framing.proofs.Headers.{header_kept, open_total}
use Rattle.framing.proofs.Leaving.{pushed_left, pushed_unused}
use Rattle.framing.proofs.Runs.{stops}
use Rattle.framing.proofs.Totals.{total_least}

-- the same with n bytes taken before
abbrev pub added : ℕ → Taking → Taking
added n t = record { store = t.store; count = n + t.count; finished = t.finished }

-- ---- one byte

pub taking_none : (n : ℕ) (s : Store) → taking n s [] ≡ stopped n s
unfolding taking
taking_none n s = refl

pub taking_on : (n : ℕ) (s : Store) (b : ℕ) (bs : List ℕ) → finished s ≡ false → taking n s (b ∷ bs) ≡ taking (n + 1) (pushed s b) bs
unfolding taking
taking_on n s b bs f = rw f

-- What holds of a call that stops, and of a call whenever it holds of the call a byte further, holds of every call.
pub taking_by : (P : ℕ → Store → List ℕ → Taking → Type 0)
    → ((n : ℕ) (s : Store) → P n s [] (stopped n s))
    → ((n : ℕ) (s : Store) (b : ℕ) (bs : List ℕ) → finished s ≡ true → P n s (b ∷ bs) (stopped n s))
    → ((n : ℕ) (s : Store) (b : ℕ) (bs : List ℕ) (t : Taking) → finished s ≡ false → P (n + 1) (pushed s b) bs t → P n s (b ∷ bs) t)
    → (n : ℕ) (s : Store) (host : List ℕ) → P n s host (taking n s host)
unfolding taking
taking_by P none done more n s [] = none n s
taking_by P none done more n s (b ∷ bs) = go (finished s) refl (taking_by P none done more (n + 1) (pushed s b) bs)
  where
    go : (d : Bool) → finished s ≡ d → P (n + 1) (pushed s b) bs (taking (n + 1) (pushed s b) bs)
        → P n s (b ∷ bs) (pick d (stopped n s) (taking (n + 1) (pushed s b) bs))
    go true f ih = done n s b bs f
    go false f ih = more n s b bs _ f ih

-- ---- what a call tells

pub stopped_there : (n : ℕ) (s : Store) (host : List ℕ) → stopped (taking n s host).count (taking n s host).store ≡ taking n s host
stopped_there = taking_by (λ n s host t. stopped t.count t.store ≡ t) (λ n s. refl) (λ n s b bs f. refl) (λ n s b bs t f ih. ih)

pub finished_taking : (n : ℕ) (s : Store) (host : List ℕ) → finished (taking n s host).store ≡ (taking n s host).finished
finished_taking n s host = ap (λ (t : Taking). t.finished) (stopped_there n s host)

pub count_least : (n : ℕ) (s : Store) (host : List ℕ) → n ≤ (taking n s host).count
count_least = taking_by (λ n s host t. n ≤ t.count) (λ n s. omega arith) (λ n s b bs f. omega arith) (λ n s b bs t f ih. omega arith)

pub count_most : (n : ℕ) (s : Store) (host : List ℕ) → (taking n s host).count ≤ n + length host
count_most =
    taking_by (λ n s host t. t.count ≤ n + length host) (λ n s. omega arith) (λ n s b bs f. omega arith)
    (λ n s b bs t f ih. omega arith)

-- of a message that is not finished at least one byte is taken, where there is one
pub count_some : (s : Store) (b : ℕ) (bs : List ℕ) → finished s ≡ false → 1 ≤ (call_takes s (b ∷ bs)).count
count_some s b bs f = rw (taking_on 0 s b bs f) (count_least 1 (pushed s b) bs)

-- a call that does not finish the message has taken all its bytes
pub count_all : (n : ℕ) (s : Store) (host : List ℕ) → (taking n s host).finished ≡ false → (taking n s host).count ≡ n + length host
count_all =
    taking_by (λ n s host t. t.finished ≡ false → t.count ≡ n + length host) (λ n s g. omega arith)
    (λ n s b bs f g. absurd (true_not_false (sym f ∙ g))) (λ n s b bs t f ih g. omega (arith, ih g))

-- bytes taken before count for the count alone
pub count_added : (m n : ℕ) (s : Store) (host : List ℕ) → taking (m + n) s host ≡ added m (taking n s host)
unfolding taking
count_added m n s [] = refl
count_added m n s (b ∷ bs) = go (finished s) (count_added m (n + 1) (pushed s b) bs)
  where
    go : (d : Bool) → taking (m + (n + 1)) (pushed s b) bs ≡ added m (taking (n + 1) (pushed s b) bs)
        → pick d (stopped (m + n) s) (taking (m + n + 1) (pushed s b) bs) ≡ added m (pick d (stopped n s) (taking (n + 1) (pushed s b) bs))
    go true ih = refl
    go false ih = rw (add_assoc m n 1) ih

-- ---- some bytes and then others

pub cut : (n : ℕ) (s : Store) (a b : List ℕ) → taking n s (a ++ b) ≡ taking (taking n s a).count (taking n s a).store b
unfolding taking
cut n s [] b = refl
cut n s (x ∷ a) b = go (finished s) refl (cut (n + 1) (pushed s x) a b)
  where
    go : (d : Bool) → finished s ≡ d
        → let t = taking (n + 1) (pushed s x) a in
        taking (n + 1) (pushed s x) (a ++ b) ≡ taking t.count t.store b
        → pick d (stopped n s) (taking (n + 1) (pushed s x) (a ++ b))
        ≡ taking (pick d (stopped n s) t).count (pick d (stopped n s) t).store b
    go true f ih = sym (stops n s b f)
    go false f ih = ih

-- ---- what the store is that a call leaves

pub taken_left : (n : ℕ) (s : Store) (host : List ℕ) → could_be_left s ≡ true → (taking n s host).finished ≡ false
    → could_be_left (taking n s host).store ≡ true
taken_left n s host h f = kept n s host (λ g. h) (finished_taking n s host ∙ f)
  where
    kept : (n : ℕ) (s : Store) (host : List ℕ) → (finished s ≡ false → could_be_left s ≡ true)
        → finished (taking n s host).store ≡ false → could_be_left (taking n s host).store ≡ true
    kept =
        taking_by (λ n s host t. (finished s ≡ false → could_be_left s ≡ true) → finished t.store ≡ false → could_be_left t.store ≡ true)
        (λ n s h. h) (λ n s b bs f h. h) (λ n s b bs t f ih h. ih (pushed_left s b (h f)))

-- finished or not: unused places are zero
pub taken_unused : (n : ℕ) (s : Store) (host : List ℕ) → zeros (drop s.taken s.held) ≡ true
    → zeros (drop (taking n s host).store.taken (taking n s host).store.held) ≡ true
taken_unused =
    taking_by (λ n s host t. zeros (drop s.taken s.held) ≡ true → zeros (drop t.store.taken t.store.held) ≡ true)
    (λ n s h. h) (λ n s b bs f h. h) (λ n s b bs t f ih h. ih (pushed_unused s b h))

-- and as many are held
pub taken_long : (n : ℕ) (s : Store) (host : List ℕ) → length (taking n s host).store.held ≡ length s.held
taken_long =
    taking_by (λ n s host t. length t.store.held ≡ length s.held)
    (λ n s. refl) (λ n s b bs f. refl) (λ n s b bs t f ih. ih ∙ length-set s.held s.taken b)

-- A byte that finishes a message is its last: neither too few are taken nor too many.
pub last_byte : (s : Store) (b : ℕ) → finished s ≡ false → finished (pushed s b) ≡ true
    → (2 ≤ (pushed s b).taken) × ((pushed s b).taken ≡ announced (pushed s b).held)
last_byte s b f g =
    let two : 2 ≤ s.taken + 1 = leb-true 2 (s.taken + 1) (and_left (leb 2 (s.taken + 1)) (leb total (s.taken + 1)) g) in
    let most : total ≤ s.taken + 1 = leb-true total (s.taken + 1) (and_right (leb 2 (s.taken + 1)) (leb total (s.taken + 1)) g) in
    elim (dec_lt s.taken 2) [
      | yes w ↦ (two, omega (arith, least))
      | no w ↦ (two, omega (arith, ap announced_by (header_kept s.held s.taken (b ∷ []) (omega arith)), open_total s (omega arith) f))
    ]
  where
    total : ℕ
    total = announced (set s.held s.taken b)

    least : 2 ≤ announced (set s.held s.taken b)
    least = total_least (type_in (header_in (set s.held s.taken b))) (length_in (header_in (set s.held s.taken b)))

-- So is a finished message: all that its header announces is taken, and no more.
pub finished_whole : (n : ℕ) (s : Store) (host : List ℕ) → finished s ≡ false → (taking n s host).finished ≡ true
    → (2 ≤ (taking n s host).store.taken) × ((taking n s host).store.taken ≡ announced (taking n s host).store.held)
finished_whole n s host f g = whole n s host (λ e. absurd (true_not_false (sym e ∙ f))) (finished_taking n s host ∙ g)
  where
    whole : (n : ℕ) (s : Store) (host : List ℕ) → (finished s ≡ true → (2 ≤ s.taken) × (s.taken ≡ announced s.held))
        → finished (taking n s host).store ≡ true
        → (2 ≤ (taking n s host).store.taken) × ((taking n s host).store.taken ≡ announced (taking n s host).store.held)
    whole =
        taking_by
        (λ n s host t. (finished s ≡ true → (2 ≤ s.taken) × (s.taken ≡ announced s.held)) → finished t.store ≡ true
        → (2 ≤ t.store.taken) × (t.store.taken ≡ announced t.store.held))
        (λ n s h. h) (λ n s b bs f h. h) (λ n s b bs t f ih h. ih (last_byte s b f))
