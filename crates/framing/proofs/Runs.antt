-- A run of bytes taken at once: they are stored one after the other, and a call that takes n bytes of which none before the
-- last finishes the message stands where the byte-by-byte taking stands.
use Prim.Native.Nat.{ℕ, zero, suc, ◌+◌, ◌-◌, ◌≤◌, ◌<◌, min}
use mathlib.Core.Path.{◌≡◌, refl, sym, ap, ◌∙◌}
use mathlib.Core.Bool.{true, false}
use mathlib.Core.List.{List, [], ◌∷◌}
use native.Mathlib.Decide.{dec_lt}
use native.Mathlib.Nat.{add-zero, suc-add, add-suc, zero-add, le_refl, le_of_lt}
use native.Mathlib.Numerals.{add-one}
use native.Mathlib.Omega.{arith}
use borrow.Author.Tests.{le-leb, lt-leb}
use lib.Dec.{leb}
use lib.ListN.{length, take, drop, length-take, drop_of_length-le}
use lib.Seq.{sets, length-take-le, take-length, drop-length}
use Rattle.wire.specs.Header.{type_in, length_in}
use Rattle.framing.specs.declared.Store.{Store}
use Rattle.framing.specs.Framing.{Taking, announced_by, header_in, announced, pushed, pushed_all, finished, taking, call_takes, stopped}
use Rattle.framing.specs.Inside.{total_ahead}
use Rattle.framing.proofs.Headers.{headless, short_of, header_settled, ahead_bare, ahead_known}
use Rattle.framing.proofs.Totals.{total_least}

-- the store that a run of bytes leaves
abbrev pub after : Store → List ℕ → Store
after s bs = record { held = sets s.held s.taken bs; taken = s.taken + length bs }

pub pushed_all_lem : (s : Store) (bs : List ℕ) → pushed_all s bs ≡ after s bs
pushed_all_lem s [] = rw add-zero refl
pushed_all_lem s (b ∷ bs) = pushed_all_lem (pushed s b) bs ∙ rw (add-one, suc-add, add-suc) refl

-- of a message that is finished nothing more is taken
pub stops : (n : ℕ) (s : Store) (host : List ℕ) → finished s ≡ true → taking n s host ≡ stopped n s
unfolding taking
stops n s [] f = refl
stops n s (b ∷ bs) f = rw f refl

-- no byte before the k-th finishes the message, so all k are taken
pub runs : (k n : ℕ) (s : Store) (host : List ℕ) → k ≤ length host
    → ((j : ℕ) → j < k → finished (pushed_all s (take j host)) ≡ false)
    → taking n s host ≡ taking (n + k) (pushed_all s (take k host)) (drop k host)
unfolding taking
runs zero n s host l u = rw add-zero refl
runs (suc k) n s [] l u = absurd (omega arith)
runs (suc k) n s (b ∷ bs) l u =
    rw (u 0 (omega arith))
    (runs k (n + 1) (pushed s b) bs (omega arith) (λ j h. u (suc j) (omega arith))
    ∙ ap (λ (m : ℕ). taking m (pushed_all (pushed s b) (take k bs)) (drop k bs)) (omega arith))

-- n of the host's bytes taken, of a message that has this total
abbrev pub taken_run : Store → List ℕ → ℕ → ℕ → Taking
taken_run s host total n =
    record {
      store = record { held = sets s.held s.taken (take n host); taken = s.taken + n };
      count = n;
      finished = leb total (s.taken + n);
    }

-- fewer bytes than a header: all are taken, and the message is not finished
taken_headless : (s : Store) (host : List ℕ) → s.taken + length host < 2
    → call_takes s host ≡ record { store = after s host; count = length host; finished = false }
unfolding taking
taken_headless s host h =
    runs (length host) 0 s host (le_refl _) (λ j l. rw pushed_all_lem (headless (after s (take j host)) (simp length-take (omega arith))))
    ∙ rw (take-length, drop-length, pushed_all_lem, headless (after s host) h, zero-add) refl

-- the total that the header announces, of which the host's bytes give what is left or all that they are
module _ (s : Store) (host : List ℕ) (total n : ℕ) (two : 2 ≤ s.taken + length host)
    (t : announced (sets s.held s.taken host) ≡ total) (e : n ≡ min (total - s.taken) (length host)) where
  part : (j : ℕ) → j ≤ n → length (take j host) ≡ j
  part j l = length-take-le j host (omega arith)

  announced_part : (j : ℕ) → j ≤ n → 2 ≤ s.taken + j → announced (after s (take j host)).held ≡ total
  announced_part j l h =
      let h' : 2 ≤ s.taken + length (take j host) = omega (arith, part j l) in
      ap announced_by (header_settled s host j h') ∙ t

  unfinished : (j : ℕ) → j < n → finished (after s (take j host)) ≡ false
  unfinished j l =
      elim (dec_lt (s.taken + j) 2) [
        | yes w ↦ headless (after s (take j host)) (omega (arith, part j (le_of_lt l)))
        | no w ↦ short_of (after s (take j host)) (omega (arith, part j (le_of_lt l), announced_part j (le_of_lt l) (omega arith)))
      ]

  least_total : 2 ≤ total
  least_total =
      let header = header_in (sets s.held s.taken host) in
      rw (← t) (total_least (type_in header) (length_in header))

  at_end_lem : finished (after s (take n host)) ≡ leb total (s.taken + n)
  at_end_lem =
      let h : 2 ≤ s.taken + n = omega (arith, least_total) in
      rw (part n (le_refl n), le-leb 2 (s.taken + n) h, announced_part n (le_refl n) h) refl

  no_further : taking n (after s (take n host)) (drop n host) ≡ stopped n (after s (take n host))
  unfolding taking
  no_further =
      elim (dec_lt n (length host)) [
        | yes w ↦ stops n (after s (take n host)) (drop n host) (at_end_lem ∙ le-leb total (s.taken + n) (omega arith))
        | no w ↦ let l : length host ≤ n = omega arith in rw (drop_of_length-le host l) refl
      ]

  taken_run_lem : call_takes s host ≡ taken_run s host total n
  taken_run_lem =
      runs n 0 s host (omega arith) (λ j l. rw pushed_all_lem (unfinished j l))
      ∙ rw (pushed_all_lem, zero-add, no_further, at_end_lem, part n (le_refl n)) refl

-- What a call takes, all at once: of the total that it can know beforehand what is left, or all that the host sends.
pub taken_ahead : (s : Store) (host : List ℕ) (total n : ℕ) → total ≡ total_ahead s.held s.taken host
    → n ≡ min (total - s.taken) (length host)
    → call_takes s host ≡ taken_run s host total n
taken_ahead s host total n t e =
    elim (dec_lt (s.taken + length host) 2) [
      | yes w ↦ bare w
      | no w ↦ let two : 2 ≤ s.taken + length host = omega arith in
          taken_run_lem s host total n two (sym (t ∙ ahead_known s.held host s.taken two)) e
    ]
  where
    bare : s.taken + length host < 2 → call_takes s host ≡ taken_run s host total n
    bare w =
        let two : total ≡ 2 = t ∙ ahead_bare s.held host s.taken w in
        let all : n ≡ length host = omega arith in
        taken_headless s host w ∙ rw (all, take-length, two, lt-leb 2 (s.taken + length host) w) refl
