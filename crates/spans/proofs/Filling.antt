-- A head as it comes: how many bytes it has, and that it is filled alike however its bytes are cut.
use Prim.Native.Nat.{ℕ, ◌+◌, ◌-◌, ◌≤◌, ◌<◌}
use mathlib.Core.Path.{◌≡◌, refl, sym, ap, ◌∙◌}
use mathlib.Core.Bool.{false}
use mathlib.Core.List.{List, ◌++◌}
use native.Mathlib.Decide.{dec_lt}
use native.Mathlib.Omega.{arith}
use lib.Dec.{ltb}
use lib.ListN.{length, take, drop, length-append, take-append-drop}
use lib.Seq.{sets, take-append-le, drop-append-le, take-append-add, drop-append-add, take_all, length-take-le}
use borrow.Author.Tests.{lt-ltb, le-ltb}
use Rattle.wire.specs.Number.{field}
use Rattle.wire.proofs.Laws.{pick_keeps}
use Rattle.wire.proofs.Numbers.{field_front}
use Rattle.wire.proofs.Stores.{sets_append, take_sets}
use Rattle.heads.specs.Head.{head_length, head_length_in, version_in}
use Rattle.heads.proofs.Codes.{least_long, most_long}
use Rattle.spans.specs.declared.Span.{Span}
use Rattle.spans.specs.Eating.{head_wants, lacking, head_filled, head_wants_by, head_taken}

-- ---- how many bytes it has

abbrev pub wants_of : Span → ℕ
wants_of s = head_wants s.came s.head

pub wants_few : (came : ℕ) (head : List ℕ) → came < 14 → head_wants came head ≡ 14
unfolding head_wants
wants_few came head h = rw (lt-ltb came 14 h)

pub wants_many : (came : ℕ) (head : List ℕ) → 14 ≤ came → head_wants came head ≡ head_length_in head
unfolding head_wants
wants_many came head h = rw (le-ltb came 14 h)

pub wants_least : (came : ℕ) (head : List ℕ) → 14 ≤ head_wants came head
unfolding head_wants
wants_least came head =
    pick_keeps (λ n. 14 ≤ n) (ltb came 14) 14 (head_length_in head) (λ e. omega arith) (λ e. least_long (version_in head))

pub wants_most : (came : ℕ) (head : List ℕ) → head_wants came head ≤ 26
unfolding head_wants
wants_most came head =
    pick_keeps (λ n. n ≤ 26) (ltb came 14) 14 (head_length_in head) (λ e. omega arith) (λ e. most_long (version_in head))

-- bytes behind the first 14 leave it as it is
wants_kept : (came later : ℕ) (head vs : List ℕ) → 14 ≤ came → came ≤ later → head_wants later (sets head came vs) ≡ head_wants came head
wants_kept came later head vs some on =
    let front = take_sets 14 head came vs some in
    let version : version_in (sets head came vs) ≡ version_in head
    = sym (field_front 3 2 14 (sets head came vs) (omega arith)) ∙ ap (field 3 2) front ∙ field_front 3 2 14 head (omega arith) in
    wants_many later (sets head came vs) (omega arith) ∙ ap head_length version ∙ sym (wants_many came head some)

-- ---- a head of so many bytes, filled

abbrev with : Span → ℕ → List ℕ → Span
with s came head = record { stopped = false; came = came; head = head; tally = s.tally }

module _ (all : ℕ) (s : Span) (p q : List ℕ) where
  -- the first piece does not go past it
  module _ (short : s.came + length p ≤ all) where
    pub takes_all : lacking all s p ≡ length p
    takes_all = omega arith

    abbrev next : Span
    next = head_filled all s p

    split : lacking all s (p ++ q) ≡ length p + lacking all next q
    split = omega (arith, length-append p q, takes_all)

    pub fill_then : head_filled all s (p ++ q) ≡ head_filled all next q
    fill_then =
        let more : ℕ = lacking all next q in
        let count : s.came + lacking all s (p ++ q) ≡ next.came + more = omega (arith, split, takes_all) in
        let first : take (lacking all s p) p ≡ p = take_all (lacking all s p) p (omega (arith, takes_all)) in
        let both : take (lacking all s (p ++ q)) (p ++ q) ≡ p ++ take more q
        = ap (λ (k : ℕ). take k (p ++ q)) split ∙ take-append-add p q more in
        let head : sets s.head s.came (take (lacking all s (p ++ q)) (p ++ q)) ≡ sets next.head next.came (take more q)
        = ap (sets s.head s.came) both
        ∙ sym (sets_append s.head s.came p (take more q))
        ∙ ap (λ (l : List ℕ). sets (sets s.head s.came l) (s.came + length p) (take more q)) (sym first)
        ∙ ap (λ (k : ℕ). sets next.head (s.came + k) (take more q)) (sym takes_all) in
        ap (λ (k : ℕ). with s k (sets s.head s.came (take (lacking all s (p ++ q)) (p ++ q)))) count
        ∙ ap (with s (next.came + more)) head

    pub left_then : drop (lacking all s (p ++ q)) (p ++ q) ≡ drop (lacking all next q) q
    left_then = ap (λ (k : ℕ). drop k (p ++ q)) split ∙ drop-append-add p q (lacking all next q)

  -- it reaches to its end
  module _ (long : all ≤ s.came + length p) where
    same_count : lacking all s (p ++ q) ≡ lacking all s p
    same_count = omega (arith, length-append p q)

    pub fill_same : head_filled all s (p ++ q) ≡ head_filled all s p
    fill_same =
        let part : take (lacking all s (p ++ q)) (p ++ q) ≡ take (lacking all s p) p
        = ap (λ (k : ℕ). take k (p ++ q)) same_count ∙ take-append-le (lacking all s p) p q (omega arith) in
        ap (λ (k : ℕ). with s (s.came + k) (sets s.head s.came (take (lacking all s (p ++ q)) (p ++ q)))) same_count
        ∙ ap (λ (l : List ℕ). with s (s.came + lacking all s p) (sets s.head s.came l)) part

    pub left_same : drop (lacking all s (p ++ q)) (p ++ q) ≡ drop (lacking all s p) p ++ q
    left_same = ap (λ (k : ℕ). drop k (p ++ q)) same_count ∙ drop-append-le (lacking all s p) p q (omega arith)

-- a piece that goes past neither of two lengths fills both alike
fill_alike : (a b : ℕ) (s : Span) (p : List ℕ) → s.came + length p ≤ a → s.came + length p ≤ b → head_filled a s p ≡ head_filled b s p
fill_alike a b s p inside within =
    let same : lacking a s p ≡ lacking b s p = omega arith in
    ap (λ (k : ℕ). with s (s.came + k) (sets s.head s.came (take k p))) same

-- ---- the version looked up

pub by_least : (s : Span) (p : List ℕ) → 14 ≤ head_wants_by s p
unfolding head_wants_by
by_least s p = wants_least (head_filled 26 s p).came (head_filled 26 s p).head

pub by_most : (s : Span) (p : List ℕ) → head_wants_by s p ≤ 26
unfolding head_wants_by
by_most s p = wants_most (head_filled 26 s p).came (head_filled 26 s p).head

pub by_is : (s : Span) (p : List ℕ) → head_wants_by s p ≡ wants_of (head_filled 26 s p)
unfolding head_wants_by
by_is s p = refl

-- where 14 bytes are there, those to come do not change it
by_kept : (s : Span) (p q : List ℕ) → 14 ≤ s.came + length p → head_wants_by s (p ++ q) ≡ head_wants_by s p
by_kept s p q some =
    elim (dec_lt 26 (s.came + length p)) [ yes past ↦ over (omega arith) | no past ↦ inside (omega arith) ]
  where
    over : 26 ≤ s.came + length p → head_wants_by s (p ++ q) ≡ head_wants_by s p
    over past = by_is s (p ++ q) ∙ ap wants_of (fill_same 26 s p q past) ∙ sym (by_is s p)

    inside : s.came + length p ≤ 26 → head_wants_by s (p ++ q) ≡ head_wants_by s p
    inside short =
        let x : Span = head_filled 26 s p in
        let reached : x.came ≡ s.came + length p = omega (arith, takes_all 26 s p q short) in
        let some' : 14 ≤ x.came = omega (arith, reached) in
        let kept = wants_kept x.came (head_filled 26 x q).came x.head (take (lacking 26 x q) q) some' (omega arith) in
        by_is s (p ++ q) ∙ ap wants_of (fill_then 26 s p q short) ∙ kept ∙ sym (by_is s p)

-- a head that lacks bytes lacks them still
pub by_above : (s : Span) (p : List ℕ) → s.came < wants_of s → s.came < head_wants_by s p
by_above s p few = elim (dec_lt s.came 14) [ yes h ↦ omega (arith, by_least s p) | no h ↦ known (omega arith) ]
  where
    known : 14 ≤ s.came → s.came < head_wants_by s p
    known some =
        let kept = wants_kept s.came (head_filled 26 s p).came s.head (take (lacking 26 s p) p) some (omega arith) in
        omega (arith, by_is s p, kept, few)

-- ---- a head in two pieces

module _ (s : Span) (p q : List ℕ) where
  abbrev w : ℕ
  w = head_wants_by s p

  abbrev after : Span
  after = head_taken s p

  -- the first ends before the head does
  module _ (early : s.came + length p < w) where
    as_longest : after ≡ head_filled 26 s p
    as_longest = fill_alike w 26 s p (omega arith) (omega (arith, by_most s p))

    pub early_all : lacking w s p ≡ length p
    early_all = takes_all w s p q (omega arith)

    early_same : head_wants_by s (p ++ q) ≡ head_wants_by after q
    early_same =
        by_is s (p ++ q)
        ∙ ap wants_of (fill_then 26 s p q (omega (arith, by_most s p)))
        ∙ sym (by_is (head_filled 26 s p) q)
        ∙ ap (λ (x : Span). head_wants_by x q) (sym as_longest)

    early_inside : s.came + length p ≤ head_wants_by s (p ++ q)
    early_inside =
        elim (dec_lt (s.came + length p) 14)
        [ yes h ↦ omega (arith, by_least s (p ++ q)) | no h ↦ omega (arith, by_kept s p q (omega arith)) ]

    -- it is still coming
    pub early_lacks : after.came < wants_of after
    early_lacks = omega (arith, early_all, ap wants_of as_longest, by_is s p)

    both_fill : head_filled (head_wants_by s (p ++ q)) s p ≡ after
    both_fill = fill_alike (head_wants_by s (p ++ q)) w s p early_inside (omega arith)

    pub early_taken : head_taken s (p ++ q) ≡ head_taken after q
    early_taken =
        fill_then (head_wants_by s (p ++ q)) s p q early_inside
        ∙ ap (λ (x : Span). head_filled (head_wants_by s (p ++ q)) x q) both_fill
        ∙ ap (λ (n : ℕ). head_filled n after q) early_same

    pub early_left : drop (lacking (head_wants_by s (p ++ q)) s (p ++ q)) (p ++ q) ≡ drop (lacking (head_wants_by after q) after q) q
    early_left =
        left_then (head_wants_by s (p ++ q)) s p q early_inside
        ∙ ap (λ (x : Span). drop (lacking (head_wants_by s (p ++ q)) x q) q) both_fill
        ∙ ap (λ (n : ℕ). drop (lacking n after q) q) early_same

  -- the head ends within the first
  module _ (late : w ≤ s.came + length p) where
    late_same : head_wants_by s (p ++ q) ≡ w
    late_same = by_kept s p q (omega (arith, by_least s p))

    pub late_taken : head_taken s (p ++ q) ≡ after
    late_taken = ap (λ (n : ℕ). head_filled n s (p ++ q)) late_same ∙ fill_same w s p q late

    pub late_left : drop (lacking (head_wants_by s (p ++ q)) s (p ++ q)) (p ++ q) ≡ drop (lacking w s p) p ++ q
    late_left = ap (λ (n : ℕ). drop (lacking n s (p ++ q)) (p ++ q)) late_same ∙ left_same w s p q late

-- and is whole then
module _ (s : Span) (p : List ℕ) (few : s.came < wants_of s) (late : head_wants_by s p ≤ s.came + length p) where
  abbrev all : ℕ
  all = head_wants_by s p

  abbrev n : ℕ
  n = all - s.came

  -- the head's own bytes of the piece
  abbrev own : List ℕ
  own = take n p

  long_own : length own ≡ n
  long_own = length-take-le n p (omega arith)

  reaches : s.came + length own ≡ all
  reaches = omega (arith, long_own, by_above s p few)

  pub late_came : (head_taken s p).came ≡ all
  late_came = omega (arith, by_above s p few)

  pub late_whole : wants_of (head_taken s p) ≡ (head_taken s p).came
  late_whole =
      let parts : own ++ drop n p ≡ p = take-append-drop n p in
      let first : head_filled all s p ≡ head_filled 26 s own
      = ap (head_filled all s) (sym parts)
      ∙ fill_same all s own (drop n p) (omega (arith, reaches))
      ∙ fill_alike all 26 s own (omega (arith, reaches)) (omega (arith, reaches, by_most s p)) in
      ap wants_of first
      ∙ sym (by_is s own)
      ∙ sym (by_kept s own (drop n p) (omega (arith, reaches, by_least s p)))
      ∙ ap (head_wants_by s) parts
      ∙ sym late_came
