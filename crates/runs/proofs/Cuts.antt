-- A run of cutting: what is left to cut gives the whole.
use Prim.Native.Nat.{ℕ, zero, suc, ◌+◌, ◌-◌, ◌*◌, ◌/◌, ◌≤◌, ◌<◌, min}
use mathlib.Core.Path.{◌≡◌, refl, sym, ◌∙◌}
use mathlib.Core.Bool.{true, false}
use mathlib.Core.List.{List, []}
use native.Mathlib.Nat.{lt_irrefl, div-mul-le_self, div-le_self, mul-le-mul_right}
use native.Mathlib.Omega.{arith}
use borrow.Author.Tests.{eq-eqb, ne_eqb}
use lib.Dec.{eqb}
use lib.IntN.{ℤ}
use lib.ListN.{length, take, drop}
use lib.Seq.{sets, length-sets, drop-drop}
use Rattle.station.specs.declared.Station.{Station}
use Rattle.cutting.specs.Cutting.{Cut}
use Rattle.cutting.specs.Cutting.{Cutting, cutting_of}
use Rattle.cutting.proofs.Ways.{each_cut}
use Rattle.runs.specs.Cutting.{ran, cut_on, cut_run}
use Rattle.runs.proofs.Turns.{one_more}

cut_over_lem : (left n total count at : ℕ) (s : Station) (samples : List ℤ) (out : List ℕ) → left ≤ 0
    → cut_on left n total s samples count at out ≡ ran count out
unfolding cut_on
cut_over_lem zero n total count at s samples out none = refl
cut_over_lem (suc left) n total count at s samples out none = absurd (omega arith)

cut_refused : (left n total count at : ℕ) (s : Station) (samples : List ℤ) (out : List ℕ) (c : Cutting) → 0 < left
    → c ≡ cutting_of s (take n samples) (length out - at) → (c.cut.code ≡ 1 → ⊥)
    → cut_on left n total s samples count at out ≡ ran count out
unfolding cut_on
cut_refused zero n total count at s samples out c none is bad = absurd (lt_irrefl 0 none)
cut_refused (suc left) n total count at s samples out c some is bad =
    let refused : eqb (cutting_of s (take n samples) (length out - at)).cut.code 1 ≡ false = rw (← is) (ne_eqb c.cut.code 1 bad) in
    rw refused

cut_one : (left n total count at : ℕ) (s : Station) (samples : List ℤ) (out : List ℕ) (c : Cutting) → 0 < left
    → c ≡ cutting_of s (take n samples) (length out - at) → c.cut.code ≡ 1
    → cut_on left n total s samples count at out
    ≡ cut_on (left - 1) n total c.cut.station (drop n samples) (count + 1) (at + total) (sets out at c.bytes)
unfolding cut_on
cut_one zero n total count at s samples out c none is good = absurd (lt_irrefl 0 none)
cut_one (suc left) n total count at s samples out c some is good =
    let cut : eqb (cutting_of s (take n samples) (length out - at)).cut.code 1 ≡ true = rw (← is) (eq-eqb c.cut.code 1 good) in
    let down : suc left - 1 ≡ left = omega arith in
    rw (down, is, cut)

-- a refused packet writes nothing
pub none_cut : (s : Station) (samples : List ℤ) (room : ℕ) → ((cutting_of s samples room).cut.code ≡ 1 → ⊥)
    → (cutting_of s samples room).bytes ≡ []
none_cut s samples room =
    each_cut (λ (c : Cutting). (c.cut.code ≡ 1 → ⊥) → c.bytes ≡ []) s samples room (λ e bad. absurd (bad refl)) (λ n bad. refl)

pub record Under (box : Station) (n total : ℕ) (samples : List ℤ) (whole out : List ℕ) (s : Station) (left count i at : ℕ) : Type 0 where
  pub sampled : i + left * n ≤ length samples
  pub roomy : at + left * total ≤ length out
  pub counted : count + left ≤ length out
  pub long : length out ≡ length whole
  pub does : cut_on left n total s (drop i samples) count at out ≡ cut_run box n total samples whole

module _ (box : Station) (n total : ℕ) (samples : List ℤ) (whole : List ℕ) where
  -- no samples to a packet, or no bytes
  pub no_samples : n ≡ 0 → ran 0 whole ≡ cut_run box n total samples whole
  unfolding cut_run
  no_samples none = rw (eq-eqb n 0 none)

  pub no_bytes : (n ≡ 0 → ⊥) → total ≡ 0 → ran 0 whole ≡ cut_run box n total samples whole
  unfolding cut_run
  no_bytes some none = rw (ne_eqb n 0 some, eq-eqb total 0 none)

-- a run in its midst
module _ {box : Station} {n total : ℕ} {samples : List ℤ} {whole : List ℕ} where
  pub begins : (s : Station) (left : ℕ) → (n ≡ 0 → ⊥) → (total ≡ 0 → ⊥) → s ≡ box
      → left ≡ min (length samples / n) (length whole / total)
      → Under box n total samples whole whole s left 0 0 0
  unfolding cut_run
  begins s left some more is most =
      let fewer : left ≤ length samples / n = omega arith in
      let lesser : left ≤ length whole / total = omega arith in
      record {
        sampled = omega (arith, mul-le-mul_right n fewer, div-mul-le_self (length samples) n);
        roomy = omega (arith, mul-le-mul_right total lesser, div-mul-le_self (length whole) total);
        counted = omega (arith, div-le_self (length whole) total);
        long = refl;
        does = rw (is, most, ne_eqb n 0 some, ne_eqb total 0 more);
      }

  module _ {out : List ℕ} {s : Station} {left count i at : ℕ} (u : Under box n total samples whole out s left count i at) where
    -- nothing is left
    pub over : left ≤ 0 → ran count out ≡ cut_run box n total samples whole
    over none = sym (cut_over_lem left n total count at s (drop i samples) out none) ∙ u.does

    module _ (c : Cutting) (some : 0 < left) (is : c ≡ cutting_of s (take n (drop i samples)) (length out - at)) where
      -- the packet is refused
      pub refused : (c.cut.code ≡ 1 → ⊥) → ran count out ≡ cut_run box n total samples whole
      refused bad = sym (cut_refused left n total count at s (drop i samples) out c some is bad) ∙ u.does

      -- the packet is cut, and the rest behind it
      pub turns : (after : List ℕ) (r : Cut) → r ≡ c.cut → r.code ≡ 1 → after ≡ sets out at c.bytes
          → Under box n total samples whole after r.station (left - 1) (count + 1) (i + n) (at + total)
      turns after r told good stored =
          let same : length after ≡ length out = rw (stored, length-sets out at c.bytes) in
          record {
            sampled = omega (arith, u.sampled, one_more left n some);
            roomy = omega (arith, same, u.roomy, one_more left total some);
            counted = omega (arith, same, u.counted);
            long = same ∙ u.long;
            does = rw (told, ← drop-drop n i samples, stored)
                (sym (cut_one left n total count at s (drop i samples) out c some is (rw told at good)) ∙ u.does);
          }
