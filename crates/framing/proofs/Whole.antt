-- What one call takes, told by its count, ten bytes from the message's first on and what is held after it.
-- Assumes nothing.
use Prim.Native.Nat.{ℕ, ◌+◌, ◌-◌, ◌≤◌, ◌<◌, min}
use mathlib.Core.Path.{◌≡◌, refl}
use mathlib.Core.Bool.{true, false}
use mathlib.Core.List.{List}
use native.Mathlib.Omega.{arith}
use borrow.Author.Tests.{le-leb, lt-leb, eq-eqb, ne_eqb}
use lib.ListN.{length, take, replicate}
use lib.Seq.{sets, take-length}
use Rattle.std.proofs.Common.{Some, None}
use Rattle.framing.specs.declared.Store.{Store}
use Rattle.framing.specs.Framing.{call_takes}
use Rattle.framing.specs.declared.Took as Made
use Rattle.framing.specs.Telling.{Took, first_ten, lying, took_says, took_in, held_after}
use Rattle.framing.specs.Inside.{total_ahead}
use Rattle.framing.proofs.Runs.{taken_run, taken_ahead}
use Rattle.framing.proofs.FirstTen.{joined_opening}

module _ (held host : List ℕ) (had : ℕ) where
  abbrev before : Store
  before = record { held = held; taken = had }

  abbrev Tells : Took → List ℕ → Type 0
  Tells r after = (r ≡ took_in before host) × (after ≡ held_after before host)

  -- no store: nothing is taken
  pub no_store : (length held ≡ 64 → ⊥) → Tells (record { opening = replicate 10 0; count = 0; taken = had; finished = false }) held
  no_store other = rw (ne_eqb (length held) 64 other) (refl, refl)

  module _ (total : ℕ) (long : length held ≡ 64) (is : total ≡ total_ahead held had host) where
    -- what the host sends does not finish the message: it is kept
    pub still_open : length host < total - had
        → Tells (record { opening = replicate 10 0; count = length host; taken = had + length host; finished = false }) (sets held had host)
    still_open less =
        let run : call_takes before host ≡ taken_run before host total (length host) =
        taken_ahead before host total (length host) is (omega arith) in
        rw (eq-eqb (length held) 64 long, run, lt-leb total (had + length host) (omega arith), take-length host) (refl, refl)

    -- it does: the message is read where it lies
    pub came_last : (ten : List ℕ) (count now : ℕ) → count ≡ total - had → now ≡ had + count → count ≤ length host
        → ten ≡ first_ten (lying before host)
        → Tells (record { opening = ten; count = count; taken = now; finished = true }) held
    came_last ten count now left end sent e =
        let run : call_takes before host ≡ taken_run before host total count = taken_ahead before host total count is (omega arith) in
        rw (eq-eqb (length held) 64 long, run, le-leb total (had + count) (omega arith), e, end) (refl, refl)

-- what the code's own says, by whether it has ten bytes
module _ (r : Made.Took) where
  pub says_open : r.opening ≡ None → took_says r ≡ record { opening = replicate 10 0; count = r.count; taken = r.taken; finished = false }
  says_open e = rw e

  pub says_ended : (ten : List ℕ) → r.opening ≡ Some ten
      → took_says r ≡ record { opening = ten; count = r.count; taken = r.taken; finished = true }
  says_ended ten e = rw e

-- up to what was taken, the message reads as it lies
pub lying_read : (s : Store) (host : List ℕ) → 10 ≤ length s.held
    → (let t = (call_takes s host).store in first_ten (take t.taken (lying s host)) ≡ first_ten (take t.taken t.held))
lying_read s host long =
    let total = total_ahead s.held s.taken host in
    let count = min (total - s.taken) (length host) in
    rw (taken_ahead s host total count refl refl) (joined_opening s.held host s.taken count long (omega arith))
