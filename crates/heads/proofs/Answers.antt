-- What writing, reading and moving a head answer says all: two answers that tell the same are the same.
use Rattle.std.proofs.Common.{ℕ, ◌≡◌, refl, sym, ap, List, [], ◌∷◌, Result, Ok, Err}
use Rattle.wire.specs.Refusal.{code_of}
use Rattle.wire.specs.declared.refusal.Refusal.{Refusal}
use Rattle.wire.proofs.Firm.{two_results_coincide}
use Rattle.wire.proofs.Refusals.{number_one, done_no_refusal}
use Rattle.heads.specs.declared.Head.{Head}
use Rattle.heads.specs.Moving.{moving_code}
use Rattle.heads.specs.Head.{head_write_code, HeadReading, opened_says, head_reading_of}

-- ---- writing: the number decides the case

pub written_one : (v w : Result (Unit {0}) Refusal) → code_of v ≡ code_of w → v ≡ w
written_one (Ok a) (Ok b) e = refl
written_one (Ok a) (Err r) e = done_no_refusal r e
written_one (Err r) (Ok b) e = done_no_refusal r (sym e)
written_one (Err r) (Err q) e = ap Err (number_one r q e)

-- so the promise of writing allows one answer
pub write_one : (h : Head) (room : ℕ) {v w : Result (Unit {0}) Refusal} → code_of v ≡ head_write_code h room
    → code_of w ≡ head_write_code h room → v ≡ w
write_one h room p q = two_results_coincide code_of written_one (head_write_code h room) p q

-- ---- reading: the number and the head decide the case

pub opened_one : (o p : Result Head Refusal) → opened_says o ≡ opened_says p → o ≡ p
opened_one (Ok h) (Ok k) e = ap Ok (the_head h k (ap (λ (r : HeadReading). r.heads) e))
  where
    the_head : (h k : Head) → ◌≡◌ {A = List Head} (h ∷ []) (k ∷ []) → h ≡ k
    the_head h k e = cc
opened_one (Ok h) (Err r) e = done_no_refusal r (ap (λ (x : HeadReading). x.code) e)
opened_one (Err r) (Ok k) e = done_no_refusal r (sym (ap (λ (x : HeadReading). x.code) e))
opened_one (Err r) (Err q) e = ap Err (number_one r q (ap (λ (x : HeadReading). x.code) e))

-- and so does that of reading
pub read_one : (s : List ℕ) {o p : Result Head Refusal} → opened_says o ≡ head_reading_of s → opened_says p ≡ head_reading_of s → o ≡ p
read_one s p q = two_results_coincide opened_says opened_one (head_reading_of s) p q

-- ---- moving: the number decides the case, as it does of writing

pub moved_one : (m n : Result (Unit {0}) Refusal) → code_of m ≡ code_of n → m ≡ n
moved_one = written_one

-- and so does that of moving
pub move_one : (v : ℕ) (s : List ℕ) (room : ℕ) {m n : Result (Unit {0}) Refusal} → code_of m ≡ moving_code v s room
    → code_of n ≡ moving_code v s room → m ≡ n
move_one v s room p q = two_results_coincide code_of moved_one (moving_code v s room) p q
