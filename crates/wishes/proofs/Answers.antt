-- What a call of the writer answers, by the first check that holds; and that its answer says all.
use Prim.Native.Nat.{ℕ, ◌≤◌, ◌<◌}
use mathlib.Core.Path.{◌≡◌, sym, ap}
use mathlib.Core.Bool.{true, false}
use borrow.Author.Tests.{lt-ltb, le-ltb}
use Rattle.std.specs.Prelude.{Result, Ok, Err}
use Rattle.wire.specs.declared.refusal.Refusal.{Refusal}
use Rattle.wire.proofs.Refusals.{number_one, done_no_refusal}
use Rattle.wishes.specs.declared.Wish.{Wish}
use Rattle.wishes.specs.Wishes.{open_wish, allowed_wish}
use Rattle.wishes.specs.Writing.{Writing, written_says, wish_code}

module _ (w : Wish) (room : ℕ) where
  pub code_closed : open_wish w ≡ false → wish_code w room ≡ 15
  unfolding wish_code
  code_closed o = rw o

  pub code_not_allowed : open_wish w ≡ true → allowed_wish w ≡ false → wish_code w room ≡ 16
  unfolding wish_code
  code_not_allowed o e = rw (o, e)

  pub code_no_room : open_wish w ≡ true → allowed_wish w ≡ true → room < 16 → wish_code w room ≡ 20
  unfolding wish_code
  code_no_room o e h = rw (o, e, lt-ltb room 16 h)

  pub code_written : open_wish w ≡ true → allowed_wish w ≡ true → 16 ≤ room → wish_code w room ≡ 1
  unfolding wish_code
  code_written o e h = rw (o, e, le-ltb room 16 h)

-- two answers that tell the same are the same
pub written_one : (a b : Result ℕ Refusal) → written_says a ≡ written_says b → a ≡ b
written_one (Ok n) (Ok m) e = ap Ok (ap (λ (t : Writing). t.wrote) e)
written_one (Ok n) (Err r) e = done_no_refusal r (ap (λ (t : Writing). t.code) e)
written_one (Err r) (Ok m) e = done_no_refusal r (sym (ap (λ (t : Writing). t.code) e))
written_one (Err r) (Err q) e = ap Err (number_one r q (ap (λ (t : Writing). t.code) e))
