-- What a call tells of the bytes that it took: in the store's place, the ten bytes from the beginning of a message that they finished.
-- Nothing of document 01 rests on it; that these bytes decide what the message does, whatever lies behind its end, are
-- `ten_decide` (items/proofs/TenBytes) and `behind_nothing` (items/proofs/Behind).
use Rattle.std.specs.Prelude.{ℕ, Bool, false, not, ◌&&◌, List, ◌++◌, eqb, length, take, replicate, is_some, unwrap_or}
use Rattle.wire.specs.Choice.{pick}
use Rattle.framing.specs.declared.Store.{Store}
use Rattle.framing.specs.declared.Took as Made
use Rattle.framing.specs.Framing.{Taking, call_takes}

-- The first ten of some bytes, zero past their end.
unfoldable pub first_ten : List ℕ → List ℕ
first_ten bytes = take 10 (bytes ++ replicate 10 0)

-- from a message's first byte on: what is held of it, and the host's bytes
abbrev pub lying : Store → List ℕ → List ℕ
lying s host = take s.taken s.held ++ host

-- What a call took: how many bytes, how many of the message are taken with them, whether they finished it, and ten bytes from its beginning.
pub record Took : Type 0 where
  pub opening : List ℕ
  pub count : ℕ
  pub taken : ℕ
  pub finished : Bool

-- as the code has it: no ten bytes of a message that is not finished
abbrev pub took_says : Made.Took → Took
took_says t =
    record {
      opening = unwrap_or t.opening (replicate 10 0);
      count = t.count;
      taken = t.taken;
      finished = is_some t.opening;
    }

-- What a call says of it: in the store's place, ten bytes from the beginning of a finished message as they lie, and zeros for one that
-- is not finished.
abbrev pub took_of : Taking → List ℕ → Took
took_of t ten =
    record {
      opening = pick t.finished ten (replicate 10 0);
      count = t.count;
      taken = t.store.taken;
      finished = t.finished;
    }

-- Bytes held in another number of places than 64 are no store, and nothing is taken.
abbrev pub took_in : Store → List ℕ → Took
took_in s host =
    pick (eqb (length s.held) 64) (took_of (call_takes s host) (first_ten (lying s host)))
    (record { opening = replicate 10 0; count = 0; taken = s.taken; finished = false })

-- What is held after a call: more only of a message that it did not finish.
abbrev pub held_after : Store → List ℕ → List ℕ
held_after s host =
    pick (eqb (length s.held) 64 && not (call_takes s host).finished) (call_takes s host).store.held s.held
