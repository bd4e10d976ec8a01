-- What the first bytes of an input come to is what the whole comes to, however it came in pieces.
-- Assumes nothing.
use Prim.Native.Nat.{ℕ, ◌+◌, ◌≤◌}
use native.Mathlib.Omega.{arith}
use mathlib.Core.Path.{◌≡◌, sym, ap, ◌∙◌}
use mathlib.Core.Logic.{inl, inr}
use mathlib.Core.List.{List, ◌++◌, append-nil}
use lib.Dec.{eqb}
use lib.ListN.{length, take, drop, length-append}
use lib.Seq.{take-append-le, drop-append-le}
use borrow.Author.Tests.{eqb-true, eqb-false}
use Rattle.wire.specs.Codes.{others_write}
use Rattle.wire.specs.Lists.{joined}
use Rattle.wire.proofs.Laws.{by_test}
use Rattle.heads.specs.declared.Head.{Head}
use Rattle.heads.specs.Head.{head_length, head_length_in, version_in, head_in, head_read_code, head_bytes}
use Rattle.heads.specs.Moving.{moved_to, moving_code, moved_bytes}
use Rattle.heads.specs.Inside.{put_code}
use Rattle.heads.proofs.Codes.{moving_stops, moving_goes, most_long}
use Rattle.heads.proofs.Fronts.{same_version, same_head, same_code}
use Rattle.moves.specs.Moves.{moved_file, written_of, InPieces, HoweverItComes}

-- moving goes by the code of reading and by the head
by_reading : (v : ℕ) (s t : List ℕ) (room : ℕ) → head_read_code s ≡ head_read_code t → head_in s ≡ head_in t
    → moving_code v t room ≡ moving_code v s room
by_reading v s t room code head =
    by_test (eqb (head_read_code s) 1)
    (λ (e : eqb (head_read_code s) 1 ≡ _).
    let read = eqb-true (head_read_code s) 1 e in
    moving_goes v t room (sym code ∙ read) ∙ ap (λ (h : Head). put_code v h room) (sym head) ∙ sym (moving_goes v s room read))
    (λ (e : eqb (head_read_code s) 1 ≡ _).
    let not_read_lem = eqb-false (head_read_code s) 1 e in
    moving_stops v t room (λ r. not_read_lem (code ∙ r)) ∙ sym code ∙ sym (moving_stops v s room not_read_lem))

-- the first bytes hold their head
module _ (v : ℕ) (first more : List ℕ) (inside : head_length_in first ≤ length first) where
  abbrev n : ℕ
  n = head_length_in first

  alike : take n first ≡ take n (first ++ more)
  alike = sym (take-append-le n first more inside)

  head : head_in first ≡ head_in (first ++ more)
  head = same_head first (first ++ more) alike

  pub same_moving : (room : ℕ) → moving_code v (first ++ more) room ≡ moving_code v first room
  same_moving room =
      let reaches : n ≤ length (first ++ more) = omega (arith, inside, length-append first more) in
      by_reading v first (first ++ more) room (same_code first (first ++ more) alike inside reaches) head

  same_file : moved_file v (first ++ more) ≡ moved_bytes v first ++ (drop n first ++ more)
  same_file =
      let moved : moved_bytes v (first ++ more) ≡ moved_bytes v first = ap (λ (h : Head). head_bytes (moved_to v h)) (sym head) in
      let length_is : head_length_in (first ++ more) ≡ n = ap head_length (sym (same_version first (first ++ more) alike)) in
      rw (moved, length_is) (ap (λ (l : List ℕ). moved_bytes v first ++ l) (drop-append-le n first more inside))

  pub more_long : length (moved_file v (first ++ more)) ≡ length (moved_file v first) + length more
  more_long =
      let rest : List ℕ = drop n first in
      let all = length-append (moved_bytes v first) (rest ++ more) in
      omega (arith, ap length same_file, all, length-append rest more, length-append (moved_bytes v first) rest)

-- a head whatever its version is there where 26 bytes are
holds : (first : List ℕ) → 26 ≤ length first → head_length_in first ≤ length first
holds first enough = omega (arith, enough, most_long (version_in first))

-- by these two, what is written
in_pieces : (v : ℕ) (first : List ℕ) (pieces : List (List ℕ))
    → ((room : ℕ) → moving_code v (first ++ joined pieces) room ≡ moving_code v first room)
    → moved_file v (first ++ joined pieces) ≡ moved_bytes v first ++ (drop (head_length_in first) first ++ joined pieces)
    → InPieces v first pieces
in_pieces v first pieces code file =
    let refused : written_of v (first ++ joined pieces) ≡ others_write (moving_code v first 26) (moved_file v (first ++ joined pieces))
    = ap (λ (n : ℕ). others_write n (moved_file v (first ++ joined pieces))) (code 26) in
    record { code = code; file = file; output = refused ∙ ap (others_write (moving_code v first 26)) file }

pub however_it_comes : HoweverItComes
however_it_comes v first pieces (inl enough) =
    let inside = holds first enough in
    in_pieces v first pieces (same_moving v first (joined pieces) inside) (same_file v first (joined pieces) inside)
however_it_comes v first pieces (inr none) =
    let all : first ++ joined pieces ≡ first = rw none (append-nil first) in
    let rest : List ℕ = drop (head_length_in first) first in
    in_pieces v first pieces
    (λ room. ap (λ (l : List ℕ). moving_code v l room) all)
    (ap (moved_file v) all ∙ rw none (ap (λ (l : List ℕ). moved_bytes v first ++ l) (sym (append-nil rest))))
