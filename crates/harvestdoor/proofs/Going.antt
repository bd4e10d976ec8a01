-- A reader's bytes in which only position, total and flag are stored are those of the reader that has gone on.
use Prim.Native.Nat.{ℕ, zero, suc, ◌/◌, ◌%◌, ◌<◌}
use mathlib.Core.Path.{◌≡◌, refl, sym, ap, ◌∙◌}
use mathlib.Core.Bool.{Bool, true, false}
use mathlib.Core.List.{List, ◌++◌}
use native.Mathlib.Omega.{arith}
use native.Mathlib.Decide.{dec_lt}
use lib.Dec.{eqb}
use lib.ListN.{length, get_or, set}
use lib.Seq.{sets, set-get_or}
use borrow.Author.Tests.{eqb-false}
use Rattle.wire.specs.Choice.{pick}
use Rattle.wire.specs.Number.{bytes, field}
use Rattle.wire.proofs.Numbers.{field_step}
use Rattle.wire.proofs.Stores.{sets_out, sets_whole}
use Rattle.reader.specs.Answers.{Heard}
use Rattle.reader.specs.Reading.{reading_of}
use Rattle.reader.proofs.Going.{gone_on, gone_on_lem}
use Rattle.harvestdoor.specs.States.{reader_in, reader_bytes}
use Rattle.harvestdoor.specs.Inside.{next_bytes, heard_bytes}

-- bytes
abbrev Small : List ℕ → Type 0
Small l = (k : ℕ) → get_or l k 0 < 256

-- a number that is stored where it was read changes nothing
put_back : (n at : ℕ) (l : List ℕ) → Small l → sets l at (bytes n (field at n l)) ≡ l
put_back zero at l small = refl
put_back (suc n) at l small =
    elim (dec_lt at (length l)) [
      | yes there ↦
          let step = field_step l at n there in
          let low : field at (suc n) l % 256 ≡ get_or l at 0 = omega (arith, step, small at) in
          let rest : field at (suc n) l / 256 ≡ field (suc at) n l = omega (arith, step, small at) in
          ap (λ (b : ℕ). sets (set l at b) (suc at) (bytes n (field at (suc n) l / 256))) low
          ∙ ap (λ (m : List ℕ). sets m (suc at) (bytes n (field at (suc n) l / 256))) (set-get_or l at 0)
          ∙ ap (λ (v : ℕ). sets l (suc at) (bytes n v)) rest
          ∙ put_back n (suc at) l small
      | no past ↦ sets_out l at (bytes (suc n) (field at (suc n) l)) (omega (arith, past))
    ]

-- six numbers as they lie in a reader's bytes
abbrev laid : ℕ → ℕ → ℕ → ℕ → ℕ → ℕ → List ℕ
laid position bits pairs total heard channels =
    bytes 8 position ++ bytes 8 bits ++ bytes 8 pairs ++ bytes 8 total ++ bytes 1 heard ++ bytes 1 channels

module _ (l : List ℕ) (long : length l ≡ 34) (small : Small l) where
  back : (at n : ℕ) → sets l at (bytes n (field at n l)) ≡ l
  back at n = put_back n at l small

  stored : sets l 0 (laid (field 0 8 l) (field 8 8 l) (field 16 8 l) (field 24 8 l) (field 32 1 l) (field 33 1 l)) ≡ l
  stored =
      let first = ap (λ (m : List ℕ).
      sets (sets (sets (sets (sets m 8 (bytes 8 (field 8 8 l))) 16 (bytes 8 (field 16 8 l))) 24 (bytes 8 (field 24 8 l)))
      32 (bytes 1 (field 32 1 l))) 33 (bytes 1 (field 33 1 l))) (back 0 8) in
      let second = ap (λ (m : List ℕ).
      sets (sets (sets (sets m 16 (bytes 8 (field 16 8 l))) 24 (bytes 8 (field 24 8 l)))
      32 (bytes 1 (field 32 1 l))) 33 (bytes 1 (field 33 1 l))) (back 8 8) in
      let third = ap (λ (m : List ℕ).
      sets (sets (sets m 24 (bytes 8 (field 24 8 l))) 32 (bytes 1 (field 32 1 l))) 33 (bytes 1 (field 33 1 l))) (back 16 8) in
      let fourth = ap (λ (m : List ℕ). sets (sets m 32 (bytes 1 (field 32 1 l))) 33 (bytes 1 (field 33 1 l))) (back 24 8) in
      let fifth = ap (λ (m : List ℕ). sets m 33 (bytes 1 (field 33 1 l))) (back 32 1) in
      first ∙ second ∙ third ∙ fourth ∙ fifth ∙ back 33 1

  own : l ≡ laid (field 0 8 l) (field 8 8 l) (field 16 8 l) (field 24 8 l) (field 32 1 l) (field 33 1 l)
  own = sym stored ∙ sets_whole l (laid (field 0 8 l) (field 8 8 l) (field 16 8 l) (field 24 8 l) (field 32 1 l) (field 33 1 l)) (sym long)

  told : field 33 1 l ≡ (reader_in l).channels
  unfolding reader_in
  told = omega (arith, field_step l 33 0 (omega arith))

  next_stored : (position total : ℕ) → next_bytes position total l ≡ reader_bytes (gone_on (reader_in l) position total)
  unfolding next_bytes reader_bytes reader_in
  next_stored position total = ap (next_bytes position total) own ∙ ap (λ (n : ℕ). laid position (field 8 8 l) (field 16 8 l) total 1 n) told

  -- what is stored after a packet was heard is the reader after it
  pub heard_stored : (packet : List ℕ) (h : Heard) → h ≡ reading_of (reader_in l) packet → heard_bytes h l ≡ reader_bytes h.reader
  heard_stored packet h is = by_position (eqb h.position 0) refl
    where
      by_position : (t : Bool) → eqb h.position 0 ≡ t
          → pick t (reader_bytes h.reader) (next_bytes h.position h.total l) ≡ reader_bytes h.reader
      by_position true starts = refl
      by_position false goes =
          let moved : (reading_of (reader_in l) packet).position ≡ 0 → ⊥
          = λ z. eqb-false h.position 0 goes (ap (λ (g : Heard). g.position) is ∙ z) in
          next_stored h.position h.total
          ∙ ap reader_bytes (rw is (sym (gone_on_lem (reader_in l) packet moved)))
