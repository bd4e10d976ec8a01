-- The first ten bytes of a message: of one that is held they are the first ten held, since unused places are zero.
-- Assumes nothing.
use Prim.Native.Nat.{ℕ, zero, suc, ◌+◌, ◌*◌, ◌-◌, ◌/◌, ◌%◌, ◌≤◌, ◌<◌, min}
use mathlib.Core.Path.{◌≡◌, refl, sym, ap, ◌∙◌}
use mathlib.Core.Bool.{true}
use mathlib.Core.List.{List, [], ◌∷◌, ◌++◌}
use native.Mathlib.Decide.{dec_lt}
use native.Mathlib.Nat.{add-zero, add-suc, suc-add, le_refl}
use native.Mathlib.Omega.{arith}
use borrow.Author.Tests.{eqb-true}
use lib.Dec.{eqb}
use lib.ListN.{length, get_or, set, take, drop, drop_of_length-le, length-set, replicate}
use lib.ListN.{length-append, length-take, length-replicate, get_or-replicate}
use lib.ListN.{get_or-eq_default as get_or_past, get_or-append}
use lib.Seq.{sets, get_or-take, get_or-drop, get_or-set_same, get_or-append-add, take-append-le, take_all, length-take-le, ext_get_or}
use Rattle.wire.specs.Number.{number, bytes, field}
use Rattle.wire.proofs.Laws.{and_left, and_right}
use Rattle.wire.proofs.Numbers.{field_step}
use Rattle.wire.proofs.Stores.{take_sets}
use Rattle.framing.specs.Framing.{zeros}
use Rattle.framing.specs.Telling.{first_ten}

-- one after the other
pub ten_bytes : (l : List ℕ)
    → get_or l 0 0 ∷ get_or l 1 0 ∷ get_or l 2 0 ∷ get_or l 3 0 ∷ get_or l 4 0 ∷ get_or l 5 0 ∷ get_or l 6 0 ∷ get_or l 7 0 ∷ get_or l 8 0 ∷ get_or l 9 0 ∷ []
    ≡ first_ten l
unfolding first_ten
ten_bytes [] = refl
ten_bytes (a ∷ []) = refl
ten_bytes (a ∷ b ∷ []) = refl
ten_bytes (a ∷ b ∷ c ∷ []) = refl
ten_bytes (a ∷ b ∷ c ∷ d ∷ []) = refl
ten_bytes (a ∷ b ∷ c ∷ d ∷ e ∷ []) = refl
ten_bytes (a ∷ b ∷ c ∷ d ∷ e ∷ f ∷ []) = refl
ten_bytes (a ∷ b ∷ c ∷ d ∷ e ∷ f ∷ g ∷ []) = refl
ten_bytes (a ∷ b ∷ c ∷ d ∷ e ∷ f ∷ g ∷ h ∷ []) = refl
ten_bytes (a ∷ b ∷ c ∷ d ∷ e ∷ f ∷ g ∷ h ∷ i ∷ []) = refl
ten_bytes (a ∷ b ∷ c ∷ d ∷ e ∷ f ∷ g ∷ h ∷ i ∷ j ∷ l) = refl

-- ---- the same by a field of two bytes and one of eight

-- n bytes from a place on, zero past the end
abbrev reads : ℕ → ℕ → List ℕ → List ℕ
reads zero at l = []
reads (suc n) at l = get_or l at 0 ∷ reads n (suc at) l

field_first : (l : List ℕ) (at n : ℕ) → field at (suc n) l ≡ get_or l at 0 + 256 * field (suc at) n l
field_first l at n =
    elim (dec_lt at (length l)) [
      | yes w ↦ field_step l at n w
      | no w ↦
          let here : length l ≤ at = omega arith in
          let next : length l ≤ suc at = omega arith in
          rw (drop_of_length-le l here, drop_of_length-le l next, get_or_past l 0 here) (none n)
    ]
  where
    none : (n : ℕ) → 0 ≡ 0 + 256 * number (take n [])
    none zero = refl
    none (suc n) = refl

field_bytes_lem : (n at : ℕ) (l : List ℕ) → ((k : ℕ) → get_or l k 0 < 256) → bytes n (field at n l) ≡ reads n at l
field_bytes_lem zero at l small = refl
field_bytes_lem (suc n) at l small =
    let low : (get_or l at 0 + 256 * field (suc at) n l) % 256 ≡ get_or l at 0 = omega (arith, small at) in
    let high : (get_or l at 0 + 256 * field (suc at) n l) / 256 ≡ field (suc at) n l = omega (arith, small at) in
    rw (field_first l at n, low, high) (ap (λ (r : List ℕ). get_or l at 0 ∷ r) (field_bytes_lem n (suc at) l small))

pub by_fields : (l : List ℕ) → ((k : ℕ) → get_or l k 0 < 256)
    → sets (sets (replicate 10 0) 0 (bytes 2 (field 0 2 l))) 2 (bytes 8 (field 2 8 l)) ≡ first_ten l
by_fields l small =
    ap (λ (r : List ℕ). sets (sets (replicate 10 0) 0 r) 2 (bytes 8 (field 2 8 l))) (field_bytes_lem 2 0 l small)
    ∙ ap (λ (r : List ℕ). sets (sets (replicate 10 0) 0 (reads 2 0 l)) 2 r) (field_bytes_lem 8 2 l small)
    ∙ ten_bytes l

-- ---- zeros behind the end

-- zeros after a list are what is read past its end
padded : (l : List ℕ) (k i : ℕ) → get_or (l ++ replicate k 0) i 0 ≡ get_or l i 0
padded [] k i =
    elim (dec_lt i k) [
      | yes w ↦ get_or-replicate k i 0 0 w
      | no w ↦ let past : length {A = ℕ} (replicate k 0) ≤ i = simp length-replicate (omega arith) in get_or_past (replicate k 0) 0 past
    ]
padded (a ∷ l) k zero = refl
padded (a ∷ l) k (suc i) = padded l k i

zero_at : (l : List ℕ) (i : ℕ) → zeros l ≡ true → get_or l i 0 ≡ 0
zero_at [] i h = refl
zero_at (b ∷ l) zero h = eqb-true b 0 (and_left (eqb b 0) (zeros l) h)
zero_at (b ∷ l) (suc i) h = zero_at l i (and_right (eqb b 0) (zeros l) h)

-- what is not taken reads as zero, and is
unused_reads : (n : ℕ) (l : List ℕ) (i : ℕ) → zeros (drop n l) ≡ true → get_or (take n l) i 0 ≡ get_or l i 0
unused_reads n l i h =
    elim (dec_lt i n) [
      | yes w ↦ get_or-take n l i 0 w
      | no w ↦
          let past : length (take n l) ≤ i = simp length-take (omega arith) in
          let there : n + (i - n) ≡ i = omega arith in
          get_or_past (take n l) 0 past ∙ sym (zero_at (drop n l) (i - n) h) ∙ get_or-drop n l (i - n) 0 ∙ ap (λ (k : ℕ). get_or l k 0) there
    ]

-- two lists of which the first ten read alike
pub reads_alike : (l k : List ℕ) → ((i : ℕ) → i < 10 → get_or l i 0 ≡ get_or k i 0) → first_ten l ≡ first_ten k
unfolding first_ten
reads_alike l k same =
    ext_get_or 0 (take 10 (l ++ replicate 10 0)) (take 10 (k ++ replicate 10 0))
    (simp (length-take, length-append, length-replicate) (omega arith))
    (λ i less.
    let within : i < min 10 (length l + 10) = simp (length-take, length-append, length-replicate) at less in
    let ten : i < 10 = omega arith in
    get_or-take 10 (l ++ replicate 10 0) i 0 ten
    ∙ padded l 10 i ∙ same i ten
    ∙ sym (get_or-take 10 (k ++ replicate 10 0) i 0 ten ∙ padded k 10 i))

-- ten bytes that read as a list's are its first ten
pub ten_held : (ten l : List ℕ) → length ten ≡ 10 → ((i : ℕ) → i < 10 → get_or ten i 0 ≡ get_or l i 0) → ten ≡ first_ten l
unfolding first_ten
ten_held ten l long same =
    sym (take_all 10 ten (omega arith)) ∙ sym (take-append-le 10 ten (replicate 10 0) (omega arith)) ∙ reads_alike ten l same

pub held_opening : (n : ℕ) (l : List ℕ) → 10 ≤ length l → zeros (drop n l) ≡ true → first_ten (take n l) ≡ take 10 l
unfolding first_ten
held_opening n l long h =
    reads_alike (take n l) l (λ i ten. unused_reads n l i h) ∙ take-append-le 10 l (replicate 10 0) long

-- a byte of a run that was stored
stored_reads : (vs l : List ℕ) (at i : ℕ) → at + i < length l → i < length vs → get_or (sets l at vs) (at + i) 0 ≡ get_or vs i 0
stored_reads [] l at i inside more = absurd (omega arith)
stored_reads (v ∷ vs) l at zero inside more =
    rw (add-zero at)
    (sym (get_or-take (suc at) (sets (set l at v) (suc at) vs) at 0 (omega arith))
    ∙ ap (λ (r : List ℕ). get_or r at 0) (take_sets (suc at) (set l at v) (suc at) vs (le_refl (suc at)))
    ∙ get_or-take (suc at) (set l at v) at 0 (omega arith)
    ∙ get_or-set_same l at v 0 (omega arith))
stored_reads (v ∷ vs) l at (suc i) inside more =
    rw (add-suc at i, ← suc-add at i) (stored_reads vs (set l at v) (suc at) i (simp length-set (omega arith)) (omega arith))

-- ---- a message of which `had` bytes are held, in more than its first ten places, and the host's come next

module _ (held host : List ℕ) (had : ℕ) where
  abbrev joined : List ℕ
  joined = take had held ++ host

  pub joined_held : (i : ℕ) → i < had → i < length held → get_or joined i 0 ≡ get_or held i 0
  joined_held i less inside =
      let there : i < length (take had held) = simp length-take (omega arith) in
      get_or-append (take had held) host 0 i there ∙ get_or-take had held i 0 less

  pub joined_sent : (i : ℕ) → had ≤ i → i < length held → get_or joined i 0 ≡ get_or host (i - had) 0
  joined_sent i more inside =
      let front : length (take had held) ≡ had = length-take-le had held (omega arith) in
      let place : had + (i - had) ≡ i = omega arith in
      rw place at (rw front at (get_or-append-add (take had held) host (i - had) 0))

  -- past the host's last
  pub past_sent : (i : ℕ) → had ≤ i → i < length held → length host ≤ i - had → get_or joined i 0 ≡ 0
  past_sent i more inside past = joined_sent i more inside ∙ get_or_past host 0 past

  -- it reads as it would with these bytes stored
  module _ (count : ℕ) (long : 10 ≤ length held) (sent : count ≤ length host) where
    abbrev stored : List ℕ
    stored = sets held had (take count host)

    stored_held : (i : ℕ) → i < had → get_or stored i 0 ≡ get_or held i 0
    stored_held i less =
        sym (get_or-take had stored i 0 less)
        ∙ ap (λ (r : List ℕ). get_or r i 0) (take_sets had held had (take count host) (le_refl had))
        ∙ get_or-take had held i 0 less

    stored_sent : (i : ℕ) → had ≤ i → i < had + count → i < length held → get_or stored i 0 ≡ get_or host (i - had) 0
    stored_sent i more less inside =
        let place : had + (i - had) ≡ i = omega arith in
        let part : length (take count host) ≡ count = length-take-le count host sent in
        (rw place at (stored_reads (take count host) held had (i - had) (omega arith) (omega arith)))
        ∙ get_or-take count host (i - had) 0 (omega arith)

    alike : (i : ℕ) → i < 10 → i < had + count → get_or joined i 0 ≡ get_or stored i 0
    alike i ten less =
        elim (dec_lt i had) [
          | yes w ↦ joined_held i w (omega arith) ∙ sym (stored_held i w)
          | no w ↦ joined_sent i (omega arith) (omega arith) ∙ sym (stored_sent i (omega arith) less (omega arith))
        ]

    pub joined_opening : first_ten (take (had + count) joined) ≡ first_ten (take (had + count) stored)
    joined_opening =
        reads_alike (take (had + count) joined) (take (had + count) stored) (λ i ten.
        elim (dec_lt i (had + count)) [
          | yes w ↦ get_or-take (had + count) joined i 0 w ∙ alike i ten w ∙ sym (get_or-take (had + count) stored i 0 w)
          | no w ↦
              let end : length (take (had + count) joined) ≤ i = simp length-take (omega arith) in
              let over : length (take (had + count) stored) ≤ i = simp length-take (omega arith) in
              get_or_past (take (had + count) joined) 0 end ∙ sym (get_or_past (take (had + count) stored) 0 over)
        ])
