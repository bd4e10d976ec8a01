-- A message is recognised by what stands around its value: any bytes in the value's place are some number's.
use Prim.Native.Nat.{ℕ, ◌+◌, ◌*◌, ◌<◌}
use mathlib.Core.Path.{◌≡◌, refl, sym, ap, ◌∙◌}
use mathlib.Core.Bool.{Bool, true, false, ◌&&◌}
use mathlib.Core.List.{List, ◌∷◌, ◌++◌}
use native.Mathlib.Omega.{arith}
use lib.Dec.{eqb}
use lib.ListN.{length, get_or, take, drop, length-drop, take-append-drop}
use lib.Seq.{drop-cons, take_all, get_or-drop}
use borrow.Author.Tests.{eqb-true, eq-eqb, ne_eqb}
use Rattle.wire.specs.Number.{number, bytes, field}
use Rattle.wire.specs.Header.{header_of}
use Rattle.wire.proofs.Laws.{and_left, and_right, and_both}
use Rattle.wire.proofs.Lists.{same_test}
use Rattle.wire.proofs.Numbers.{number_bytes, field_bytes_lem}
use Rattle.wire.proofs.Words.{bytes_join}
use Rattle.layouts.specs.declared.Layout.{Layout}
use Rattle.std.specs.Prelude.{Option, Some, None}
use Rattle.layouts.specs.Layouts.{echo_bytes, parameters_of, size_of, laid, filled, has_layout}
use Rattle.layouts.proofs.Sizes.{least, length_laid}

-- header and item code, as one number
abbrev pub front_of : Layout → ℕ
front_of a = header_of a.kind (size_of a) + 65536 * a.item

-- the echoed byte is right, where there is one
abbrev pub echo_is : List ℕ → Option ℕ → Bool
echo_is bs (Some byte) = eqb (get_or bs 4 0) byte
echo_is bs None = true

abbrev pub echo_right : List ℕ → Layout → Bool
echo_right bs a = echo_is bs a.echo

-- all that is looked at
abbrev pub looks_right : List ℕ → Layout → Bool
looks_right bs a = eqb (length bs) (size_of a) && (eqb (field 0 4 bs) (front_of a) && echo_right bs a)

module _ (bs : List ℕ) (below : (k : ℕ) → get_or bs k 0 < 256) (a : Layout) where
  -- all bytes from a place on come back from their number
  rest_back : (at n : ℕ) → length bs ≡ at + n → drop at bs ≡ bytes n (field at n bs)
  rest_back at n long =
      let all : take n (drop at bs) ≡ drop at bs = take_all n (drop at bs) (simp length-drop (omega arith)) in
      sym (field_bytes_lem at n bs below (omega arith) ∙ all)

  -- the first four are header and item code, where their number is
  front_back : length bs ≡ size_of a → field 0 4 bs ≡ front_of a
      → take 4 bs ≡ bytes 2 (header_of a.kind (size_of a)) ++ bytes 2 a.item
  front_back long is =
      let header : header_of a.kind (size_of a) < 65536 = omega arith in
      sym (field_bytes_lem 0 4 bs below (omega (arith, least a)))
      ∙ ap (bytes 4) is
      ∙ bytes_join 2 2 (header_of a.kind (size_of a)) a.item header

  -- those behind, where the echoed byte is right
  parameters_back : length bs ≡ size_of a → echo_right bs a ≡ true → drop 4 bs ≡ parameters_of (filled a bs)
  parameters_back = go a.echo
    where
      go : (e : Option ℕ) → length bs ≡ 4 + length (echo_bytes e) + a.width → echo_is bs e ≡ true
          → drop 4 bs ≡ echo_bytes e ++ bytes a.width (field (4 + length (echo_bytes e)) a.width bs)
      go (Some byte) long echo =
          drop-cons bs 4 0 (omega arith)
          ∙ rw (eqb-true (get_or bs 4 0) byte echo) (ap (λ (l : List ℕ). byte ∷ l) (rest_back 5 a.width long))
      go None long echo = rest_back 4 a.width long

  -- so bytes that look right are a message
  right_laid : looks_right bs a ≡ true → bs ≡ laid (filled a bs)
  right_laid is =
      let later = and_right (eqb (length bs) (size_of a)) (eqb (field 0 4 bs) (front_of a) && echo_right bs a) is in
      let echo = and_right (eqb (field 0 4 bs) (front_of a)) (echo_right bs a) later in
      let front : field 0 4 bs ≡ front_of a
      = eqb-true (field 0 4 bs) (front_of a) (and_left (eqb (field 0 4 bs) (front_of a)) (echo_right bs a) later) in
      let long : length bs ≡ size_of a = eqb-true (length bs) (size_of a) (and_left (eqb (length bs) (size_of a)) _ is) in
      sym (take-append-drop 4 bs)
      ∙ ap (λ (l : List ℕ). l ++ drop 4 bs) (front_back long front)
      ∙ ap (λ (l : List ℕ). bytes 2 (header_of a.kind (size_of a)) ++ bytes 2 a.item ++ l) (parameters_back long echo)

  module _ (item : a.item < 65536) where
    -- and a message looks right
    laid_right : bs ≡ laid (filled a bs) → looks_right bs a ≡ true
    laid_right is =
        let header : ℕ = header_of a.kind (size_of a) in
        let small : header < 65536 = omega arith in
        let long : length bs ≡ size_of a = ap length is ∙ length_laid (filled a bs) in
        let front : field 0 4 bs ≡ front_of a
        = ap (field 0 4) is ∙ ap number (sym (bytes_join 2 2 header a.item small)) ∙ number_bytes 4 (front_of a) (omega arith) in
        and_both (eqb (length bs) (size_of a)) _ (eq-eqb (length bs) (size_of a) long)
        (and_both (eqb (field 0 4 bs) (front_of a)) _ (eq-eqb (field 0 4 bs) (front_of a) front)
        (echo_right_lem a.echo _ (ap (drop 4) is)))
      where
        echo_right_lem : (e : Option ℕ) (rest : List ℕ) → drop 4 bs ≡ echo_bytes e ++ rest → echo_is bs e ≡ true
        echo_right_lem (Some byte) rest behind =
            eq-eqb (get_or bs 4 0) byte (sym (get_or-drop 4 bs 0 0) ∙ ap (λ (l : List ℕ). get_or l 0 0) behind)
        echo_right_lem None rest behind = refl

    -- so what is looked at decides
    pub right_layout : looks_right bs a ≡ has_layout bs a
    unfolding has_layout
    right_layout = same_test (looks_right bs a) bs (laid (filled a bs)) right_laid laid_right

    -- first by the length, then by the front, and then by the echoed byte
    pub not_as_long : (length bs ≡ size_of a → ⊥) → false ≡ has_layout bs a
    not_as_long differs = rw (ne_eqb (length bs) (size_of a) differs) at right_layout

    module _ (long : length bs ≡ size_of a) where
      pub other_front : (field 0 4 bs ≡ front_of a → ⊥) → false ≡ has_layout bs a
      other_front differs = rw (eq-eqb (length bs) (size_of a) long, ne_eqb (field 0 4 bs) (front_of a) differs) at right_layout

      pub by_the_echo : field 0 4 bs ≡ front_of a → echo_right bs a ≡ has_layout bs a
      by_the_echo front = rw (eq-eqb (length bs) (size_of a) long, eq-eqb (field 0 4 bs) (front_of a) front) at right_layout
