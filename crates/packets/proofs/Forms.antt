-- The table of packet forms agrees, row by row, with width and pair count, and what every listed form satisfies, so that no
-- later proof over forms goes by the four rows. Assumes nothing.
use Prim.Native.Nat.{ℕ, ◌+◌, ◌/◌, ◌^◌, ◌≤◌, ◌<◌}
use mathlib.Core.Path.{◌≡◌, refl, sym, ap, ◌∙◌}
use mathlib.Core.Logic.{◌⊎◌, inl, inr, ⊎_elim}
use mathlib.Core.Bool.{Bool, true, false, ◌&&◌, ◌||◌}
use mathlib.Core.List.{List, [], ◌∷◌}
use native.Mathlib.Omega.{arith}
use lib.Dec.{eqb, leb, ltb}
use lib.ListN.{length}
use Rattle.std.specs.Prelude.{Option, Some, None, Ok, Err, ok_or}
use borrow.Author.Tests.{eqb-true, leb-true, ltb-true, eq-eqb, ne_eqb}
use Rattle.wire.specs.Choice.{pick, any_of, first_row}
use Rattle.wire.specs.Number.{bytes, field}
use Rattle.wire.specs.Header.{header_of, length_in, type_data}
use Rattle.wire.proofs.Laws.{and_left, and_right, pick_same}
use Rattle.wire.specs.Lists.{same}
use Rattle.wire.proofs.Lists.{same_eq}
use Rattle.packets.specs.declared.Form.{Form}
use Rattle.packets.specs.Inside.{form_with_total}
use Rattle.packets.specs.Forms.{Row, forms, form_of, same_form, total_of, no_form, listed_form, found, form_for, form_with_header, whole_of, is_packet}

-- the specs' lookups over any part of the table
abbrev listed_in : List Row → Form → Bool
listed_in rs f = any_of (λ r. same_form (form_of r) f) rs

abbrev form_with_in : List Row → ℕ → Form
form_with_in rs header = first_row (λ r. eqb header (field 0 2 r.header)) form_of no_form rs

abbrev whole_in : List Row → List ℕ → Form
whole_in rs packet =
    first_row (λ r. eqb (field 0 2 packet) (field 0 2 r.header) && eqb (length packet) r.total) form_of no_form rs

-- ---- one computed test over the table

-- the test passes in every row
abbrev pub every_row : (Row → Bool) → List Row → Bool
every_row t [] = true
every_row t (r ∷ rs) = t r && every_row t rs

-- The row's total is that of its width and pair count.
abbrev pub total_agrees : Row → Bool
total_agrees r = eqb r.total (total_of (form_of r))

-- The row's header is that of a data item of its total, which fits 13 bits.
abbrev pub header_agrees : Row → Bool
header_agrees r = same r.header (bytes 2 (header_of type_data r.total)) && ltb r.total 8_192

abbrev pub row_agrees : Row → Bool
row_agrees r = total_agrees r && header_agrees r

pub table_agrees : every_row row_agrees forms ≡ true
table_agrees = refl

-- The same as equations, with what follows for the number that a row's header holds.
pub record Agrees (r : Row) : Type 0 where
  pub total : r.total ≡ total_of (form_of r)
  pub header : r.header ≡ bytes 2 (header_of type_data r.total)
  pub number : field 0 2 r.header ≡ header_of type_data r.total
  pub holds : length_in (field 0 2 r.header) ≡ r.total

pub row_agrees_lem : (r : Row) → row_agrees r ≡ true → Agrees r
row_agrees_lem r h =
    let hs : header_agrees r ≡ true = and_right (total_agrees r) (header_agrees r) h in
    let sent : List ℕ = bytes 2 (header_of type_data r.total) in
    let header : r.header ≡ sent = same_eq _ _ (and_left (same r.header sent) (ltb r.total 8_192) hs) in
    let short : r.total < 8_192 = ltb-true _ _ (and_right (same r.header sent) (ltb r.total 8_192) hs) in
    let number : field 0 2 r.header ≡ header_of type_data r.total = ap (field 0 2) header ∙ omega arith in
    record {
      total = eqb-true _ _ (and_left (total_agrees r) (header_agrees r) h);
      header = header;
      number = number;
      holds = ap length_in number ∙ omega arith;
    }

-- ---- what a listed form satisfies

pub same_self : (f : Form) → same_form f f ≡ true
same_self f = rw (eq-eqb f.bits f.bits refl, eq-eqb f.pairs f.pairs refl)

pub same_is : (f g : Form) → same_form f g ≡ true → f ≡ g
same_is f g h =
    let b : f.bits ≡ g.bits = eqb-true _ _ (and_left (eqb f.bits g.bits) (eqb f.pairs g.pairs) h) in
    let p : f.pairs ≡ g.pairs = eqb-true _ _ (and_right (eqb f.bits g.bits) (eqb f.pairs g.pairs) h) in
    ap (λ (n : ℕ). record { bits = n; pairs = f.pairs }) b ∙ ap (λ (n : ℕ). record { bits = g.bits; pairs = n }) p

-- a test that passes in every row passes at each listed form
every_listed : (t : Form → Bool) (rs : List Row) → every_row (λ r. t (form_of r)) rs ≡ true
    → (f : Form) → listed_in rs f ≡ true → t f ≡ true
every_listed t [] e f l = cc
every_listed t (r ∷ rs) e f l =
    here (same_form (form_of r) f) refl (every_listed t rs (and_right (t (form_of r)) (every_row (λ x. t (form_of x)) rs) e) f)
  where
    here : (same : Bool) → same_form (form_of r) f ≡ same → (listed_in rs f ≡ true → t f ≡ true) → t f ≡ true
    here true q later = ap t (sym (same_is (form_of r) f q)) ∙ and_left (t (form_of r)) (every_row (λ x. t (form_of x)) rs) e
    here false q later = later (rw q at l)

pub of_listed : (t : Form → Bool) → every_row (λ r. t (form_of r)) forms ≡ true → (f : Form) → listed_form f ≡ true → t f ≡ true
of_listed t e f l = every_listed t forms e f l

-- What every listed form has. A proof over forms needs no more than this of the table.
pub record Listed (f : Form) : Type 0 where
  pub width : (f.bits ≡ 24) ⊎ (f.bits ≡ 16)
  -- a sample is whole bytes
  pub bytewise : 2 ^ f.bits ≡ 256 ^ (f.bits / 8)
  pub wide : 8 ≤ f.bits
  pub narrow : f.bits ≤ 24
  pub some : 1 ≤ f.pairs
  pub few : f.pairs ≤ 256
  -- the total fits the header's 13 bits
  pub short : total_of f < 8_192

or_either : (a b : Bool) → (a || b) ≡ true → (a ≡ true) ⊎ (b ≡ true)
or_either true b h = inl refl
or_either false b h = inr h

pub is_listed_form : (f : Form) → listed_form f ≡ true → Listed f
is_listed_form f l =
    record {
      width =
          ⊎_elim (λ w. inl (eqb-true f.bits 24 w)) (λ w. inr (eqb-true f.bits 16 w))
          (or_either _ _ (of_listed (λ g. eqb g.bits 24 || eqb g.bits 16) refl f l));
      bytewise = eqb-true _ _ (of_listed (λ g. eqb (2 ^ g.bits) (256 ^ (g.bits / 8))) refl f l);
      wide = leb-true _ _ (of_listed (λ g. leb 8 g.bits) refl f l);
      narrow = leb-true _ _ (of_listed (λ g. leb g.bits 24) refl f l);
      some = leb-true _ _ (of_listed (λ g. leb 1 g.pairs) refl f l);
      few = leb-true _ _ (of_listed (λ g. leb g.pairs 256) refl f l);
      short = ltb-true _ _ (of_listed (λ g. ltb (total_of g) 8_192) refl f l);
    }

-- a mode and a size that a box may have give a listed form
pub form_for_listed : (mode size : ℕ) → (mode ≡ 0x80) ⊎ (mode ≡ 0x00) → (size ≡ 0) ⊎ (size ≡ 1) → listed_form (form_for mode size) ≡ true
form_for_listed mode size (inl m) (inl s) = rw (m, s)
form_for_listed mode size (inl m) (inr s) = rw (m, s)
form_for_listed mode size (inr m) (inl s) = rw (m, s)
form_for_listed mode size (inr m) (inr s) = rw (m, s)

-- ---- a whole packet

-- The header holds the total, so a slice is a whole packet where its header is a listed one and its length is the header's.
abbrev by_header : List Row → List ℕ → Form
by_header rs p = pick (eqb (length p) (length_in (field 0 2 p))) (form_with_in rs (field 0 2 p)) no_form

whole_split_in : (rs : List Row) → every_row row_agrees rs ≡ true → (p : List ℕ) → whole_in rs p ≡ by_header rs p
whole_split_in [] e p = sym (pick_same (eqb (length p) (length_in (field 0 2 p))) no_form)
whole_split_in (r ∷ rs) e p =
    here (eqb (field 0 2 p) (field 0 2 r.header)) refl (whole_split_in rs (and_right (row_agrees r) (every_row row_agrees rs) e) p)
  where
    agrees : Agrees r
    agrees = row_agrees_lem r (and_left (row_agrees r) (every_row row_agrees rs) e)

    fits : (long : Bool) (f g w : Form) → w ≡ pick long g no_form → pick long f w ≡ pick long f no_form
    fits true f g w later = refl
    fits false f g w later = later

    here : (same : Bool) → eqb (field 0 2 p) (field 0 2 r.header) ≡ same
        → whole_in rs p ≡ by_header rs p → whole_in (r ∷ rs) p ≡ by_header (r ∷ rs) p
    here true q later =
        let e : length_in (field 0 2 p) ≡ r.total = ap length_in (eqb-true _ _ q) ∙ agrees.holds in
        rw (q, e) (fits (eqb (length p) r.total) (form_of r) (form_with_in rs (field 0 2 p)) (whole_in rs p) (rw e at later))
    here false q later = rw q later

pub whole_split : (p : List ℕ) → whole_of p ≡ pick (eqb (length p) (length_in (field 0 2 p))) (form_with_header (field 0 2 p)) no_form
whole_split p = whole_split_in forms refl p

-- The header holds the total: so the slice's length names the form, and the header must be that of a data item so long.
abbrev with_total_in : List Row → ℕ → Form
with_total_in rs total = first_row (λ r. eqb total r.total) form_of no_form rs

abbrev by_total : List Row → List ℕ → Form
by_total rs p = pick (eqb (field 0 2 p) (0x8000 + length p)) (with_total_in rs (length p)) no_form

by_total_in : (rs : List Row) → every_row row_agrees rs ≡ true → (p : List ℕ) → whole_in rs p ≡ by_total rs p
by_total_in [] e p = sym (pick_same (eqb (field 0 2 p) (0x8000 + length p)) no_form)
by_total_in (r ∷ rs) e p =
    here (eqb (length p) r.total) refl (by_total_in rs (and_right (row_agrees r) (every_row row_agrees rs) e) p)
  where
    own : Bool
    own = eqb (field 0 2 p) (0x8000 + length p)

    -- a data item's header is its length and 8000
    row : field 0 2 r.header ≡ 0x8000 + r.total
    row =
        let agrees = row_agrees_lem r (and_left (row_agrees r) (every_row row_agrees rs) e) in
        omega (arith, agrees.number, agrees.holds)

    -- of this length: the header decides, and no later row has it otherwise
    of_it : (t : Bool) (f w : Form) → w ≡ pick t (with_total_in rs (length p)) no_form → pick (t && true) f w ≡ pick t f no_form
    of_it true f w later = refl
    of_it false f w later = later

    -- of another
    other : (t : Bool) (f w : Form) → pick (t && false) f w ≡ w
    other true f w = refl
    other false f w = refl

    here : (long : Bool) → eqb (length p) r.total ≡ long
        → whole_in rs p ≡ by_total rs p → whole_in (r ∷ rs) p ≡ by_total (r ∷ rs) p
    here true q later =
        let n : r.total ≡ length p = sym (eqb-true _ _ q) in
        let same : eqb (field 0 2 p) (field 0 2 r.header) ≡ own = ap (λ (h : ℕ). eqb (field 0 2 p) h) (row ∙ ap (λ (m : ℕ). 0x8000 + m) n) in
        rw (q, same) (of_it own (form_of r) (whole_in rs p) later)
    here false q later =
        rw q (other (eqb (field 0 2 p) (field 0 2 r.header)) (form_of r) (whole_in rs p) ∙ later)

by_total_lem : (p : List ℕ) → whole_of p ≡ pick (eqb (field 0 2 p) (0x8000 + length p)) (form_with_total (length p)) no_form
by_total_lem p = by_total_in forms refl p

-- a form without pairs is none
none_in : (rs : List Row) → every_row (λ r. leb 1 r.pairs) rs ≡ true → (n : ℕ) → (with_total_in rs n).pairs ≡ 0 → with_total_in rs n ≡ no_form
none_in [] e n z = refl
none_in (r ∷ rs) e n z =
    here (eqb n r.total) refl (none_in rs (and_right (leb 1 r.pairs) (every_row (λ x. leb 1 x.pairs) rs) e) n)
  where
    here : (t : Bool) → eqb n r.total ≡ t → ((with_total_in rs n).pairs ≡ 0 → with_total_in rs n ≡ no_form)
        → with_total_in (r ∷ rs) n ≡ no_form
    here true q later =
        let some = leb-true 1 r.pairs (and_left (leb 1 r.pairs) (every_row (λ x. leb 1 x.pairs) rs) e) in
        absurd (omega (arith, some, rw q at z))
    here false q later = rw q (later (rw q at z))

-- a slice whose length names no form; one whose header h is its length's own; and one whose is not
module _ (p : List ℕ) where
  pub no_total : (f : Form) → f ≡ form_with_total (length p) → f.pairs ≡ 0 → f ≡ whole_of p
  no_total f is z =
      let none : form_with_total (length p) ≡ no_form = none_in forms refl (length p) (sym (ap (λ (g : Form). g.pairs) is) ∙ z) in
      is ∙ none ∙ sym (by_total_lem p ∙ rw none (pick_same (eqb (field 0 2 p) (0x8000 + length p)) no_form))

  pub own_header : (f : Form) (h : ℕ) → f ≡ form_with_total (length p) → h ≡ field 0 2 p → h ≡ 0x8000 + length p → f ≡ whole_of p
  own_header f h is stands own = is ∙ sym (by_total_lem p ∙ rw (eq-eqb (field 0 2 p) (0x8000 + length p) (sym stands ∙ own)))

  pub other_header : (h : ℕ) → h ≡ field 0 2 p → (h ≡ 0x8000 + length p → ⊥) → no_form ≡ whole_of p
  other_header h stands other = sym (by_total_lem p ∙ rw (ne_eqb (field 0 2 p) (0x8000 + length p) (λ e. other (stands ∙ e))))

-- ---- a form as it is answered

-- what is answered where a test holds, and only there
pub picked_some : {A : Type 0} (t : Bool) (x y : A) → Some y ≡ pick t (Some x) None → (t ≡ true) × (y ≡ x)
picked_some true x y is = (refl, cc)
picked_some false x y is = cc

pub picked_none : {A : Type 0} (t : Bool) (x : A) → None ≡ pick t (Some x) None → t ≡ false
picked_none true x is = cc
picked_none false x is = refl

pub found_listed : (f : Form) → listed_form f ≡ true → found f ≡ Some f
unfolding found
found_listed f l = rw l

-- one is answered: it is this one, and listed
pub found_some : (f g : Form) → Some g ≡ found f → (listed_form f ≡ true) × (g ≡ f)
unfolding found
found_some f g is = picked_some (listed_form f) f g is

-- none is answered
pub found_none : (f : Form) → None ≡ found f → listed_form f ≡ false
unfolding found
found_none f is = picked_none (listed_form f) f is

-- asked for with a refusal: the form, or the refusal where there is none
pub found_ok : {E : Type 0} (f : Form) (x : Option Form) (r : E) (g : Form) → x ≡ found f → ok_or x r ≡ Ok g → (listed_form f ≡ true) × (g ≡ f)
found_ok f (Some h) r g is e = let it = found_some f h is in (it.0, cc (it.1))
found_ok f None r g is e = cc

pub found_err : {E : Type 0} (f : Form) (x : Option Form) (r e : E) → x ≡ found f → ok_or x r ≡ Err e → (listed_form f ≡ false) × (e ≡ r)
found_err f (Some h) r e is told = cc
found_err f None r e is told = (found_none f is, cc)

-- a slice's length names the form, and then its header must be that of a data item so long
pub whole_found : (p : List ℕ)
    → found (whole_of p) ≡ pick (eqb (field 0 2 p) (0x8000 + length p)) (found (form_with_total (length p))) None
unfolding found
whole_found p = ap found (by_total_lem p) ∙ by (eqb (field 0 2 p) (0x8000 + length p)) (form_with_total (length p))
  where
    by : (t : Bool) (f : Form) → found (pick t f no_form) ≡ pick t (found f) None
    by true f = refl
    by false f = refl

-- Bytes with the header and the length of a listed form are a whole packet of that form.
pub whole_cut : (f : Form) → listed_form f ≡ true → (p : List ℕ) → field 0 2 p ≡ header_of type_data (total_of f) → length p ≡ total_of f
    → whole_of p ≡ f
whole_cut f l p h n =
    let holds : length_in (header_of type_data (total_of f)) ≡ total_of f = omega (arith, (is_listed_form f l).short) in
    let found : same_form (form_with_header (header_of type_data (total_of f))) f ≡ true
    = of_listed (λ g. same_form (form_with_header (header_of type_data (total_of g))) g) refl f l in
    whole_split p ∙ rw (h, n, holds, eq-eqb (total_of f) (total_of f) refl) (same_is _ _ found)

-- What a slice that is a whole packet has: a listed form, that form's length and that form's header.
pub record Whole (p : List ℕ) (f : Form) : Type 0 where
  pub form : listed_form f ≡ true
  pub long : length p ≡ total_of f
  pub header : field 0 2 p ≡ header_of type_data (total_of f)

abbrev NoneOrWhole : List Row → List ℕ → Type 0
NoneOrWhole rs p = (whole_in rs p ≡ no_form) ⊎ Whole p (whole_in rs p)

whole_in_lem : (rs : List Row) → every_row row_agrees rs ≡ true → every_row (λ r. listed_form (form_of r)) rs ≡ true → (p : List ℕ) → NoneOrWhole rs p
whole_in_lem [] e l p = inl refl
whole_in_lem (r ∷ rs) e l p =
    let agree = and_right (row_agrees r) (every_row row_agrees rs) e in
    let list = and_right (listed_form (form_of r)) (every_row (λ x. listed_form (form_of x)) rs) l in
    here (same_header && same_length) refl (whole_in_lem rs agree list p)
  where
    agrees : Agrees r
    agrees = row_agrees_lem r (and_left (row_agrees r) (every_row row_agrees rs) e)

    same_header : Bool
    same_header = eqb (field 0 2 p) (field 0 2 r.header)

    same_length : Bool
    same_length = eqb (length p) r.total

    here : (same : Bool) → (same_header && same_length) ≡ same → NoneOrWhole rs p → NoneOrWhole (r ∷ rs) p
    here true q later = rw q
        (inr
        (record {
          form = and_left (listed_form (form_of r)) (every_row (λ x. listed_form (form_of x)) rs) l;
          long = eqb-true _ _ (and_right same_header same_length q) ∙ agrees.total;
          header = eqb-true _ _ (and_left same_header same_length q) ∙ agrees.number ∙ ap (header_of type_data) agrees.total;
        }))
    here false q later = rw q later

pub whole_is : (p : List ℕ) → (whole_of p ≡ no_form) ⊎ Whole p (whole_of p)
whole_is p = whole_in_lem forms refl refl p

pub packet_is : (p : List ℕ) → is_packet p ≡ true → Whole p (whole_of p)
packet_is p h = ⊎_elim none (λ w. w) (whole_is p)
  where
    none : whole_of p ≡ no_form → Whole p (whole_of p)
    none e = let z : false ≡ true = rw e at h in absurd (let y : ◌≡◌ {A = ℕ} 0 1 = cc in omega arith)
