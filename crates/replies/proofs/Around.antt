-- Bytes around no value are no reply, nor are those whose value goes on; the others are one if a box could give the value.
use Prim.Native.Nat.{ℕ, ◌+◌, ◌^◌, ◌<◌}
use mathlib.Core.Path.{◌≡◌, sym, ap, subst, ◌∙◌}
use mathlib.Core.Bool.{Bool, true, false}
use mathlib.Core.List.{List}
use lib.Dec.{eqb}
use lib.ListN.{get_or}
use Rattle.std.specs.Prelude.{Ok, Err}
use Rattle.wire.specs.Number.{field}
use Rattle.wire.specs.Lists.{same}
use Rattle.wire.specs.declared.refusal.Refusal.TheVariants.{NotAReply}
use Rattle.wire.proofs.Numbers.{field_below}
use Rattle.layouts.specs.declared.Layout.{Layout}
use Rattle.layouts.specs.Layouts.{value_place, has_layout}
use Rattle.wishes.specs.declared.Wish.{Wish}
use Rattle.wishes.specs.Wishes.{open_wish, allowed_wish}
use Rattle.replies.specs.Awaited.{awaited, asks_range, reply_layout, reply_bytes, value_at, number_in}
use Rattle.replies.specs.Reading.{is_nak, is_reply, read_says, reply_reader_says}
use Rattle.replies.proofs.Answers.{read_none, read_reply}
use Rattle.replies.proofs.Values.{around_reply, not_around, goes_on_lem, ends, given_could}

module _ (w : Wish) (bs : List ℕ)
    (p : (open_wish w ≡ true) × (allowed_wish w ≡ true) × (asks_range w ≡ false) × (is_nak bs ≡ false))
    (a : Layout) (is : a ≡ reply_layout w 0) where
  around : has_layout bs a ≡ same bs (reply_bytes w (number_in w bs))
  around = ap (has_layout bs) is ∙ around_reply w 0 bs

  -- what stands around the value is another reply's
  pub other_around : has_layout bs a ≡ false → read_says (Err NotAReply) ≡ reply_reader_says w bs
  other_around differs = read_none w bs p.0 p.1 p.3 (not_around w bs p.2 (sym around ∙ differs))

  module _ (laid : has_layout bs a ≡ true) where
    given : same bs (reply_bytes w (number_in w bs)) ≡ true
    given = sym around ∙ laid

    -- the ninth byte, where it is not zero and where it is
    ninth : (t : Bool) → eqb (field (value_place a + 8) 1 bs) 0 ≡ t → eqb (field (value_at w + 8) 1 bs) 0 ≡ t
    ninth t e = ap (λ (l : Layout). eqb (field (value_place l + 8) 1 bs) 0) (sym is) ∙ e

    pub value_goes_on : eqb (field (value_place a + 8) 1 bs) 0 ≡ false → read_says (Err NotAReply) ≡ reply_reader_says w bs
    value_goes_on more = read_none w bs p.0 p.1 p.3 (goes_on_lem w bs p.2 given p.1 (ninth false more))

    module _ (last : eqb (field (value_place a + 8) 1 bs) 0 ≡ true) (n : ℕ) (read : n ≡ field (value_place a) 8 bs) where
      value_read : n ≡ number_in w bs
      value_read = read ∙ ap (λ (l : Layout). field (value_place l) 8 bs) is ∙ sym (ends w bs p.2 given (ninth true last))

      pub value_fits : ((k : ℕ) → get_or bs k 0 < 256) → n < 256 ^ (awaited w).width
      value_fits below =
          subst (λ (m : ℕ). m < 256 ^ (awaited w).width) (sym value_read) (field_below (value_at w) (awaited w).width bs below)

      could : (t : Bool) → (awaited w).could n ≡ t → is_reply w bs ≡ t
      could t e = given_could w bs p.2 given t (ap (awaited w).could (sym value_read) ∙ e)

      pub value_not_given : (awaited w).could n ≡ false → read_says (Err NotAReply) ≡ reply_reader_says w bs
      value_not_given none = read_none w bs p.0 p.1 p.3 (could false none)

      pub value_given : (awaited w).could n ≡ true → read_says (Ok ((awaited w).says n)) ≡ reply_reader_says w bs
      value_given some = read_reply w bs p.0 p.1 p.3 n (could true some) (sym value_read)
