-- A reply with a value that a valid box could give is read as that value.
use Prim.Native.Nat.{ℕ, ◌^◌, ◌<◌}
use mathlib.Core.Path.{◌≡◌, refl, sym, ap, subst, ◌∙◌}
use mathlib.Core.Bool.{Bool, true, false, ◌||◌, not}
use mathlib.Core.List.{List, [], ◌∷◌, ◌++◌}
use native.Mathlib.Nat.{lt_of_lt_of_le}
use native.Mathlib.Omega.{arith}
use lib.Dec.{eqb, ltb, lit<, lit≤}
use lib.ListN.{length, replicate}
use lib.Seq.{sets}
use Rattle.std.proofs.Common.{Option, Some, None}
use borrow.Author.Tests.{eq-eqb, eqb-true, eqb-false, ltb-true}
use Rattle.wire.specs.Choice.{pick, one_of}
use Rattle.wire.specs.Number.{number, bytes}
use Rattle.wire.specs.Signed.{coded}
use Rattle.wire.specs.Header.{nak, type_range_reply}
use Rattle.wire.proofs.Laws.{and_left, and_right, within_high, by_test}
use Rattle.rates.specs.Rate.{rate_of, nearest_of, may_ask, is_d}
use Rattle.rates.specs.Table.{d_of}
use Rattle.rates.proofs.Rates.{rate_asked, nearest_d, listed_d}
use Rattle.tuning.specs.Bands.{bands, range_bytes}
use Rattle.layouts.specs.Layouts.{laid}
use Rattle.layouts.proofs.Sizes.{least, length_laid}
use Rattle.layouts.proofs.Values.{value_read}
use Rattle.items.specs.Items.{name_bytes, frequency}
use Rattle.items.specs.Answer.{framed, range_body}
use Rattle.wire.proofs.Signed.{coded_below}
use Rattle.items.proofs.Versions.{version_has}
use Rattle.items.specs.Settings.{all_serial}
use Rattle.wishes.specs.declared.Wish.{Wish}
use Rattle.wishes.specs.declared.Wish.TheVariants.{AskName, AskSerial, AskInterface, AskVersion, AskStatus, SetState, AskState}
use Rattle.wishes.specs.declared.Wish.TheVariants.{SetChannelSetup, AskChannelSetup, SetFrequency, AskFrequency, AskFrequencyRange}
use Rattle.wishes.specs.declared.Wish.TheVariants.{SetGain, AskGain, SetClock, AskClock}
use Rattle.wishes.specs.declared.Wish.TheVariants.{SetRate, AskRate, SetPacketSize, AskPacketSize}
use Rattle.wishes.specs.Wishes.{open_wish, allowed_wish}
use Rattle.tuning.proofs.Covered.{bands_high}
use Rattle.wishes.proofs.Allowed.{state_has, gain_below, value_fits}
use Rattle.wire.proofs.Laws.{one_has}
use Rattle.replies.specs.Awaited.{awaited, version_number, idle_shown, run_shown, state_shown, reply_layout, reply_bytes, number_in}
use Rattle.replies.specs.Reading.{is_nak, is_reply, reply_code, reply_says, reply_reader_says}
use Rattle.wire.specs.Lists.{same}
use Rattle.replies.proofs.Answers.{read_reply}
use Rattle.wire.proofs.Lists.{same_eq, same_refl, ne_same, same_test}

rate_below : (hz : ℕ) → may_ask hz ≡ true → hz < 256 ^ 4
rate_below hz e = omega (arith, within_high 32_000 2_000_000 hz e)

-- the achieved rate of the nearest D, where there is one
abbrev pub achieved_by : ℕ → Option ℕ
achieved_by hz = pick (may_ask hz) (Some (rate_of (nearest_of hz))) None

pub none_near : (hz : ℕ) → None ≡ pick (may_ask hz) (Some (nearest_of hz)) None → None ≡ achieved_by hz
none_near hz near = by_test (may_ask hz) may (λ e. rw e)
  where
    may : may_ask hz ≡ true → None ≡ achieved_by hz
    may e = absurd (let z : None ≡ Some (nearest_of hz) = rw e at near in cc)

pub rate_achieved : (hz d : ℕ) → Some d ≡ pick (may_ask hz) (Some (nearest_of hz)) None
    → pick (is_d d) (Some (rate_of d)) None ≡ achieved_by hz
rate_achieved hz d near = by_test (may_ask hz) may none
  where
    may : may_ask hz ≡ true → pick (is_d d) (Some (rate_of d)) None ≡ achieved_by hz
    may e =
        let found : d ≡ nearest_of hz = (let z : Some d ≡ Some (nearest_of hz) = rw e at near in cc) in
        rw (found, nearest_d hz e, e)

    none : may_ask hz ≡ false → pick (is_d d) (Some (rate_of d)) None ≡ achieved_by hz
    none e = absurd (let z : Some d ≡ None = rw e at near in cc)

-- a value that a valid box could give fits its field
pub could_fits : (w : Wish) (n : ℕ) → allowed_wish w ≡ true → (awaited w).could n ≡ true → n < 256 ^ (awaited w).width
could_fits AskName n e h = rw (eqb-true n (number name_bytes) h) (lit< tt)
could_fits AskSerial n e h = lt_of_lt_of_le (ltb-true n (256 ^ 8) (and_right (all_serial (bytes 8 n)) (ltb n (256 ^ 8)) h)) (lit≤ tt)
could_fits AskInterface n e h = rw (eqb-true n 105 h) (lit< tt)
could_fits (AskVersion id) n e h =
    rw (eqb-true n (version_number id) h) (version_has (λ id. version_number id < 65536) (lit< tt) (lit< tt) (lit< tt) (lit< tt) id e)
could_fits AskStatus n e h = one_has (λ n. n < 256) n (0x0B ∷ 0x0C ∷ []) (lit< tt, (lit< tt, tt)) h
could_fits (SetState f) n e h =
    state_has (λ f. (awaited (SetState f)).could n ≡ true → n < 256 ^ 4) rests (runs 0x80 (lit< tt)) (runs 0x00 (lit< tt)) f e h
  where
    rests : (m : ℕ) → one_of n idle_shown ≡ true → n < 256 ^ 4
    rests m = one_has (λ n. n < 256 ^ 4) n idle_shown (lit< tt, (lit< tt, tt))

    runs : (m : ℕ) → state_shown 2 m < 256 ^ 4 → eqb n (state_shown 2 m) ≡ true → n < 256 ^ 4
    runs m small is = rw (eqb-true n (state_shown 2 m) is) small
could_fits AskState n e h = one_has (λ n. n < 256 ^ 4) n (idle_shown ++ run_shown) (lit< tt, (lit< tt, (lit< tt, (lit< tt, tt)))) h
could_fits (SetChannelSetup m) n e h = rw (eqb-true n m h) (value_fits (SetChannelSetup m) e)
could_fits AskChannelSetup n e h = one_has (λ n. n < 256) n (0 ∷ 4 ∷ []) (lit< tt, (lit< tt, tt)) h
could_fits (SetFrequency c hz) n e h = rw (eqb-true n hz h) (value_fits (SetFrequency c hz) e)
could_fits (AskFrequency c) n e h = omega (arith, bands_high n h)
could_fits (AskFrequencyRange c) n e h = rw (eqb-true n (number (0x02 ∷ range_bytes bands)) h) (lit< tt)
could_fits (SetGain c g) n e h = rw (eqb-true n (coded 8 g) h) (coded_below 8 g (omega arith) (value_fits (SetGain c g) e).1)
could_fits (AskGain c) n e h = gain_below n h
could_fits (SetClock c hz) n e h = rw (eqb-true n hz h) (value_fits (SetClock c hz) e)
could_fits (AskClock c) n e h = omega (arith, within_high 79_992_000 80_008_000 n h)
could_fits (SetRate c hz) n e h =
    let d = nearest_of hz in rw (eqb-true n (rate_of d) h) (rate_below (rate_of d) (rate_asked d (nearest_d hz e)))
could_fits (AskRate c) n e h = let d = listed_d n h in rate_below n (subst (λ (r : ℕ). may_ask r ≡ true) d.1 (rate_asked (d_of n) d.0))
could_fits (SetPacketSize m) n e h = rw (eqb-true n m h) (value_fits (SetPacketSize m) e)
could_fits AskPacketSize n e h = one_has (λ n. n < 256) n (0 ∷ 1 ∷ []) (lit< tt, (lit< tt, tt)) h

-- so it is read back
pub reply_value : (w : Wish) (n : ℕ) → n < 256 ^ (awaited w).width → number_in w (reply_bytes w n) ≡ n
unfolding reply_bytes
reply_value w n small = value_read (reply_layout w n) small

pub reply_is_reply : (w : Wish) (n : ℕ) → allowed_wish w ≡ true → (awaited w).could n ≡ true → is_reply w (reply_bytes w n) ≡ true
unfolding is_reply
reply_is_reply w n e h = rw (reply_value w n (could_fits w n e h), h) (same_refl (reply_bytes w n))

-- a reply is longer than NAK
pub reply_no_nak : (w : Wish) (n : ℕ) → is_nak (reply_bytes w n) ≡ false
unfolding reply_bytes
reply_no_nak w n = ne_same (reply_bytes w n) nak (λ is. absurd (two (ap length is)))
  where
    two : length (laid (reply_layout w n)) ≡ 2 → ⊥
    two is = omega (arith, length_laid (reply_layout w n), least (reply_layout w n))

pub reply_read : (w : Wish) (n : ℕ) → open_wish w ≡ true → allowed_wish w ≡ true → (awaited w).could n ≡ true
    → reply_says ((awaited w).says n) ≡ reply_reader_says w (reply_bytes w n)
reply_read w n o e h =
    read_reply w (reply_bytes w n) o e (reply_no_nak w n) n (reply_is_reply w n e h) (reply_value w n (could_fits w n e h))

-- and a reply that is accepted is the reply with the value in it
pub is_reply_bytes : (w : Wish) (bs : List ℕ) → is_reply w bs ≡ true
    → ((awaited w).could (number_in w bs) ≡ true) × (bs ≡ reply_bytes w (number_in w bs))
unfolding is_reply
is_reply_bytes w bs e =
    let n = number_in w bs in
    let is : Bool = same bs (reply_bytes w n) in
    (and_left ((awaited w).could n) is e, same_eq bs (reply_bytes w n) (and_right ((awaited w).could n) is e))

-- ---- the reply to the wish for the range

abbrev pub range_number : ℕ
range_number = number (0x02 ∷ range_bytes bands)

module _ (channel : ℕ) where
  abbrev wish : Wish
  wish = AskFrequencyRange channel

  -- it is the range reply to the channel, written into as many bytes as it has
  pub range_written : (k : List ℕ) → k ≡ sets (replicate 36 0) 0 (framed type_range_reply (range_body frequency (channel ∷ [])))
      → k ≡ reply_bytes wish range_number
  unfolding reply_bytes
  range_written k written = written

  -- one reply alone is accepted
  pub range_read : (bs l : List ℕ) → l ≡ reply_bytes wish range_number → is_reply wish bs ≡ same bs l
  range_read bs l is = same_test (is_reply wish bs) bs l to from
    where
      to : is_reply wish bs ≡ true → bs ≡ l
      to e =
          let parts = is_reply_bytes wish bs e in
          let n : number_in wish bs ≡ range_number = eqb-true (number_in wish bs) range_number parts.0 in
          parts.1 ∙ ap (reply_bytes wish) n ∙ sym is

      from : bs ≡ l → is_reply wish bs ≡ true
      from so = rw (so ∙ is) (reply_is_reply wish range_number refl (eq-eqb range_number range_number refl))

-- ---- the code of a wish that the writer does not refuse

pub code_is : (w : Wish) (bs : List ℕ) → open_wish w ≡ true → allowed_wish w ≡ true → reply_code w bs ≡ pick (is_nak bs || is_reply w bs) 1 28
unfolding reply_code
code_is w bs o e = rw (o, e) (by (is_nak bs || is_reply w bs))
  where
    by : (t : Bool) → ◌≡◌ {A = ℕ} (pick (not t) 28 1) (pick t 1 28)
    by true = refl
    by false = refl

pub accepted_code : (w : Wish) (bs : List ℕ) → open_wish w ≡ true → allowed_wish w ≡ true
    → is_nak bs || is_reply w bs ≡ true → reply_code w bs ≡ 1
accepted_code w bs o e h = code_is w bs o e ∙ rw h

pub code_accepted : (w : Wish) (bs : List ℕ) → open_wish w ≡ true → allowed_wish w ≡ true
    → reply_code w bs ≡ 1 → is_nak bs || is_reply w bs ≡ true
code_accepted w bs o e h = go (is_nak bs || is_reply w bs) refl
  where
    go : (t : Bool) → is_nak bs || is_reply w bs ≡ t → t ≡ true
    go true q = refl
    go false q =
        let wrong : ◌≡◌ {A = ℕ} 28 1 = sym (code_is w bs o e ∙ rw q) ∙ h in
        absurd (eqb-false 28 1 refl wrong)
