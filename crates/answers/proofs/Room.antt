-- What is due is written whole where there is room, and not at all where there is none.
use Prim.Native.Nat.{ℕ, ◌≤◌, ◌<◌}
use mathlib.Core.Path.{◌≡◌, refl, sym, ap, subst, ◌∙◌}
use mathlib.Core.List.{List, [], ◌∷◌}
use lib.Dec.{ltb}
use lib.ListN.{length}
use lib.Seq.{sets}
use borrow.Author.Tests.{le-ltb, lt-ltb, ne_eqb}
use Rattle.std.specs.Prelude.{Option, Some, None}
use Rattle.wire.specs.Choice.{pick}
use Rattle.layouts.specs.declared.Layout.{Layout}
use Rattle.layouts.specs.Layouts.{size_of, laid}
use Rattle.layouts.proofs.Sizes.{length_laid}
use Rattle.wire.specs.Header.{type_reply}
use Rattle.items.specs.declared.Settings.{Settings}
use Rattle.items.specs.Items.{row_of}
use Rattle.items.specs.Answer.{framed, reply_body}
use Rattle.answers.specs.Inside.{count_in, bytes_in, due}

module _ (l due : List ℕ) where
  -- what is promised of a count that is returned and of the slice as it is left
  abbrev pub Wrote : Option ℕ → List ℕ → Type 0
  Wrote r k = (r ≡ count_in (length l) due) × (k ≡ sets l 0 (bytes_in (length l) due))

  pub no_room_lem : length l < length due → Wrote None l
  no_room_lem h =
      let s = lt-ltb (length l) (length due) h in
      (rw s refl, rw s refl)

  pub room : (k : List ℕ) → length due ≤ length l → k ≡ sets l 0 due → Wrote (Some (length due)) k
  room k h so =
      let s = le-ltb (length l) (length due) h in
      (rw s refl, rw s so)

  -- a message that is laid out so
  pub message_put : (a : Layout) (r : Option ℕ) (k : List ℕ) → laid a ≡ due
      → (r ≡ pick (ltb (length l) (size_of a)) None (Some (size_of a))) × (k ≡ sets l 0 (pick (ltb (length l) (size_of a)) [] (laid a))) → Wrote r k
  message_put a r k is put =
      subst (λ (d : List ℕ). (r ≡ count_in (length l) d) × (k ≡ sets l 0 (bytes_in (length l) d))) is (
        put.0 ∙ ap (λ (n : ℕ). pick (ltb (length l) n) None (Some n)) (sym (length_laid a)),
        put.1 ∙ ap (λ (n : ℕ). sets l 0 (pick (ltb (length l) n) [] (laid a))) (sym (length_laid a)),
      )

-- what is due for an accepted message that asks for no range
pub due_reply : (code kind item echo : ℕ) (s : Settings) → code ≡ 1 → (kind ≡ 2 → ⊥)
    → framed type_reply (reply_body (row_of item) s (echo ∷ [])) ≡ due code kind item echo s
due_reply code kind item echo s done plain = rw (done, ne_eqb kind 2 plain) refl

-- the same said of what is due in other words
pub wrote_as : (l : List ℕ) {due also : List ℕ} {r : Option ℕ} {k : List ℕ} → also ≡ due → Wrote l also r k → Wrote l due r k
wrote_as l {due} {also} {r} {k} is w = subst (λ (d : List ℕ). Wrote l d r k) is w
