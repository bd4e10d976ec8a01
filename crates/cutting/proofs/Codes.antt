-- Each code of cutting on its condition, the earlier ones absent; and what a code comes to.
-- Assumes nothing.
use Prim.Native.Nat.{ℕ, ◌*◌, ◌≤◌, ◌<◌}
use mathlib.Core.Path.{◌≡◌, refl, sym, ◌∙◌}
use mathlib.Core.Bool.{Bool, true, false, ◌&&◌, and-true}
use mathlib.Core.List.{List}
use native.Mathlib.Omega.{arith}
use lib.Dec.{leb, ltb}
use lib.IntN.{ℤ}
use lib.ListN.{length}
use borrow.Author.Tests.{le-leb, leb-false, lt-leb, lt-ltb, le-ltb, eq-eqb, ne_eqb}
use Rattle.wire.specs.Choice.{pick}
use Rattle.packets.specs.Forms.{total_of}
use Rattle.packets.specs.Numbers.{most}
use Rattle.packets.specs.Samples.{all_samples}
use Rattle.station.specs.declared.Station.{Station}
use Rattle.station.specs.Station.{valid}
use Rattle.cutting.specs.Cutting.{form_now, cut_code, cutting_of, cut_from, refused}

-- "Cutting 21, 22, 25, 23, 24, 20.": each code where the earlier ones do not hold
module _ (s : Station) (samples : List ℤ) (room : ℕ) where
  pub code_21 : valid s ≡ false → cut_code s samples room ≡ 21
  unfolding cut_code
  code_21 v = rw v

  module _ (v : valid s ≡ true) where
    pub code_22 : s.settings.running ≡ false → cut_code s samples room ≡ 22
    unfolding cut_code
    code_22 r = rw (v, r)

    module _ (r : s.settings.running ≡ true) where
      pub code_25 : most ≤ s.settings.count → cut_code s samples room ≡ 25
      unfolding cut_code
      code_25 m = rw (v, r, le-leb most s.settings.count m)

      module _ (m : s.settings.count < most) where
        pub code_23 : (length samples ≡ 2 * (form_now s.settings).pairs → ⊥) → cut_code s samples room ≡ 23
        unfolding cut_code
        code_23 n = rw (v, r, lt-leb most s.settings.count m, ne_eqb (length samples) (2 * (form_now s.settings).pairs) n)

        module _ (n : length samples ≡ 2 * (form_now s.settings).pairs) where
          pub code_24 : all_samples samples ≡ false → cut_code s samples room ≡ 24
          unfolding cut_code
          code_24 a = rw (v, r, lt-leb most s.settings.count m, eq-eqb (length samples) (2 * (form_now s.settings).pairs) n, a)

          -- all is looked at but the room
          code_room : {short : Bool} → all_samples samples ≡ true → ltb room (total_of (form_now s.settings)) ≡ short
              → cut_code s samples room ≡ pick short 20 1
          unfolding cut_code
          code_room a h = rw (v, r, lt-leb most s.settings.count m, eq-eqb (length samples) (2 * (form_now s.settings).pairs) n, a, h)

          pub code_20 : all_samples samples ≡ true → room < total_of (form_now s.settings) → cut_code s samples room ≡ 20
          code_20 a h = code_room a (lt-ltb room (total_of (form_now s.settings)) h)

          pub code_1 : all_samples samples ≡ true → total_of (form_now s.settings) ≤ room → cut_code s samples room ≡ 1
          code_1 a h = code_room a (le-ltb room (total_of (form_now s.settings)) h)

-- what a code comes to
module _ (s : Station) (samples : List ℤ) (room : ℕ) where
  pub refuses : (code : ℕ) → cut_code s samples room ≡ code → (code ≡ 1 → ⊥) → refused code s ≡ cutting_of s samples room
  unfolding cutting_of
  refuses code e n = rw (e, ne_eqb code 1 n)

  pub cuts : cut_code s samples room ≡ 1 → cut_from s samples ≡ cutting_of s samples room
  unfolding cutting_of
  cuts e = rw e

  -- Nothing was packed, since there is no room or a sample lies outside 24 bits: 24 where one does, else 20.
  pub refuses_unpacked : valid s ≡ true → s.settings.running ≡ true → s.settings.count < most
      → length samples ≡ 2 * (form_now s.settings).pairs
      → (leb (total_of (form_now s.settings)) room && all_samples samples) ≡ false
      → refused (pick (all_samples samples) 20 24) s ≡ cutting_of s samples room
  refuses_unpacked v r m n h = go (all_samples samples) refl
    where
      total : ℕ
      total = total_of (form_now s.settings)

      go : (b : Bool) → all_samples samples ≡ b → refused (pick b 20 24) s ≡ cutting_of s samples room
      go true a =
          let short : room < total = leb-false total room (sym (and-true (leb total room)) ∙ (rw a at h)) in
          refuses 20 (code_20 s samples room v r m n a short) (λ e. omega arith)
      go false a = refuses 24 (code_24 s samples room v r m n a) (λ e. omega arith)
