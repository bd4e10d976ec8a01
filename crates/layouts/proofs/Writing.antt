-- A message that fits is written whole.
use Prim.Native.Nat.{ℕ, ◌≤◌}
use mathlib.Core.Path.{◌≡◌, sym, ap, ◌∙◌}
use mathlib.Core.Bool.{false}
use mathlib.Core.List.{List, []}
use lib.Dec.{ltb}
use lib.ListN.{length}
use lib.Seq.{sets}
use borrow.Author.Tests.{le-ltb}
use Rattle.std.specs.Prelude.{Option, Some, None}
use Rattle.wire.specs.Choice.{pick}
use Rattle.layouts.specs.declared.Layout.{Layout}
use Rattle.layouts.specs.Layouts.{size_of, laid}
use Rattle.layouts.proofs.Sizes.{length_laid}

module _ (l : List ℕ) (a : Layout) where
  -- its length is told
  pub written_whole : (r : Option ℕ) (k : List ℕ) → size_of a ≤ length l
      → (r ≡ pick (ltb (length l) (size_of a)) None (Some (size_of a)))
      × (k ≡ sets l 0 (pick (ltb (length l) (size_of a)) [] (laid a)))
      → (r ≡ Some (length (laid a))) × (k ≡ sets l 0 (laid a))
  written_whole r k fits put =
      let s : ltb (length l) (size_of a) ≡ false = le-ltb (length l) (size_of a) fits in
      ((rw s at put.0) ∙ ap Some (sym (length_laid a)), rw s at put.1)
