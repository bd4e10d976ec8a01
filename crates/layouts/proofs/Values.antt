-- The value of a message stands past header, item code and the byte that is echoed, and is read back from there.
use Prim.Native.Nat.{ℕ, ◌+◌, ◌^◌, ◌≤◌, ◌<◌}
use native.Mathlib.Nat.{le_refl}
use mathlib.Core.Path.{◌≡◌, refl, ap, ◌∙◌}
use mathlib.Core.List.{List, ◌++◌}
use lib.ListN.{length, take, drop}
use lib.Seq.{take_all}
use Rattle.wire.specs.Number.{number, bytes, field}
use Rattle.wire.specs.Header.{header_of}
use Rattle.wire.proofs.Numbers.{length_bytes, number_bytes}
use Rattle.layouts.specs.declared.Layout.{Layout}
use Rattle.std.specs.Prelude.{Option, Some, None}
use Rattle.layouts.specs.Layouts.{echo_bytes, size_of, laid, value_place}

value_last : (a : Layout) → drop (value_place a) (laid a) ≡ bytes a.width a.value
value_last a = go a.echo
  where
    go : (e : Option ℕ)
        → drop (4 + length (echo_bytes e))
        (bytes 2 (header_of a.kind (size_of a)) ++ bytes 2 a.item ++ echo_bytes e ++ bytes a.width a.value) ≡ bytes a.width a.value
    go (Some byte) = refl
    go None = refl

pub value_read : (a : Layout) → a.value < 256 ^ a.width → field (value_place a) a.width (laid a) ≡ a.value
value_read a small =
    let room : length (bytes a.width a.value) ≤ a.width = rw (length_bytes a.width a.value) (le_refl a.width) in
    ap (λ (l : List ℕ). number (take a.width l)) (value_last a)
    ∙ ap number (take_all a.width (bytes a.width a.value) room)
    ∙ number_bytes a.width a.value small
