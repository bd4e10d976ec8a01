-- A reply of a valid box has at most 64 bytes, whatever the message.
-- Assumes nothing.
use Prim.Native.Nat.{ℕ, zero, suc, ◌≤◌}
use native.Mathlib.Nat.{le_refl}
use native.Mathlib.Omega.{arith}
use mathlib.Core.Path.{◌≡◌}
use mathlib.Core.Bool.{Bool, true, false}
use mathlib.Core.List.{List, [], ◌∷◌, ◌++◌}
use lib.Dec.{eqb, lit≤}
use lib.ListN.{length, get_or, take, length-append, length-take}
use Rattle.wire.specs.Choice.{pick}
use Rattle.wire.specs.Header.{nak, type_range, type_reply, type_range_reply}
use Rattle.items.specs.declared.Settings.{Settings}
use Rattle.items.specs.Settings.{in_range}
use Rattle.items.specs.Items.{echoes, Item, items, row_of, version_table}
use Rattle.items.specs.Answer.{Message, item_in, code_of, settings_after, row, parameters, reply_body, range_body, framed, reply_to, reply_due}
use Rattle.items.specs.Answer.{reply_of}
use Rattle.items.proofs.Judging.{reply_by_code}
use Rattle.items.proofs.Rows.{all_have, ◌then◌, found}
use Rattle.station.proofs.Kept.{serial_long, message_keeps}

-- an item's value and what it echoes are short
abbrev Small : Item → Type 0
Small i = (echoes i.echoed ≤ 1) × ((s : Settings) (p : List ℕ) → length s.serial ≡ 8 → length (i.rule.value s p) ≤ 9)

version_small : (k : ℕ) → length (get_or version_table k []) ≤ 9
version_small zero = lit≤ tt
version_small (suc zero) = lit≤ tt
version_small (suc (suc zero)) = lit≤ tt
version_small (suc (suc (suc zero))) = lit≤ tt
version_small (suc (suc (suc (suc k)))) = lit≤ tt

serial_small : (s : Settings) → length s.serial ≡ 8 → length (s.serial ++ 0x00 ∷ []) ≤ 9
serial_small s h = simp length-append (omega arith)

all_small : all_have Small items
all_small =
    (lit≤ tt, λ s p l. lit≤ tt)
    then (lit≤ tt, λ s p l. serial_small s l)
    then (lit≤ tt, λ s p l. lit≤ tt)
    then (lit≤ tt, λ s p l. version_small (get_or p 0 0))
    then (lit≤ tt, λ s p l. lit≤ tt)
    then (lit≤ tt, λ s p l. lit≤ tt)
    then (lit≤ tt, λ s p l. lit≤ tt)
    then (lit≤ tt, λ s p l. lit≤ tt)
    then (lit≤ tt, λ s p l. lit≤ tt)
    then (lit≤ tt, λ s p l. lit≤ tt)
    then (lit≤ tt, λ s p l. lit≤ tt)
    then (lit≤ tt, λ s p l. lit≤ tt)
    then tt

row_small : (code : ℕ) → Small (row_of code)
row_small code = found Small (lit≤ tt, λ s p l. lit≤ tt) all_small code

echo_small : (n : ℕ) (p : List ℕ) → n ≤ 1 → length (take n p) ≤ 1
echo_small n p h = rw length-take (omega arith)

reply_small : (i : Item) (kind : ℕ) (s : Settings) (p : List ℕ) → Small i → length s.serial ≡ 8 → length (reply_to i kind s p) ≤ 64
reply_small i kind s p h l = go (eqb kind type_range)
  where
    go : (b : Bool) → length (pick b (framed type_range_reply (range_body i p)) (framed type_reply (reply_body i s p))) ≤ 64
    go true = simp length-append (omega (arith, echo_small 1 p (le_refl 1)))
    go false = simp length-append (omega (arith, echo_small (echoes i.echoed) p h.0, h.1 s p l))

pub reply_short : (s : Settings) (m : Message) → in_range s ≡ true → length (reply_of s m) ≤ 64
reply_short s m h = rw (reply_by_code s m) (go (eqb (code_of s m) 1) (eqb (code_of s m) 2))
  where
    go : (a b : Bool) → length (pick a (reply_due s m) (pick b [] nak)) ≤ 64
    go true b =
        reply_small (row m) m.type (settings_after s m) (parameters m) (row_small (item_in m))
        (serial_long (settings_after s m) (message_keeps s m h))
    go false true = lit≤ tt
    go false false = lit≤ tt
