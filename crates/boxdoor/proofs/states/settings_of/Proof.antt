-- `boxdoor::states::settings_of` meets its contract: each number is a field of the bytes; the serial's eight fill its array.
use Prim.Native.Nat.{ℕ, ◌+◌, ◌≤◌, ◌<◌, ◌^◌}
use lib.ListN.{length, get_or, take}
use lib.Seq.{length-take-le, get_or-take}
use Rattle.wire.specs.Number.{field}
use Rattle.wire.proofs.Numbers.{field_below, field_front}
use mathlib.Core.Path.{◌≡◌, refl, sym, ◌∙◌}
use mathlib.Core.List.{List}
use native.Mathlib.Omega.{arith}
use Rattle.boxdoor.specs.States.{common_from, held_from, channel_in}
use Rattle.boxdoor.proofs.Fields.{settings_read}
use Rattle.boxdoor.proofs.Parts.{filled}
use borrow.Author.Rules.{rules}
use Rattle.boxdoor.proofs.states.settings_of.Statement.{statement}
use Rattle.boxdoor.proofs.states.settings_of.Tie as tie

-- what is lent is bytes
are_bytes_lem : (c : tie.After-shared_slice_known-1) (k : ℕ) → get_or c.args.b.now k 0 < 256
are_bytes_lem c k = omega (arith, c.shared_slice_known-1.given k)

below : (c : tie.After-shared_slice_known-1) (at n : ℕ) → field at n c.args.b.now < 256 ^ n
below c at n = field_below at n _ (are_bytes_lem c)

-- the bytes, from where the front of them is taken; of the front each field is one of theirs
abbrev known : tie.After-serial-2-1 → tie.After-shared_slice_known-1
known c = c.before.before.before.before

abbrev bytes : tie.After-serial-2-1 → List ℕ
bytes c = (known c).args.b.now

front_long : (c : tie.After-serial-2-1) → length (take held_from (bytes c)) ≡ held_from
front_long c = length-take-le held_from (bytes c) (omega (arith, (known c).requires))

in_front : (c : tie.After-serial-2-1) (at n : ℕ) → at + n ≤ held_from → field at n (take held_from (bytes c)) ≡ field at n (bytes c)
in_front c at n inside = field_front at n held_from (bytes c) inside

channel_front : (at : ℕ) (l : List ℕ) → at + 13 ≤ held_from → channel_in at (take held_from l) ≡ channel_in at l
channel_front at l inside =
    rw (
      field_front at 8 held_from l (omega arith),
      field_front (at + 8) 4 held_from l (omega arith),
      get_or-take held_from l (at + 12) 0 (omega arith),
    ) refl

sub-copy : tie.Need-slice_bounds-copy-count
sub-copy c = search rules

part-copy-start : tie.Need-slice_bounds-copy-start
part-copy-start c = search rules

part-copy-end : tie.Need-slice_bounds-copy-end
part-copy-end c = search rules

slice-aggregate-copy : tie.Need-slice_bounds-copy-end-2
slice-aggregate-copy c = search rules

copy-requires : tie.Need-copy-requires
copy-requires c κs = search rules

slice-aggregate-front : tie.Need-slice_bounds-front-end
slice-aggregate-front c = sym (front_long c)

channel-at-requires : tie.Need-channel_at-requires
channel-at-requires c κs = omega (arith, front_long c)

channel-at-requires-2 : tie.Need-channel_at-requires-2
channel-at-requires-2 c κs = omega (arith, front_long c.before)

number-at-requires : tie.Need-number_at-requires
number-at-requires c κs = search rules

number-at-requires-2 : tie.Need-number_at-requires-2
number-at-requires-2 c κs = search rules

cast-t16 : tie.Need-overflow_cast-result
cast-t16 c =
    let f = c in
    omega (arith, c.number_at-2.ensures, in_front f.before.before.before.before 34 4 (omega arith), below (known f.before.before.before.before) 34 4)

number-at-requires-3 : tie.Need-number_at-requires-3
number-at-requires-3 c κs = search rules

cast-t18 : tie.Need-overflow_cast-result-2
cast-t18 c =
    let f = c in
    omega (arith, c.number_at-3.ensures, in_front f.before.before.before.before.before 38 4 (omega arith), below (known f.before.before.before.before.before) 38 4)

shared-slice-read-t20 : tie.Need-bounds-b-44
shared-slice-read-t20 c = search rules

cast-t21 : tie.Need-overflow_cast-result-3
cast-t21 c = omega (arith, are_bytes_lem (known c.before.before.before.before.before.before) 44)

shared-slice-read-t23 : tie.Need-bounds-b-45
shared-slice-read-t23 c = search rules

cast-t24 : tie.Need-overflow_cast-result-4
cast-t24 c = omega (arith, are_bytes_lem (known c.before.before.before.before.before.before.before) 45)

shared-slice-read-t26 : tie.Need-bounds-b-42
shared-slice-read-t26 c = search rules

shared-slice-read-t29 : tie.Need-bounds-b-43
shared-slice-read-t29 c = search rules

returns : tie.Need-returns
returns c =
    let divisor = c in
    let clock = divisor in
    let count = clock in
    let second = count in
    let first = second in
    let front = first in
    let serial = front in
    let b = bytes front.before.before.before.before.before.before.before.before.before in
    settings_read b (first.channel_at.ensures ∙ channel_front 0 b (omega arith))
    (second.channel_at-2.ensures ∙ channel_front 13 b (omega arith))
    (count.number_at.ensures ∙ in_front front.before.before.before.before.before.before.before.before.before common_from 8 (omega arith))
    (clock.number_at-2.ensures ∙ in_front front.before.before.before.before.before.before.before.before.before 34 4 (omega arith))
    (divisor.number_at-3.ensures ∙ in_front front.before.before.before.before.before.before.before.before.before 38 4 (omega arith))
    (filled 46 8 b _ refl (omega (arith, (known front.before.before.before.before.before.before.before.before.before).requires)) serial.copy.ensures)

pub settings_of_spec : {M : Type 1} → statement M
settings_of_spec =
    tie.close
    (tie.spec
    sub-copy
    part-copy-start
    part-copy-end
    slice-aggregate-copy
    copy-requires
    slice-aggregate-front
    channel-at-requires
    channel-at-requires-2
    number-at-requires
    number-at-requires-2
    cast-t16
    number-at-requires-3
    cast-t18
    shared-slice-read-t20
    cast-t21
    shared-slice-read-t23
    cast-t24
    shared-slice-read-t26
    shared-slice-read-t29
    returns)
