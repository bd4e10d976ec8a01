-- Mode bytes and lengths of heads.
use Prim.Native.Nat.{ℕ}
use mathlib.Core.Path.{◌≡◌, refl, sym, ap, ◌∙◌}
use mathlib.Core.Bool.{Bool, true, false, ◌&&◌}
use mathlib.Core.List.{List, [], ◌∷◌}
use lib.Dec.{eqb}
use lib.ListN.{length}
use Rattle.wire.specs.Choice.{pick, one_of}
use Rattle.items.specs.Settings.{is_mode, is_setup, dual, open_channels}
use Rattle.heads.specs.Head.{mode_with, is_head_version, head_length}
use Rattle.heads.proofs.Rounds.{bytes_long}
use Rattle.airdoor.specs.Heading.{head_mode_over, head_length_over, AsInTheRows, LongAsWritten}

-- two channels are open where 02 is, and else one
pub open_by : (setup : ℕ) {second : Bool} → one_of 0x02 (open_channels setup) ≡ second → length (open_channels setup) ≡ pick second 2 1
open_by setup = by (eqb setup dual)
  where
    are : Bool → List ℕ
    are both = pick both (0x00 ∷ 0x02 ∷ []) (0x00 ∷ [])

    by : (both : Bool) {second : Bool} → one_of 0x02 (are both) ≡ second → length (are both) ≡ pick second 2 1
    by true e = ap (λ (b : Bool). pick b 2 1) e
    by false e = ap (λ (b : Bool). pick b 2 1) e

-- what is answered, by whether mode and setup are allowed
pub head_mode_by : (mode setup : ℕ) {allowed : Bool} → (is_mode mode && is_setup setup) ≡ allowed
    → head_mode_over mode setup
    ≡ pick allowed (record { code = 1; byte = mode_with mode (length (open_channels setup)) }) (record { code = 16; byte = 0 })
unfolding head_mode_over
head_mode_by mode setup is = rw is

-- and of a length, by whether there is the version
pub length_by : (version : ℕ) {known : Bool} → is_head_version version ≡ known → head_length_over version ≡ pick known (head_length version) 0
length_by version is = rw is

pub as_in_the_rows : AsInTheRows
unfolding head_mode_over
as_in_the_rows = (refl, (refl, (refl, (refl, tt))))

pub long_as_written : LongAsWritten
long_as_written h known = length_by h.version known ∙ sym (bytes_long h known)
