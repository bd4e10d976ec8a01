-- Run byte and mode are shifted to their places and share no bit, so that the `|` is their sum.
use Prim.Native.Nat.{ℕ, ◌+◌, ◌*◌, ◌%◌, ◌^◌, ◌<◌}
use mathlib.Core.Path.{◌≡◌, ◌∙◌}
use native.Mathlib.Omega.{arith}
use borrow.Author.Rules.{rules}
use lib.Dec.{lit<}
use lib.Bits.{bit_or, or_shifted}
use Rattle.wire.specs.Number.{number}
use Rattle.items.specs.Items.{state_bytes}
use Rattle.items.proofs.values.state_number.Statement.{statement}
use Rattle.items.proofs.values.state_number.Tie as tie

joined : (run mode : ℕ) → run < 256 → mode < 256
    → bit_or (bit_or (mode * 65536 % 2 ^ 64) (run * 256 % 2 ^ 64)) 0x80 ≡ number (state_bytes run mode)
joined run mode r m =
    let third : mode * 65536 % 2 ^ 64 ≡ mode * 65536 = omega arith in
    let second : run * 256 % 2 ^ 64 ≡ run * 256 = omega arith in
    let both : mode * 65536 + run * 256 ≡ (mode * 256 + run) * 256 = omega arith in
    let above = or_shifted mode 16 (run * 256) (omega arith) ∙ both in
    rw (third, second, above) (or_shifted (mode * 256 + run) 8 0x80 (lit< tt) ∙ omega arith)

cast-result : tie.Need-overflow_cast-result-3
cast-result c = search rules

returns : tie.Need-returns
returns c = joined c.args.run c.args.mode c.ranges.run.fits c.ranges.mode.fits

pub state_number_spec : {M : Type 1} → statement M
state_number_spec = tie.close (tie.spec cast-result returns)
