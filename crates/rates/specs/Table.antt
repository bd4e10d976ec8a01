-- The achieved rates by the rule: the rate of each D from 10 to 625, in turn. The table that is kept has them written out
-- (Entries).
use Rattle.std.specs.Prelude.{ℕ, zero, suc, ◌+◌, List, [], ◌∷◌, eqb}
use Rattle.wire.specs.Choice.{pick}
use Rattle.rates.specs.Rate.{rate_of}

-- the achieved rates of n whole D, from d on
abbrev pub rates_from : ℕ → ℕ → List ℕ
rates_from d zero = []
rates_from d (suc n) = rate_of d ∷ rates_from (d + 1) n

unfoldable pub rates : List ℕ
rates = rates_from 10 616

-- the D of the first entry that is the rate, where the entries start at a D; 0 where none is
abbrev pub d_in : List ℕ → ℕ → ℕ → ℕ
d_in [] d rate = 0
d_in (entry ∷ entries) d rate = pick (eqb entry rate) d (d_in entries (d + 1) rate)

-- the D whose achieved rate is exactly this rate, 0 where there is none
unfoldable pub d_of : ℕ → ℕ
d_of rate = d_in rates 10 rate
