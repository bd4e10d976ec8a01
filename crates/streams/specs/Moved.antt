-- What reads answer.
use Rattle.std.specs.Prelude.{◌≡◌, ℕ, ◌≤◌, List, length, take, Result, IfOk}

-- what a read that is lent n bytes may answer: that it failed, or how many bytes it moved, at most n
abbrev pub Moved : {E : Type 0} → ℕ → Result ℕ E → Type 0
Moved n got = IfOk got (λ k. k ≤ n)

-- `&xs[..n]` is in bounds and has n bytes. The second part follows from the first, and spares a caller's `&buf[..n]` a proof file.
abbrev pub IsPrefixLen : ℕ → List ℕ → Type 0
IsPrefixLen n xs = (n ≤ length xs) × (n ≡ length (take n xs))
