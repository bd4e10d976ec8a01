-- A message's header: when it is settled, which two bytes make it, and when the message that it announces is finished.
use Prim.Native.Nat.{ℕ, ◌+◌, ◌*◌, ◌≤◌, ◌<◌}
use mathlib.Core.Path.{◌≡◌, refl, sym, ap, ◌∙◌}
use mathlib.Core.Bool.{false, and-false}
use mathlib.Core.List.{List, [], ◌∷◌}
use native.Mathlib.Nat.{le_refl}
use native.Mathlib.Omega.{arith}
use borrow.Author.Tests.{le-leb, lt-leb, leb-false, le-ltb, lt-ltb}
use lib.Dec.{leb}
use lib.ListN.{length, get_or, take, drop, take-append-drop}
use lib.Seq.{sets}
use Rattle.wire.proofs.Stores.{take_sets, sets_append}
use Rattle.wire.specs.Number.{number}
use Rattle.framing.specs.declared.Store.{Store}
use Rattle.framing.specs.Framing.{announced_by, header_in, announced, finished}
use Rattle.framing.specs.Inside.{total_ahead}

-- nothing is finished before both bytes of the header are taken, nor before what they announce
pub headless : (s : Store) → s.taken < 2 → finished s ≡ false
headless s h = simp (lt-leb 2 s.taken h)

pub short_of : (s : Store) → s.taken < announced s.held → finished s ≡ false
short_of s h = simp (lt-leb (announced s.held) s.taken h, and-false)

pub by_total_lem : (s : Store) (total : ℕ) → 2 ≤ s.taken → announced s.held ≡ total → finished s ≡ leb total s.taken
by_total_lem s total two e = rw (le-leb 2 s.taken two, e) refl

pub open_total : (s : Store) → 2 ≤ s.taken → finished s ≡ false → s.taken < announced s.held
open_total s two f = leb-false (announced s.held) s.taken (sym (by_total_lem s (announced s.held) two refl) ∙ f)

-- the header is settled by its two bytes
pub header_kept : (l : List ℕ) (i : ℕ) (vs : List ℕ) → 2 ≤ i → header_in (sets l i vs) ≡ header_in l
header_kept l i vs h = ap number (take_sets 2 l i vs h)

-- the header as all of the host's bytes leave it is the one that any part of them leaves, once both its bytes are there
pub header_settled : (s : Store) (host : List ℕ) (j : ℕ) → 2 ≤ s.taken + length (take j host)
    → header_in (sets s.held s.taken (take j host)) ≡ header_in (sets s.held s.taken host)
header_settled s host j two =
    sym (header_kept (sets s.held s.taken (take j host)) (s.taken + length (take j host)) (drop j host) two)
    ∙ ap header_in (sets_append s.held s.taken (take j host) (drop j host))
    ∙ ap (λ (l : List ℕ). header_in (sets s.held s.taken l)) (take-append-drop j host)

-- the two bytes that make the header: both of the host's, one of each, or both held
pub header_held : (held : List ℕ) → 2 ≤ length held → header_in held ≡ get_or held 0 0 + 256 * get_or held 1 0
header_held [] l = absurd (omega arith)
header_held (x ∷ []) l = absurd (omega arith)
header_held (x ∷ y ∷ held) l = omega arith

pub header_sent : (held host : List ℕ) → 2 ≤ length held → 2 ≤ length host
    → header_in (sets held 0 host) ≡ get_or host 0 0 + 256 * get_or host 1 0
header_sent [] host l m = absurd (omega arith)
header_sent (x ∷ []) host l m = absurd (omega arith)
header_sent (x ∷ y ∷ held) [] l m = absurd (omega arith)
header_sent (x ∷ y ∷ held) (a ∷ []) l m = absurd (omega arith)
header_sent (x ∷ y ∷ held) (a ∷ b ∷ host) l m = header_kept (a ∷ b ∷ held) 2 host (le_refl 2) ∙ header_held (a ∷ b ∷ held) l

pub header_half : (held host : List ℕ) → 2 ≤ length held → 1 ≤ length host
    → header_in (sets held 1 host) ≡ get_or held 0 0 + 256 * get_or host 0 0
header_half [] host l m = absurd (omega arith)
header_half (x ∷ []) host l m = absurd (omega arith)
header_half (x ∷ y ∷ held) [] l m = absurd (omega arith)
header_half (x ∷ y ∷ held) (a ∷ host) l m = header_kept (x ∷ a ∷ held) 2 host (le_refl 2) ∙ header_held (x ∷ a ∷ held) l

-- the total that one call can know beforehand
pub ahead_bare : (held host : List ℕ) (had : ℕ) → had + length host < 2 → total_ahead held had host ≡ 2
unfolding total_ahead
ahead_bare held host had h = rw (lt-ltb (had + length host) 2 h) refl

pub ahead_known : (held host : List ℕ) (had : ℕ) → 2 ≤ had + length host → total_ahead held had host ≡ announced (sets held had host)
unfolding total_ahead
ahead_known held host had two = rw (le-ltb (had + length host) 2 two) refl

pub ahead_sent : (held host : List ℕ) (had h : ℕ) → had ≡ 0 → 2 ≤ length held → 2 ≤ length host
    → h ≡ get_or host 0 0 + 256 * get_or host 1 0 → announced_by h ≡ total_ahead held had host
ahead_sent held host had h none l m e = rw (none, ahead_known held host 0 (omega arith), header_sent held host l m, e) refl

pub ahead_half : (held host : List ℕ) (had h : ℕ) → had ≡ 1 → 2 ≤ length held → 1 ≤ length host
    → h ≡ get_or held 0 0 + 256 * get_or host 0 0 → announced_by h ≡ total_ahead held had host
ahead_half held host had h one l m e = rw (one, ahead_known held host 1 (omega arith), header_half held host l m, e) refl

pub ahead_held : (held host : List ℕ) (had h : ℕ) → 2 ≤ had → 2 ≤ length held
    → h ≡ get_or held 0 0 + 256 * get_or held 1 0 → announced_by h ≡ total_ahead held had host
ahead_held held host had h two l e =
    rw (ahead_known held host had (omega arith), header_kept held had host two, header_held held l, e) refl
