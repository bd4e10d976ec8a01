-- The reply of a call, as it stands in an array of 64 bytes.
-- Assumes nothing.
use Prim.Native.Nat.{ℕ, ◌≤◌}
use native.Mathlib.Omega.{arith}
use mathlib.Core.Path.{◌≡◌, refl, ap, ◌∙◌}
use mathlib.Core.List.{List}
use lib.ListN.{length, take}
use lib.Seq.{sets, sets-eq, length-sets, take-append_seam}
use Rattle.station.specs.declared.Station.{Station}
use Rattle.items.specs.declared.Settings.{Settings}
use Rattle.station.specs.declared.Parts.{Parts}
use Rattle.station.specs.declared.Fed as Made
use Rattle.station.specs.Station.{box_of}
use Rattle.station.specs.Feeding.{Fed, FedHeld, held_says, parts_of}
use Rattle.std.specs.Prelude.{Ok}
use Rattle.session.specs.Session.{fed_with}
use Rattle.station.specs.Feeding.{feeding_of}
use Rattle.station.proofs.Calls.{feeding_within}

-- what a call leaves in an array of 64 bytes: the reply stands in as many as it says
pub record Reply (s : Station) (host : List ℕ) (r : Fed) (array : List ℕ) : Type 0 where
  pub inside : r.wrote ≤ length array
  pub bytes : take r.wrote array ≡ (feeding_of s host 64).bytes

pub reply_is : (s : Station) (host l array : List ℕ) (r : Fed) → length l ≡ 64 → r ≡ (feeding_of s host 64).fed
    → array ≡ sets l 0 (feeding_of s host 64).bytes → Reply s host r array
reply_is s host l array r long told wrote =
    let f = feeding_within s host 64 in
    let same : r.wrote ≡ length (feeding_of s host 64).bytes = ap (λ (k : Fed). k.wrote) told ∙ f.wrote in
    rw (same, wrote)
    (record {
      inside = rw length-sets (omega (arith, f.fits));
      bytes = rw (sets-eq (feeding_of s host 64).bytes l 0 (omega (arith, f.fits))) (take-append_seam (feeding_of s host 64).bytes _);
    })

same_box : {a b c t a' b' c' t' : ℕ} {s s' : Settings} {h h' : List ℕ} → a ≡ a' → b ≡ b' → c ≡ c' → t ≡ t' → s ≡ s' → h ≡ h'
    → ◌≡◌ {A = Fed} (record { code = a; consumed = b; wrote = c; station = box_of s h t })
    (record { code = a'; consumed = b'; wrote = c'; station = box_of s' h' t' })
same_box p q r u v w = rw (p, q, r, u, v, w) refl

-- what was told of the parts, and the bytes held, are all that a call leaves
pub put_together : (p : Parts) (f : Made.Fed Parts) (held : List ℕ) (call : Fed) → held_says p (Ok f) ≡ parts_of call
    → held ≡ call.station.store.held → fed_with f held ≡ call
put_together p f held call told kept =
    same_box (ap (λ (k : FedHeld). k.code) told) (ap (λ (k : FedHeld). k.consumed) told) (ap (λ (k : FedHeld). k.wrote) told)
    (ap (λ (k : FedHeld). k.taken) told) (ap (λ (k : FedHeld). k.settings) told) kept
