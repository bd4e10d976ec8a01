-- Fields stored one behind the other are the store of the whole reader.
use Prim.Native.Nat.{ℕ}
use mathlib.Core.Path.{◌≡◌, sym, ◌∙◌}
use mathlib.Core.List.{List}
use mir.Val.{bool_byte}
use lib.ListN.{length}
use lib.Seq.{sets}
use Rattle.wire.specs.Number.{bytes}
use Rattle.wire.proofs.Laws.{flag_byte}
use Rattle.wire.proofs.Stores.{sets_whole}
use Rattle.reader.specs.declared.Reader.{Reader}
use Rattle.harvestdoor.specs.States.{reader_bytes}

pub reader_stored : (r : Reader) (l a b c d e f : List ℕ) → length l ≡ 34
    → a ≡ sets l 0 (bytes 8 r.position) → b ≡ sets a 8 (bytes 8 r.form.bits)
    → c ≡ sets b 16 (bytes 8 r.form.pairs) → d ≡ sets c 24 (bytes 8 r.total) → e ≡ sets d 32 (bytes 1 (bool_byte r.heard))
    → f ≡ sets e 33 (bytes 1 r.channels) → f ≡ reader_bytes r
unfolding reader_bytes
reader_stored r l a b c d e f room p q t u v w =
    let whole : f ≡ sets l 0 (reader_bytes r) = rw (w, v, u, t, q, p, flag_byte r.heard) in
    whole ∙ sets_whole l (reader_bytes r) (sym room)
