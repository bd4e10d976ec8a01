-- Every line `C` adds up, of every input.
use Prim.Native.Nat.{ℕ}
use mathlib.Core.Path.{◌≡◌, refl}
use mathlib.Core.Bool.{Bool, true, false}
use mathlib.Core.List.{List, [], ◌∷◌, ◌++◌}
use native.Mathlib.Omega.{arith}
use lib.Dec.{eqb}
use lib.ListN.{length, drop}
use Rattle.wire.proofs.Laws.{pick_keeps}
use Rattle.heads.specs.declared.Head.{Head}
use Rattle.heads.specs.Head.{head_length_in, head_in, head_read_code}
use Rattle.lines.specs.Lines.{Line, opening_line, refusal_line, end_line}
use Rattle.spans.specs.Report.{Known, nothing, packets_in, packet_code, accepts}
use Rattle.spans.specs.Report.{known_after, line_of, ended, begins}
use Rattle.spans.specs.Report.{at_packet, lines_from, lines_of, adds_up, all_add_up, EveryLineAddsUp}
use Rattle.spans.proofs.Stepped.{Stepped, stepped_adds_up}
use Rattle.spans.proofs.Follows.{accepted_stepped}

-- lines that add up, one behind the other
both : (ls ms : List Line) → all_add_up ls → all_add_up ms → all_add_up (ls ++ ms)
both [] ms a b = b
both (l ∷ ls) ms a b = (a.0, both ls ms a.1 b)

opening_adds : adds_up opening_line
opening_adds e = let z : ◌≡◌ {A = ℕ} 0x53 0x43 = cc in absurd (omega arith)

refusal_adds : (code offset : ℕ) → adds_up (refusal_line code offset)
refusal_adds code offset e = let z : ◌≡◌ {A = ℕ} 0x52 0x43 = cc in absurd (omega arith)

end_adds : (captures : ℕ) → adds_up (end_line captures)
end_adds captures e = let z : ◌≡◌ {A = ℕ} 0x45 0x43 = cc in absurd (omega arith)

line_adds : (h : Head) (capture : ℕ) (accepted : List ℕ) → Stepped accepted → all_add_up (line_of h capture accepted)
line_adds h capture [] t = tt
line_adds h capture (last ∷ before) t = (λ e. stepped_adds_up last before t, tt)

lines_add : (packets : List (List ℕ)) (h : Head) (k : Known) → Stepped k.accepted → all_add_up (lines_from h k packets)
unfolding lines_from
lines_add [] h k t = both (ended h k) _ (line_adds h k.captures k.accepted t) (end_adds k.captures, tt)
lines_add (packet ∷ packets) h k t = by (accepts h k packet) refl (lines_add packets h (known_after h k packet))
  where
    own : all_add_up (ended h k)
    own = line_adds h k.captures k.accepted t

    by : (done : Bool) → accepts h k packet ≡ done
        → (Stepped (known_after h k packet).accepted → all_add_up (lines_from h (known_after h k packet) packets))
        → all_add_up (lines_from h k (packet ∷ packets))
    by true e later =
        rw e
        (both (at_packet h k packet) _ (pick_keeps all_add_up (begins packet) (ended h k) [] (λ q. own) (λ q. tt))
        (later (accepted_stepped h k packet e t)))
    by false e later = rw e (both (ended h k) _ own (refusal_adds (packet_code h k packet) k.offset, tt))

pub every_line_adds_up : EveryLineAddsUp
unfolding lines_of
every_line_adds_up input =
    let packets : List (List ℕ) = packets_in (length input) (drop (head_length_in input) input) in (
      opening_adds,
      pick_keeps all_add_up (eqb (head_read_code input) 1) (lines_from (head_in input) (nothing (head_length_in input)) packets)
          (refusal_line (head_read_code input) 0 ∷ [])
          (λ e. lines_add packets (head_in input) (nothing (head_length_in input)) tt) (λ e. (refusal_adds (head_read_code input) 0, tt)),
    )
