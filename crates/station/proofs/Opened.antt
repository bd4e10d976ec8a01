-- A finished message is answered from the ten bytes that lie from its first on as from all that is held of it.
-- Assumes nothing.
use Prim.Native.Nat.{ℕ, zero, suc, ◌≤◌}
use mathlib.Core.Path.{◌≡◌, refl, sym, ap, subst, ◌∙◌}
use mathlib.Core.Bool.{true, false, and-false}
use mathlib.Core.List.{List, [], ◌∷◌, ◌++◌}
use native.Mathlib.Omega.{arith}
use borrow.Author.Tests.{eq-eqb}
use lib.Dec.{ltb}
use lib.ListN.{length, get_or, take, replicate, length-take, length-append, length-replicate}
use Rattle.wire.specs.Choice.{pick}
use Rattle.framing.specs.Framing.{Taking, header_in, announced, between, call_takes, could_be_left}
use Rattle.framing.specs.Telling.{Took, first_ten, lying, took_of, took_in, held_after}
use Rattle.framing.proofs.Cutting.{taken_unused, taken_long, finished_whole}
use Rattle.framing.proofs.FirstTen.{ten_bytes, held_opening}
use Rattle.framing.proofs.Leaving.{left_long, left_open, left_zeros}
use Rattle.framing.proofs.Totals.{total_length}
use Rattle.framing.proofs.Whole.{lying_read}
use Rattle.items.specs.declared.Settings.{Settings}
use Rattle.items.specs.Answer.{Message, code_of, settings_after, reply_of}
use Rattle.items.proofs.TenBytes.{held_message, Same, ten_decide}
use Rattle.items.proofs.Behind.{cut_at, behind_nothing}
use Rattle.station.specs.declared.Station.{Station}
use Rattle.station.specs.Station.{valid}
use Rattle.station.specs.Feeding.{Feeding, message_in, feeding_of, refused, waiting_call}
use Rattle.station.specs.Inside.{opened, answering}
use Rattle.station.proofs.Valid.{valid_store, feeding_open, feeding_done}

-- ---- ten bytes as they lie, with zeros from the n-th on, are the message's own ten

zeros_cut : (n k : ℕ) → cut_at n (replicate k 0) ≡ replicate k 0
zeros_cut n zero = refl
zeros_cut zero (suc k) = ap (λ (l : List ℕ). 0 ∷ l) (zeros_cut zero k)
zeros_cut (suc n) (suc k) = ap (λ (l : List ℕ). 0 ∷ l) (zeros_cut n k)

all_cut : (l : List ℕ) → cut_at zero l ≡ replicate (length l) 0
all_cut [] = refl
all_cut (b ∷ l) = ap (λ (r : List ℕ). 0 ∷ r) (all_cut l)

take_zeros : (k m : ℕ) → k ≤ m → take {A = ℕ} k (replicate m 0) ≡ replicate k 0
take_zeros zero m room = refl
take_zeros (suc k) zero room = absurd (omega arith)
take_zeros (suc k) (suc m) room = ap (λ (l : List ℕ). 0 ∷ l) (take_zeros k m (omega arith))

padded_cut : (n k m : ℕ) (l : List ℕ) → k ≤ m → cut_at n (take k (l ++ replicate m 0)) ≡ take k (take n l ++ replicate m 0)
padded_cut n zero m l room = refl
padded_cut zero (suc k) m [] room = rw (take_zeros (suc k) m room) (zeros_cut 0 (suc k))
padded_cut (suc n) (suc k) m [] room = rw (take_zeros (suc k) m room) (zeros_cut (suc n) (suc k))
padded_cut zero (suc k) m (b ∷ l) room =
    let rest = take k (l ++ replicate m 0) in
    let many : length rest ≡ k = simp (length-take, length-append, length-replicate) (omega arith) in
    ap (λ (r : List ℕ). 0 ∷ r) (all_cut rest ∙ ap (λ (j : ℕ). replicate j 0) many) ∙ sym (take_zeros (suc k) m room)
padded_cut (suc n) (suc k) m (b ∷ l) room = ap (λ (r : List ℕ). b ∷ r) (padded_cut n k m l (omega arith))

ten_cut : (n : ℕ) (l : List ℕ) → cut_at n (first_ten l) ≡ first_ten (take n l)
unfolding first_ten
ten_cut n l = padded_cut n 10 10 l (omega arith)

-- ---- the header is in the first two

header_cut : (n : ℕ) (l : List ℕ) → 2 ≤ n → header_in (cut_at n l) ≡ header_in l
header_cut n [] two = refl
header_cut zero (a ∷ l) two = absurd (omega arith)
header_cut (suc zero) (a ∷ l) two = absurd (omega arith)
header_cut (suc (suc n)) (a ∷ []) two = refl
header_cut (suc (suc n)) (a ∷ b ∷ l) two = refl

header_of_ten : (held : List ℕ) → 2 ≤ length held → header_in (take 10 held) ≡ header_in held
header_of_ten [] long = absurd (omega arith)
header_of_ten (a ∷ []) long = absurd (omega arith)
header_of_ten (a ∷ b ∷ held) long = refl

-- ---- what an answer is made of
abbrev answering_by : Station → ℕ → ℕ → ℕ → Settings → List ℕ → Feeding
answering_by s count room code after reply =
    pick (ltb room (length reply)) (refused 20 s)
    (record {
      fed = record { code = code; consumed = count; wrote = length reply; station = record { settings = after; store = between } };
      bytes = reply;
    })

-- what was taken, with other bytes held
abbrev holding_other : List ℕ → Taking → Taking
holding_other ten t =
    record { store = record { held = ten; taken = t.store.taken }; count = t.count; finished = t.finished }

-- the message in what was taken, of which these bytes are held
abbrev message_of : Taking → List ℕ → Message
message_of t held = held_message (message_in t.store).type (message_in t.store).size held

-- bytes of which the box makes the same are answered the same
same_answer : (s : Station) (t : Taking) (room : ℕ) (ten : List ℕ) → header_in ten ≡ header_in t.store.held
    → Same s.settings (message_of t ten) (message_in t.store) → answering s (holding_other ten t) room ≡ answering s t room
same_answer s t room ten header same =
    let b = s.settings in
    let short = message_of t ten in
    let full = message_in t.store in
    rw header
    (ap (λ (k : ℕ). answering_by s t.count room k (settings_after b short) (reply_of b short)) same.code
    ∙ ap (λ (a : Settings). answering_by s t.count room (code_of b full) a (reply_of b short)) same.after
    ∙ ap (λ (r : List ℕ). answering_by s t.count room (code_of b full) (settings_after b full) r) same.reply)

joined_same : {s : Settings} {l m n : Message} → Same s l m → Same s m n → Same s l n
joined_same p q = record { code = p.code ∙ q.code; after = p.after ∙ q.after; reply = p.reply ∙ q.reply }

module _ (s : Station) (host : List ℕ) (room : ℕ) (r : Took) (after : List ℕ) (v : valid s ≡ true)
    (told : r ≡ took_in s.store host) (left : after ≡ held_after s.store host) where
  abbrev all : Taking
  all = call_takes s.store host

  could : could_be_left s.store ≡ true
  could = valid_store s.settings s.store v

  long : length s.store.held ≡ 64
  long = left_long s.store could

  -- the ten bytes that lie from the message's first on
  abbrev ten : List ℕ
  ten = first_ten (lying s.store host)

  took : r ≡ took_of all ten
  took = told ∙ rw (eq-eqb (length s.store.held) 64 long) refl

  ends : r.finished ≡ all.finished
  ends = ap (λ (k : Took). k.finished) took

  -- what the call took, with what is held after it
  abbrev holding : Taking
  holding = record { store = record { held = after; taken = r.taken }; count = r.count; finished = r.finished }

  -- a message that is not finished
  pub waits : r.finished ≡ false → waiting_call s.settings holding ≡ feeding_of s host room
  waits f =
      let open' : all.finished ≡ false = sym ends ∙ f in
      let kept : after ≡ all.store.held = left ∙ rw (eq-eqb (length s.store.held) 64 long, open') refl in
      feeding_open s host room holding v (rw (kept, took) refl) f

  -- a finished one: it is answered, and nothing more of it is held
  pub answers : r.finished ≡ true → answering s (opened r) room ≡ feeding_of s host room
  answers f = rw (took, sym ends ∙ f) (same_answer s all room ten header same ∙ feeding_done s host room all v refl (sym ends ∙ f))
    where
      held_long : length all.store.held ≡ 64
      held_long = taken_long 0 s.store host ∙ long

      -- all of it is taken, and no more
      whole : (2 ≤ all.store.taken) × (all.store.taken ≡ announced all.store.held)
      whole = finished_whole 0 s.store host (left_open s.store could) (sym ends ∙ f)

      -- with zeros behind its end they are the first ten held
      own : cut_at all.store.taken ten ≡ take 10 all.store.held
      own =
          ten_cut all.store.taken (lying s.store host)
          ∙ lying_read s.store host (omega (arith, long))
          ∙ held_opening all.store.taken all.store.held (omega (arith, held_long))
          (taken_unused 0 s.store host (left_zeros s.store could))

      header : header_in ten ≡ header_in all.store.held
      header =
          sym (header_cut all.store.taken ten whole.0)
          ∙ ap header_in own ∙ header_of_ten all.store.held (omega (arith, held_long))

      type : ℕ
      type = (message_in all.store).type

      size : ℕ
      size = (message_in all.store).size

      counted : 2 ≤ size → all.store.taken ≡ size
      counted more = whole.1 ∙ total_length type size (omega arith) ∙ omega arith

      lies : Same s.settings (held_message type size ten) (held_message type size (cut_at all.store.taken ten))
      lies =
          let l = lying s.store host in
          subst (λ (k : List ℕ). Same s.settings (held_message type size k) (held_message type size (cut_at all.store.taken k)))
          (ten_bytes l)
          (behind_nothing s.settings type size all.store.taken (get_or l 0 0) (get_or l 1 0) (get_or l 2 0) (get_or l 3 0) (get_or l 4 0)
          (get_or l 5 0) (get_or l 6 0) (get_or l 7 0) (get_or l 8 0) (get_or l 9 0) counted)

      same : Same s.settings (message_of all ten) (message_in all.store)
      same = joined_same lies (rw own (ten_decide s.settings type size all.store.held (omega (arith, held_long))))

  pub same_held : r.finished ≡ true → after ≡ s.store.held
  same_held f = left ∙ rw (sym ends ∙ f, and-false) refl
