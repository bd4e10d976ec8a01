-- The bytes of the values that replies show.
use Prim.Native.Nat.{ℕ, zero, suc, ◌+◌, ◌*◌, ◌<◌}
use mathlib.Core.Path.{◌≡◌, refl, sym, ap, ◌∙◌}
use mathlib.Core.Bool.{true, false}
use mathlib.Core.List.{List, [], ◌∷◌, ◌++◌}
use native.Mathlib.Omega.{arith}
use lib.Dec.{lit<}
use lib.ListN.{length, get_or, take, length-append}
use lib.Seq.{take_all}
use Rattle.std.specs.Prelude.{Some}
use Rattle.wire.specs.Number.{number, bytes, field}
use Rattle.wire.specs.Header.{type_reply}
use Rattle.wire.proofs.Numbers.{bytes_number}
use Rattle.layouts.specs.Layouts.{laid}
use Rattle.items.specs.Settings.{fresh_of}
use Rattle.items.specs.Items.{version_table, is_version, versions, state_bytes}
use Rattle.items.proofs.Versions.{version_has, no_version_has}
use Rattle.items.specs.Answer.{framed, reply_body}
use Rattle.answers.specs.Inside.{replying}

-- 80, run byte, mode, 00
pub state_bytes_lem : (run mode n : ℕ) → run < 256 → mode < 256 → n ≡ number (state_bytes run mode) → bytes 4 n ≡ state_bytes run mode
state_bytes_lem run mode n r m is = ap (bytes 4) is ∙ bytes_number (state_bytes run mode) small
  where
    small : (k : ℕ) → get_or (state_bytes run mode) k 0 < 256
    small zero = lit< tt
    small (suc zero) = r
    small (suc (suc zero)) = m
    small (suc (suc (suc zero))) = lit< tt
    small (suc (suc (suc (suc k)))) = lit< tt

number_zero : (l : List ℕ) → number (l ++ 0x00 ∷ []) ≡ number l
number_zero [] = refl
number_zero (b ∷ l) = ap (λ (n : ℕ). b + 256 * n) (number_zero l)

small_zero : (l : List ℕ) → ((k : ℕ) → get_or l k 0 < 256) → (k : ℕ) → get_or (l ++ 0x00 ∷ []) k 0 < 256
small_zero [] h zero = lit< tt
small_zero [] h (suc k) = lit< tt
small_zero (b ∷ l) h zero = h 0
small_zero (b ∷ l) h (suc k) = small_zero l (λ n. h (suc n)) k

-- eight characters and a zero byte
pub serial_bytes : (serial : List ℕ) → length serial ≡ 8 → ((k : ℕ) → get_or serial k 0 < 256) → (v : ℕ) → v ≡ field 0 8 serial
    → bytes 9 v ≡ serial ++ 0x00 ∷ []
serial_bytes serial long small v is =
    let all : take 8 serial ≡ serial = take_all 8 serial (omega arith) in
    let nine : length (serial ++ 0x00 ∷ []) ≡ 9 = length-append serial (0x00 ∷ []) ∙ omega arith in
    let same : v ≡ number (serial ++ 0x00 ∷ []) = is ∙ ap number all ∙ sym (number_zero serial) in
    ap (bytes 9) same ∙ (rw nine at (bytes_number (serial ++ 0x00 ∷ []) (small_zero serial small)))

-- the reply to a request of a version, and to one of what is none
abbrev version_reply : ℕ → List ℕ
version_reply id = framed type_reply (reply_body versions (fresh_of []) (id ∷ []))

pub version_laid : (id : ℕ) → is_version id ≡ true → laid (replying 0x0004 (Some id) 2 (number (get_or version_table id []))) ≡ version_reply id
version_laid =
    version_has (λ id. laid (replying 0x0004 (Some id) 2 (number (get_or version_table id []))) ≡ version_reply id) refl refl refl refl

pub no_version : (id : ℕ) → is_version id ≡ false → laid (replying 0x0004 (Some id) 0 0) ≡ version_reply id
no_version = no_version_has (λ id. laid (replying 0x0004 (Some id) 0 0) ≡ version_reply id) (λ k. refl)
