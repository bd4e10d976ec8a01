-- Words, and the head's bytes or the word that they come to.
use Prim.Native.Nat.{ℕ}
use mathlib.Core.Path.{◌≡◌, refl}
use mathlib.Core.List.{List, [], ◌∷◌}
use Rattle.heads.specs.Head.{head_bytes}
use Rattle.std.proofs.Common.{Ok, Err}
use Rattle.headwords.specs.declared.BadWord.TheVariants as Bad
use Rattle.headwords.specs.Words.{Worded, is_number, number_of, word24, twice24, twice16, small, dash, plain_of, names_of, named_of}

bytes_in : Worded → List ℕ
bytes_in (Ok h) = head_bytes h
bytes_in (Err bad) = []

-- 100, 14010000, MT123456, 79999990
d : List ℕ
d = 0x31 ∷ 0x30 ∷ 0x30 ∷ []

hz : List ℕ
hz = 0x31 ∷ 0x34 ∷ 0x30 ∷ 0x31 ∷ 0x30 ∷ 0x30 ∷ 0x30 ∷ 0x30 ∷ []

serial : List ℕ
serial = 0x4D ∷ 0x54 ∷ 0x31 ∷ 0x32 ∷ 0x33 ∷ 0x34 ∷ 0x35 ∷ 0x36 ∷ []

clock : List ℕ
clock = 0x37 ∷ 0x39 ∷ 0x39 ∷ 0x39 ∷ 0x39 ∷ 0x39 ∷ 0x39 ∷ 0x30 ∷ []

four_words : bytes_in (plain_of d hz word24 small)
    ≡ 0x53 ∷ 0x50 ∷ 0x4E ∷ 1 ∷ 0 ∷ 0x64 ∷ 0 ∷ 0x90 ∷ 0xC6 ∷ 0xD5 ∷ 0 ∷ 0 ∷ 0x80 ∷ 1 ∷ []
unfolding bytes_in d hz is_number number_of plain_of head_bytes
four_words = refl

six_words : bytes_in (named_of d hz word24 small serial clock)
    ≡ 0x53 ∷ 0x50 ∷ 0x4E ∷ 2 ∷ 0 ∷ 0x64 ∷ 0 ∷ 0x90 ∷ 0xC6 ∷ 0xD5 ∷ 0 ∷ 0 ∷ 0x80 ∷ 1
    ∷ 0x4D ∷ 0x54 ∷ 0x31 ∷ 0x32 ∷ 0x33 ∷ 0x34 ∷ 0x35 ∷ 0x36 ∷ 0xF6 ∷ 0xB3 ∷ 0xC4 ∷ 4 ∷ []
unfolding bytes_in d hz serial clock is_number number_of plain_of names_of head_bytes
six_words = refl

-- of two channels
two_channels_lem : bytes_in (plain_of d hz twice24 small)
    ≡ 0x53 ∷ 0x50 ∷ 0x4E ∷ 1 ∷ 0 ∷ 0x64 ∷ 0 ∷ 0x90 ∷ 0xC6 ∷ 0xD5 ∷ 0 ∷ 0 ∷ 0xC0 ∷ 1 ∷ []
unfolding bytes_in d hz is_number number_of plain_of head_bytes
two_channels_lem = refl

two_named : bytes_in (named_of d hz twice16 small serial clock)
    ≡ 0x53 ∷ 0x50 ∷ 0x4E ∷ 2 ∷ 0 ∷ 0x64 ∷ 0 ∷ 0x90 ∷ 0xC6 ∷ 0xD5 ∷ 0 ∷ 0 ∷ 0x40 ∷ 1
    ∷ 0x4D ∷ 0x54 ∷ 0x31 ∷ 0x32 ∷ 0x33 ∷ 0x34 ∷ 0x35 ∷ 0x36 ∷ 0xF6 ∷ 0xB3 ∷ 0xC4 ∷ 4 ∷ []
unfolding bytes_in d hz serial clock is_number number_of plain_of names_of head_bytes
two_named = refl

-- the first bad word in their order
first_bad : named_of dash dash word24 small serial clock ≡ Err Bad.Divisor
unfolding serial clock is_number number_of plain_of
first_bad = refl

-- a word is whole: `-` among digits is no number
no_number : number_of (0x31 ∷ 0x30 ∷ 0x2D ∷ []) ≡ 0
unfolding is_number number_of
no_number = refl
