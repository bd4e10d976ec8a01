-- Where frequency and clock have a word, it is the quotient.
use Rattle.std.proofs.Common.{◌≡◌, ℕ, ◌*◌, ◌^◌, true, Ok, sym, ap, ◌∙◌}
use Rattle.wire.specs.Halves.{halves_up}
use Rattle.wire.proofs.Laws.{and_left}
use Rattle.tuning.specs.Bands.{in_bands}
use Rattle.tuning.specs.Word.{is_clock, has_word, word_of, word_says}
use Rattle.tuning.proofs.Words.{word_is}
use Rattle.tuning.proofs.word.word_of.Goals as goal

pub returns : goal.returns
unfolding word_of
returns c =
    let a = c.args in
    let has : has_word a.hz a.clock ≡ true = sym c.has_word.ensures ∙ c.if-not-has_word.false in
    let n = c.offset_of.ensures.0 (and_left (in_bands a.hz) (is_clock a.clock) has) in
    ap (λ (w : ℕ). word_says (Ok w)) (c.nearest.ensures ∙ ap (λ (n : ℕ). halves_up (n * 2 ^ 32) a.clock) n)
    ∙ word_is a.hz a.clock has
