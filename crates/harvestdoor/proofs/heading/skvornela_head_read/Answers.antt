-- What reading found, told as numbers.
use Rattle.std.proofs.Common.{◌≡◌, refl, ap, ◌∙◌, Result, Ok, Err}
use Rattle.std.specs.Result.{result_unwrap_or}
use Rattle.wire.specs.Refusal.{code_of}
use Rattle.wire.specs.declared.refusal.Refusal.{Refusal}
use Rattle.heads.specs.declared.Head.{Head}
use Rattle.heads.specs.Head.{opened_says}
use Rattle.harvestdoor.specs.Heads.{Found, found, no_head}
use Rattle.harvestdoor.proofs.heading.skvornela_head_read.Goals as goal

-- a head is there with the code of what was done alone
told : (o : Result Head Refusal) → ◌≡◌ {A = Found} (record { code = code_of o; head = result_unwrap_or o no_head }) (found (opened_says o))
told (Ok h) = refl
told (Err r) = refl

pub returns : goal.returns
returns c =
    rw (c.code_of.ensures, c.unwrap_or-head.ensures) (told c.read_head-answer.result ∙ ap found c.read_head-answer.ensures)
