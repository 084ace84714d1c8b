-- Proofs of the goals of `one_state_spelling` (`laws`).
use Rattle.std.proofs.Common.{refl, ap, ◌∙◌}
use Rattle.answer_fields.specs.declared.format.Format.{Format}
use Rattle.partial_codec.specs.State.{state_spelling}
use Rattle.partial_codec.proofs.laws.one_state_spelling.Goals as goal

pub returns : goal.returns
returns c = λ format job cells kinds fit. (
  record { format = format; kinds = kinds; fits = fit; spelled = refl },
  λ bytes spells same. spells.spelled ∙ ap (λ (f : Format). state_spelling f job cells) same,
)
