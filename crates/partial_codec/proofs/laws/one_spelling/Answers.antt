-- Proofs of the goals of `one_spelling` (`laws`).
use Rattle.std.proofs.Common.{refl, ap, ◌∙◌}
use Rattle.answer_fields.specs.declared.format.Format.{Format}
use Rattle.partial_codec.specs.Spelling.{answer_spelling}
use Rattle.partial_codec.proofs.laws.one_spelling.Goals as goal

pub returns : goal.returns
returns c = λ format job a kinds fit. (
  record { format = format; kinds = kinds; fits = fit; spelled = refl },
  λ bytes spells same. spells.spelled ∙ ap (λ (f : Format). answer_spelling f job a) same,
)
