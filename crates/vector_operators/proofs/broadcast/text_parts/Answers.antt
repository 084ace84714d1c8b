-- Proofs of the goals of `text_parts` (`broadcast`).
use Rattle.std.proofs.Common.{[], refl}
use Rattle.meaning.specs.declared.value.Value.TheVariants.{Text}
use Rattle.vectors.specs.Lanes.{texts_of}
use Rattle.vector_operators.proofs.Parts.{are_parts}
use Rattle.vector_operators.proofs.broadcast.text_parts.Goals as goal

pub returns : goal.returns
returns c = are_parts Text (λ x. refl) [] (texts_of c.parts.result.0.now) c.parts.result.1.now c.args.texts.now c.parts.ensures.sound c.parts.ensures.value
