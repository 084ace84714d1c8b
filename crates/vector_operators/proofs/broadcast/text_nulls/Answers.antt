-- Proofs of the goals of `text_nulls` (`broadcast`).
use Rattle.std.proofs.Common.{rules, refl, []}
use Rattle.meaning.specs.declared.value.Value.TheVariants.{Text}
use Rattle.vectors.specs.Lanes.{texts_of}
use Rattle.vector_operators.proofs.Parts.{nulls_are}
use Rattle.vector_operators.proofs.broadcast.text_nulls.Goals as goal

pub returns : goal.returns
returns c =
    let are = nulls_are Text (λ x. refl) [] (texts_of c.parts.result.0.now) c.parts.result.1.now c.args.texts.now c.parts.ensures.sound c.parts.ensures.value in
    search (rules, are)
