-- Proofs of the goals of `int_parts` (`broadcast`).
use Rattle.std.proofs.Common.{pos, refl}
use Rattle.meaning.specs.declared.value.Value.TheVariants.{Int}
use Rattle.vectors.specs.Lanes.{ints_of}
use Rattle.vector_operators.proofs.Parts.{are_parts}
use Rattle.vector_operators.proofs.broadcast.int_parts.Goals as goal

pub returns : goal.returns
returns c = are_parts Int (λ x. refl) (pos 0) (ints_of c.parts.result.0.now) c.parts.result.1.now c.args.ints.now c.parts.ensures.sound c.parts.ensures.value
