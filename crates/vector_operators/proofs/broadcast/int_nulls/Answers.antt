-- Proofs of the goals of `int_nulls` (`broadcast`).
use Rattle.std.proofs.Common.{rules, pos, refl}
use Rattle.meaning.specs.declared.value.Value.TheVariants.{Int}
use Rattle.vectors.specs.Lanes.{ints_of}
use Rattle.vector_operators.proofs.Parts.{nulls_are}
use Rattle.vector_operators.proofs.broadcast.int_nulls.Goals as goal

pub returns : goal.returns
returns c =
    let are = nulls_are Int (λ x. refl) (pos 0) (ints_of c.parts.result.0.now) c.parts.result.1.now c.args.ints.now c.parts.ensures.sound c.parts.ensures.value in
    search (rules, are)
