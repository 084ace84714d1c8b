-- Proofs of the goals of `eval_lanes` (`evaluation`).
use Rattle.std.proofs.Common.{◌∙◌, sym}
use Rattle.primitives.proofs.VectorGives.{vector_evaluated, vector_typed}
use Rattle.primitives.proofs.evaluation.eval_lanes.Goals as goal

pub returns-clause-evaluated : goal.returns-clause-evaluated
returns-clause-evaluated c =
    vector_evaluated _ _ _ _ _ _ _ _ c.below.ensures.sound (c.requires ∙ sym c.rows.ensures) c.in_ok-given.ensures.gives c.into_vector.ensures.value

pub returns-clause-typed : goal.returns-clause-typed
returns-clause-typed c =
    vector_typed _ _ _ _ _ _ _ c.in_ok-given.ensures.gives c.into_vector.ensures.typed
